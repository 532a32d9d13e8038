use Rattle.std.proofs.Common.{get_or}
use Rattle.std.specs.Prelude.{Contains}
use Rattle.std.proofs.lemmas.List.Elements.{Contains-get_or}
use Rattle.sk_base.specs.declared.Elem.{Elem}
use Rattle.sk_base.proofs.Searches.{none_more, none_at_all, refused}
use Rattle.sk_neighbours.proofs.Sharing.{two_of_other, other_of_two}
use Rattle.sk_neighbours.proofs.meets.has_two_in.Goals as goal

pub returns-then-is_in_rising : goal.returns-then-is_in_rising
returns-then-is_in_rising c =
    let a : Elem = get_or c.args.few.now c.loop-a.a-index (record { 0 = 0 }) in
    let a_few = Contains-get_or c.args.few.now c.loop-a.a-index (record { 0 = 0 }) c.loop-a-test.true in
    let a_many = c.is_in_rising.ensures.0 c.if-is_in_rising.true in (
      (λ h. two_of_other c.args.few.now c.args.many.now a a_few a_many (c.has_other_in.ensures.0 h)),
      (λ two. c.has_other_in.ensures.1 (other_of_two c.args.few.now c.args.many.now a two)),
    )

pub loop-a-preserved : goal.loop-a-preserved
loop-a-preserved c =
    none_more (λ (e : Elem). Contains c.args.many.now e) c.args.few.now c.loop-a.a-index c.loop-a.invariant
    (record { 0 = 0 }) c.loop-a-test.true (refused c.if-is_in_rising.ensures.1)

pub returns : goal.returns
returns c =
    ((λ h. absurd (cc)), (λ (p, q, pair). absurd (none_at_all (λ (e : Elem). Contains c.args.many.now e) c.args.few.now c.loop-a.a-index c.loop-a.invariant c.loop-a-test.false p pair.a_shared.0 pair.a_shared.1)))
