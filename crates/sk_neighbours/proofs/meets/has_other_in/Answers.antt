use Rattle.sk_neighbours.specs.Partners.{IsOther}
use Rattle.sk_base.specs.declared.Elem.{Elem}
use Rattle.sk_base.proofs.Searches.{none_more, none_at_all, refused}
use Rattle.sk_neighbours.proofs.meets.has_other_in.Goals as goal

pub loop-elem-preserved : goal.loop-elem-preserved
loop-elem-preserved c =
    none_more (λ (e : Elem). IsOther c.args.many.now c.args.a e) c.args.few.now c.loop-elem.elem-index c.loop-elem.invariant
    (record { 0 = 0 }) c.loop-elem-test.true (refused c.if-is_other.ensures.1)

pub returns : goal.returns
returns c =
    ((λ h. absurd (cc)), (λ (e, e_in, e_many). absurd (none_at_all (λ (e : Elem). IsOther c.args.many.now c.args.a e) c.args.few.now c.loop-elem.elem-index c.loop-elem.invariant c.loop-elem-test.false e e_in e_many)))
