use Rattle.std.proofs.Common.{◌+◌, List, IsTrue, get_or, take, drop, sym, subst}
use Rattle.std.specs.Prelude.{All}
use Rattle.std.proofs.lemmas.List.{take_more, take_all}
use Rattle.std.proofs.lemmas.List.Elements.{All-push}
use Rattle.sk_base.specs.declared.Name.{Name}
use Rattle.sk_base.specs.declared.Name.TheVariants.{Con}
use Rattle.sk_base.proofs.Searches.{refused}
use Rattle.sk_family.specs.Clusters.{IsLive}
use Rattle.sk_offers.proofs.Places.{around_place}
use Rattle.sk_offers.proofs.board.first_not_live.Goals as goal

pub returns-then-not-live-clause-some : goal.returns-then-not-live-clause-some
returns-then-not-live-clause-some c =
    let names = c.args.names.now in
    let i = c.loop-name.name-index in
    record {
      before = take i names;
      after = drop (i + 1) names;
      parts = around_place names i (Con 0) c.loop-name-test.true;
      live_before = c.loop-name.invariant;
      not_live = refused (subst (λ r. IsLive c.args.family.now (get_or names i (Con 0)) → IsTrue r) c.if-not-live.true c.live.ensures.1);
    }

pub loop-name-preserved : goal.loop-name-preserved
loop-name-preserved c =
    let names = c.args.names.now in
    let i = c.loop-name.name-index in
    subst (λ (front : List Name). All (λ n. IsLive c.args.family.now n) front) (sym (take_more names i (Con 0) c.loop-name-test.true))
    (All-push (λ n. IsLive c.args.family.now n) (take i names) (get_or names i (Con 0)) c.loop-name.invariant (c.live.ensures.0 c.if-not-live.false))

pub returns-clause-none : goal.returns-clause-none
returns-clause-none c =
    subst (λ (front : List Name). All (λ n. IsLive c.args.family.now n) front) (take_all c.loop-name.name-index c.args.names.now c.loop-name-test.false) c.loop-name.invariant
