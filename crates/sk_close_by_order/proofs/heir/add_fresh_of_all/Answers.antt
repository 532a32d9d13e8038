use Rattle.std.proofs.Common.{refl, subst, List}
use Rattle.std.specs.Prelude.{All}
use Rattle.std.proofs.lemmas.List.{take_all}
use Rattle.std.proofs.lemmas.List.Elements.{All-more}
use Rattle.sk_base.specs.declared.Name.{Name}
use Rattle.sk_family.specs.Clusters.{IsLive}
use Rattle.sk_close_by_order.proofs.Freshening.{fresh_more}
use Rattle.sk_close_by_order.proofs.heir.add_fresh_of_all.Goals as goal

pub loop-name-preserved : goal.loop-name-preserved
loop-name-preserved c =
    let f = c.args.family.now in
    let names = c.args.names.now in
    let i = c.loop-name.name-index in
    let brings = c.if-not-add_fresh_of.ensures in
    record {
      live = All-more (λ n. IsLive f n) names i _ c.loop-name-test.true c.loop-name.invariant.live (brings.live refl);
      on = fresh_more f c.args.base.now.name names i _ c.loop-name-test.true c.args.fresh.now c.loop-name.fresh c.add_fresh_of.new.fresh c.loop-name.invariant.on (brings.on refl);
    }

pub returns-clause-live : goal.returns-clause-live
returns-clause-live c is =
    subst (λ (ns : List Name). All (λ n. IsLive c.args.family.now n) ns) (take_all c.loop-name.name-index c.args.names.now c.loop-name-test.false) c.loop-name.invariant.live
