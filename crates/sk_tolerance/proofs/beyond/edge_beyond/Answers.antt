use Rattle.std.proofs.Common.{List, get_or, subst, refl, arith}
use Rattle.std.proofs.lemmas.List.{take_all}
use Rattle.std.proofs.lemmas.List.Elements.{Contains-get_or}
use Rattle.sk_base.specs.declared.Edge.{Edge}
use Rattle.sk_measure.specs.Items.{constraint}
use Rattle.sk_tolerance.specs.Tolerances.{between, AllHold}
use Rattle.sk_measure.proofs.Placings.{any_edge}
use Rattle.sk_tolerance.proofs.Passings.{mapped_more, mapped_there}
use Rattle.sk_tolerance.proofs.beyond.edge_beyond.Goals as goal

pub own_least-requires : goal.own_least-requires
own_least-requires c = c.requires (get_or c.args.edges.now c.loop-e.e-index any_edge) (Contains-get_or c.args.edges.now c.loop-e.e-index any_edge (omega arith))

pub returns-in-Some : goal.returns-in-Some
returns-in-Some c =
    let e : Edge = get_or c.args.edges.now c.loop-e.e-index any_edge in
    mapped_there c.args.p.now c.args.limit (λ (x : Edge). constraint x) c.args.edges.now c.loop-e.e-index any_edge (omega arith) c.in-Some.beyond c.loop-e.invariant (c.in-Some.ensures c.args.p.now (constraint e) c.own_least.ensures refl)

pub loop-e-preserved : goal.loop-e-preserved
loop-e-preserved c =
    let e : Edge = get_or c.args.edges.now c.loop-e.e-index any_edge in
    mapped_more c.args.p.now c.args.limit (λ (x : Edge). constraint x) c.args.edges.now c.loop-e.e-index any_edge (omega arith) c.loop-e.invariant (c.in_default.ensures c.args.p.now (constraint e) c.own_least.ensures refl)

pub returns : goal.returns
returns c = subst (λ (xs : List Edge). AllHold c.args.p.now (between xs) c.args.limit) (take_all c.loop-e.e-index c.args.edges.now (omega arith)) c.loop-e.invariant
