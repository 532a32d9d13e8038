use Rattle.std.proofs.Common.{◌≡◌, ◌+◌, ◌++◌, List, get_or, take, subst, sym, ap, ◌∙◌, append-nil, arith}
use Rattle.std.proofs.lemmas.List.{take_more, take_all, flat_map_more}
use Rattle.std.proofs.lemmas.List.Elements.{Contains-get_or}
use Rattle.sk_base.specs.declared.Edge.{Edge}
use Rattle.sk_measure.specs.Items.{Item}
use Rattle.sk_tolerance.specs.Tolerances.{angles, angle_of_measure}
use Rattle.sk_tolerance.specs.Telling.{IsTold}
use Rattle.sk_measure.proofs.Placings.{any_edge}
use Rattle.sk_tolerance.proofs.tolerance.worst_angle.Goals as goal

pub loop-e-init : goal.loop-e-init
loop-e-init c = λ items told. simp append-nil told

pub with_angle-worst-requires : goal.with_angle-worst-requires
with_angle-worst-requires c = c.requires (get_or c.args.edges.now c.loop-e.e-index any_edge) (Contains-get_or c.args.edges.now c.loop-e.e-index any_edge (omega arith))

pub loop-e-preserved : goal.loop-e-preserved
loop-e-preserved c = λ items told.
    let edges : List Edge = c.args.edges.now in
    let i = c.loop-e.e-index in
    let e : Edge = get_or edges i any_edge in
    let more = c.with_angle-worst.ensures (items ++ angles (take i edges)) (c.loop-e.invariant items told) in
    let parts : (items ++ angles (take i edges)) ++ angle_of_measure e e.measure ≡ items ++ angles (take (i + 1) edges) =
    flat_map_more (λ (x : Edge). angle_of_measure x x.measure) items (take i edges) e ∙ ap (λ (xs : List Edge). items ++ angles xs) (sym (take_more edges i any_edge (omega arith))) in
    subst (λ (xs : List Item). IsTold c.args.p.now xs c.with_angle-worst.result) parts more

pub returns : goal.returns
returns c = λ items told.
    subst (λ (xs : List Edge). IsTold c.args.p.now (items ++ angles xs) c.loop-e.worst) (take_all c.loop-e.e-index c.args.edges.now (omega arith)) (c.loop-e.invariant items told)
