use Rattle.std.proofs.Common.{◌≡◌, ◌++◌, ◌∷◌, [], List, get_or, take, pos, refl, rules, subst, arith, true}
use Rattle.std.specs.Prelude.{All}
use Rattle.std.proofs.lemmas.List.Elements.{All-nil, All-cons}
use Rattle.std.proofs.lemmas.Grind.{common_steps}
use Rattle.std.proofs.lemmas.List.{take_more, take_all}
use Rattle.sk_base.specs.declared.At.{At}
use Rattle.sk_base.specs.declared.At.TheVariants.{Point}
use Rattle.sk_base.specs.declared.Node.{Node}
use Rattle.sk_base.specs.declared.Spot.{Spot}
use Rattle.sk_base.specs.Places.{IsBounded}
use Rattle.sk_measure.specs.Placing.{AreSpotsOf}
use Rattle.sk_measure.proofs.InOrder.{spots_more, exactly_in_order}
use Rattle.sk_measure.proofs.Placings.{any_node}
use Rattle.sk_test_runs.proofs.tolerances.placed.Goals as goal

pub loop-i-preserved : goal.loop-i-preserved
loop-i-preserved g c =
    let nodes : List Node = c.as_slice-nodes.result.now in
    let n : Node = get_or nodes c.loop-i.i any_node in
    let at : At = get_or c.args.places.now c.loop-i.i (Point (pos 0) (pos 0)) in
    let spot : Spot = record { elem = n.elem; at = at } in
    let passes : c.is_place.result ≡ true = first_of (search (rules, c.if-not-is_place.false), grind (arith, common_steps, c.if-not-is_place.false)) in
    let more : AreSpotsOf (take c.loop-i.i nodes ++ n ∷ []) (c.loop-i.spots ++ spot ∷ []) =
    spots_more (take c.loop-i.i nodes) c.loop-i.spots n spot c.loop-i.invariant (record { elem = refl; has_kind = c.is_place.ensures.kind passes; bounded = c.is_place.ensures.bounded passes }) in
    rw (rw c.expect.ensures at c.push.ensures.ok, take_more nodes c.loop-i.i any_node (omega arith)) more

pub returns-clause-exactly : goal.returns-clause-exactly
returns-clause-exactly g c =
    let all : AreSpotsOf c.as_slice-nodes.result.now c.loop-i.spots = subst (λ (xs : List Node). AreSpotsOf xs c.loop-i.spots) (take_all c.loop-i.i c.as_slice-nodes.result.now (omega arith)) c.loop-i.invariant in
    exactly_in_order c.args.graph.now (record { spots = c.loop-i.spots }) c.requires.nodes_rise (rw c.as_slice-nodes.ensures at all)

pub returns-clause-in_order : goal.returns-clause-in_order
returns-clause-in_order g c =
    let all : AreSpotsOf c.as_slice-nodes.result.now c.loop-i.spots = subst (λ (xs : List Node). AreSpotsOf xs c.loop-i.spots) (take_all c.loop-i.i c.as_slice-nodes.result.now (omega arith)) c.loop-i.invariant in
    rw c.as_slice-nodes.ensures at all

all_bounded : (nodes : List Node) (spots : List Spot) → AreSpotsOf nodes spots → All (λ (spot : Spot). IsBounded spot.at) spots
all_bounded nodes [] are = All-nil (λ (spot : Spot). IsBounded spot.at)
all_bounded [] (spot ∷ spots) are = absurd are
all_bounded (n ∷ nodes) (spot ∷ spots) are = All-cons (λ (s : Spot). IsBounded s.at) spot spots are.0.bounded (all_bounded nodes spots are.1)

pub returns-clause-bounded : goal.returns-clause-bounded
returns-clause-bounded g c =
    let all : AreSpotsOf c.as_slice-nodes.result.now c.loop-i.spots = subst (λ (xs : List Node). AreSpotsOf xs c.loop-i.spots) (take_all c.loop-i.i c.as_slice-nodes.result.now (omega arith)) c.loop-i.invariant in
    all_bounded c.as_slice-nodes.result.now c.loop-i.spots all
