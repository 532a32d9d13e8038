-- Where a plan's boxes have their midpoints, just the elements of the graph lie, each within the bounds.
use Rattle.std.proofs.Common.{◌≡◌, inl, inr, refl, ℕ, ◌≤◌, ◌<◌, ◌^◌, ◌*◌, ◌+ℤ◌, ◌*ℤ◌, ℤ, pos, neg_ℤ, unsigned_abs, Bool, true, false, List, subst, get_or, map, ◌∙◌, arith, lit≤}
use Rattle.std.specs.Prelude.{All, Result, int_lt, if◌then◌else◌, Ok}
use Rattle.std.proofs.lemmas.Int.{ints}
use Rattle.std.proofs.lemmas.List.Elements.{Contains-get_or}
use Rattle.sk_base.specs.declared.Graph.{Graph}
use Rattle.sk_base.specs.declared.Node.{Node}
use Rattle.sk_base.specs.declared.Sketch.{Sketch}
use Rattle.sk_base.specs.declared.Spot.{Spot}
use Rattle.sk_base.specs.Bounds.{IsWithin as IsAtMost}
use Rattle.sk_base.specs.Nearest.{nearest_size}
use Rattle.sk_base.specs.Places.{IsBounded}
use Rattle.sk_base.specs.SoundGraph.{IsSoundGraph}
use Rattle.sk_base.proofs.Members.{mapped_from}
use Rattle.sk_base.proofs.Quotients.{size_within}
use Rattle.sk_interval.specs.Interval.{Interval}
use Rattle.sk_interval.proofs.PowerLemmas.{power_below}
use Rattle.sk_steps.specs.declared.BoxOf.{BoxOf}
use Rattle.sk_steps.specs.declared.BoxOf.TheVariants.{Point, Line}
use Rattle.sk_tree.specs.declared.Plan.{Plan as ThePlan}
use Rattle.sk_tree.specs.LegalPlan.{IsLegalPlan}
use Rattle.sk_place.specs.declared.Layout.{Layout}
use Rattle.sk_place.specs.declared.PlaceBy.{PlaceBy}
use Rattle.sk_plan.proofs.PlanTrees.{some_plan_tree}
use Rattle.sk_place.specs.declared.BoxAt.{BoxAt}
use Rattle.sk_place.specs.declared.BoxFault.{BoxFault}
use Rattle.sk_place.specs.Clusters.{nodes_of}
use Rattle.sk_graph.specs.SketchGraph.{graph_of}
use Rattle.sk_place.specs.declared.FrameBy.{FrameBy}
use Rattle.sk_place.specs.declared.FrameBy.TheVariants.{Base, Drawn}
use Rattle.sk_solve.specs.Placements.{IsCarried, IsLaid}
use Rattle.sk_place.specs.Placing.{IsPlaced}
use Rattle.sk_place.specs.Rounding.{IsWithin, IsBoundedBox, AreBounded, midpoint, rounded, rounded_box}
use Rattle.sk_place.proofs.Midpoints.{parts_within}
use Rattle.sk_place.proofs.OnePlacing.{one_list, not_both}
use Rattle.sk_measure.specs.Placing.{AreSpotsOf, PlacesExactly}
use Rattle.sk_measure.proofs.InOrder.{exactly_in_order}
use Rattle.sk_cli.specs.Solving.{midpoints}
use Rattle.sk_solve.proofs.SpotsPlaced.{spots_made}
use Rattle.sk_place.proofs.SomePlaces.{some_places}
use Rattle.sk_place.proofs.Results.{each_nodes, each_bounded}

signed_within : (b : Bool) (m most : ℕ) → m ≤ most → IsAtMost most (if b then neg_ℤ (pos m) else pos m)
signed_within true m most few = (omega (arith, ints), omega (arith, ints))
signed_within false m most few = (omega (arith, ints), omega (arith, ints))

midpoint_within : (k F parts most : ℕ) (x : Interval) → IsWithin k F x → 2 ^ k * parts ≤ most → 0 < 2 * 2 ^ F → IsAtMost most (midpoint F parts x)
midpoint_within k F parts most x within few some =
    let n : ℤ = (x.lo +ℤ x.hi) *ℤ pos parts in
    signed_within (int_lt n (pos 0)) (nearest_size (2 * 2 ^ F) (unsigned_abs n)) most (size_within (2 * 2 ^ F) (unsigned_abs n) most some (parts_within k F parts most x within few))

box_within : {G : Type 0} (F : ℕ) (b : BoxOf G) → 0 < 2 * 2 ^ F → IsBoundedBox F b → IsBounded (rounded_box F b)
box_within F (Point x y) some h =
    (midpoint_within 40 F 1000000 1152921504606846976 x h.0 (lit≤ tt) some, midpoint_within 40 F 1000000 1152921504606846976 y h.1 (lit≤ tt) some)
box_within F (Line a b c) some h =
    (midpoint_within 1 F 1000000000 2000000000 a h.0 (lit≤ tt) some, midpoint_within 1 F 1000000000 2000000000 b h.1 (lit≤ tt) some, midpoint_within 40 F 1000000 1152921504606846976 c h.2 (lit≤ tt) some)

all_within : {G : Type 0} (F : ℕ) (bs : List (BoxAt G)) → 0 < 2 * 2 ^ F → AreBounded F bs → All (λ (spot : Spot). IsBounded spot.at) (map (rounded F) bs)
all_within {G} F bs some bounded k d below =
    let found = mapped_from (rounded F) bs (get_or (map (rounded F) bs) k d) (Contains-get_or (map (rounded F) bs) k d below) in
    let at = found.1 in
    let box : IsBoundedBox F found.0.at = subst (λ (b : BoxAt G). IsBoundedBox F b.at) at.2 (bounded at.0 found.0 at.1) in
    subst (λ (spot : Spot). IsBounded spot.at) found.2 (box_within F found.0.at some box)

some_unit : (F : ℕ) → 0 < 2 * 2 ^ F
some_unit F = (let unit = power_below 0 F (omega arith) in omega (arith, unit))

module _ (G : Type 0) (placing : PlaceBy) (F : ℕ) (g : Graph) (p : ThePlan) (sound : IsSoundGraph g) (legal : IsLegalPlan g p) where
  -- the boxes are of the graph's nodes, and within bounds
  pub nodes_there : (boxes : List (BoxAt G)) → IsPlaced placing F g p (Ok boxes) → (nodes_of boxes ≡ g.nodes) × AreBounded F boxes
  nodes_there boxes placed =
      let tree = some_plan_tree g p sound legal in
      elim (some_places G placing F g p sound legal) [
        | inr (f, failed) ↦ absurd (not_both G placing F g p legal tree boxes f placed failed)
        | inl has ↦ subst (λ (bs : List (BoxAt G)). (nodes_of bs ≡ g.nodes) × AreBounded F bs) (one_list G placing F g p legal tree has.list boxes has.placed placed) (has.nodes, has.bounded)
      ]

-- carried boxes are of the same nodes, and within bounds
carried_there : {G : Type 0} (frame : FrameBy) (by : PlaceBy) (F : ℕ) (s : Sketch) (p : ThePlan) (nodes : List Node) (boxes there : List (BoxAt G)) → IsCarried frame by F s p boxes (Ok there)
    → (nodes_of boxes ≡ nodes) × AreBounded F boxes → (nodes_of there ≡ nodes) × AreBounded F there
carried_there {G} Base by F s p nodes boxes there stay like = subst (λ (bs : List (BoxAt G)). (nodes_of bs ≡ nodes) × AreBounded F bs) (same boxes there stay) like
  where
    same : (bs cs : List (BoxAt G)) → (let outcome : Result (List (BoxAt G)) BoxFault = Ok cs in outcome ≡ Ok bs) → bs ≡ cs
    same bs cs is = cc
carried_there Drawn by F s p nodes boxes there (m, m_is, each) like = (
  each_nodes by F m boxes there each ∙ like.0,
  λ k d below. each_bounded by F m boxes there each (get_or there k d) (Contains-get_or there k d below),
)

module _ (G : Type 0) (placing : Layout) (F : ℕ) (s : Sketch) (p : ThePlan) (sound : IsSoundGraph (graph_of s)) (legal : IsLegalPlan (graph_of s) p) where
  -- where the boxes lie, their midpoints are spots of the nodes, one by one
  pub laid_spots : (there : List (BoxAt G)) → IsLaid placing F s p there → AreSpotsOf (graph_of s).nodes (map (rounded F) there)
  laid_spots there (boxes, placed, carried) =
      let like = carried_there placing.frame placing.by F s p (graph_of s).nodes boxes there carried (nodes_there G placing.by F (graph_of s) p sound legal boxes placed) in
      spots_made F there (graph_of s).nodes (map (rounded F) there) like.0 refl (all_within F there (some_unit F) like.1)

  pub laid_exactly : (there : List (BoxAt G)) → IsLaid placing F s p there → PlacesExactly (graph_of s) (midpoints F there)
  laid_exactly there laid = exactly_in_order (graph_of s) (midpoints F there) sound.nodes_rise (laid_spots there laid)
