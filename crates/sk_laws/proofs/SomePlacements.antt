-- Each legal plan is placed somehow on a grid, and something comes of each list of steps.
use Rattle.std.proofs.Common.{◌≡◌, inl, inr, refl, ℕ, ◌≤◌, List, [], ◌∷◌, Option, None, Some, Result, Ok, Err, arith}
use Rattle.sk_base.specs.declared.Graph.{Graph}
use Rattle.sk_base.specs.declared.Name.{Name}
use Rattle.sk_base.specs.declared.Placed.{Placed}
use Rattle.sk_base.specs.declared.Sketch.{Sketch}
use Rattle.sk_base.specs.SoundGraph.{IsSoundGraph}
use Rattle.sk_base.specs.SoundSketch.{IsSoundSketch}
use Rattle.sk_graph.specs.SketchGraph.{graph_of}
use Rattle.sk_tree.specs.declared.Plan.{Plan as ThePlan}
use Rattle.sk_tree.specs.LegalPlan.{IsLegalPlan}
use Rattle.sk_place.specs.declared.Layout.{Layout}
use Rattle.sk_place.specs.declared.BoxAt.{BoxAt}
use Rattle.sk_place.specs.declared.BoxFault.{BoxFault}
use Rattle.sk_place.specs.declared.PlaceBy.{PlaceBy}
use Rattle.sk_place.specs.Carrying.{carried_each}
use Rattle.sk_place.specs.Placing.{IsPlaced}
use Rattle.sk_place.specs.declared.FrameBy.{FrameBy}
use Rattle.sk_place.specs.declared.FrameBy.TheVariants.{Base, Drawn}
use Rattle.sk_frame.specs.Frames.{frame_of}
use Rattle.sk_frame.proofs.FrameTurns.{motion_there}
use Rattle.sk_frame.proofs.SoundFrames.{frame_is_sound}
use Rattle.sk_request.specs.declared.Bits.{Bits}
use Rattle.sk_request.specs.declared.Bits.TheVariants.{Sixteen, TwentySeven, ThirtyEight}
use Rattle.sk_request.specs.Grids.{digits_of}
use Rattle.sk_tolerance.specs.declared.Tolerance.{Tolerance}
use Rattle.sk_tolerance.specs.declared.Wanted.{Wanted}
use Rattle.sk_tolerance.specs.declared.Wanted.TheVariants.{Chosen}
use Rattle.sk_measure.specs.Placing.{PlacesExactly}
use Rattle.sk_tolerance.specs.Telling.{spotted_constraint}
use Rattle.sk_tolerance.specs.Tolerances.{lengthwise, anglewise, everything}
use Rattle.sk_tolerance.specs.Turns.{signs_wanted}
use Rattle.sk_tolerance.proofs.Worsts.{worst_lengthwise_named}
use Rattle.sk_solve.specs.declared.Alternative.{Alternative}
use Rattle.sk_solve.specs.declared.Alternative.TheVariants.{NoChoice}
use Rattle.sk_solve.specs.declared.Placement.{Placement}
use Rattle.sk_solve.specs.declared.Placement.TheVariants.{Fault, Uncarried, Beyond, Turned, Holds}
use Rattle.sk_solve.specs.Alternatives.{alternative_of, IsAlternative, AreAlternatives}
use Rattle.sk_flips.specs.Flipping.{first_without_choice, flipped}
use Rattle.sk_solve.specs.Placements.{midpoints, IsCarried, IsLaid, IsTolerance, IsMeasured, IsPlacement}
use Rattle.sk_flips.proofs.FlippedPlans.{flipped_is_legal}
use Rattle.sk_solve.proofs.InTurn.{is_alternative}
use Rattle.sk_solve.proofs.SpotsPlaced.{measured_there}
use Rattle.sk_cli.proofs.PlacedSpots.{laid_exactly}
use Rattle.sk_tolerance.proofs.SomeMeasures.{own_everything, own_lengthwise, own_anglewise, some_told, searched, compared}
use Rattle.sk_place.proofs.SomePlaces.{some_places}

-- placed elements have least tolerances
pub some_tolerance : (at : Placed) (g : Graph) → IsSoundGraph g → PlacesExactly g at → (t : Tolerance) × IsTolerance at g t
some_tolerance at g sound exactly =
    let lengths = some_told at (lengthwise g) (own_lengthwise g at sound exactly) in
    let angles = some_told at (anglewise g) (own_anglewise g at sound exactly) in (
      record { t = lengths.0; w = angles.0; worst_t = spotted_constraint lengths.1; worst_w = angles.1 },
      record {
        lengths = lengths.2.least;
        angles = angles.2.least;
        worst_length = worst_lengthwise_named at g lengths.0 lengths.1 lengths.2.at;
        worst_angle = angles.2.at;
      },
    )

some_measured : (wanted : Wanted) (limit : ℕ) (s : Sketch) (p : ThePlan) (at : Placed) → IsSoundGraph (graph_of s) → PlacesExactly (graph_of s) at → (q : Placement) × IsMeasured wanted limit s p at q
some_measured wanted limit s p at sound exactly =
    let g = graph_of s in
    elim (searched at limit (everything g) (own_everything g at sound exactly)) [
      | inr (b, first) ↦ (Beyond b, first)
      | inl all ↦ elim (compared (signs_wanted wanted s at p)) [
        | inr (t, first) ↦ (Turned t, (all, first))
        | inl drawn ↦ (let t = some_tolerance at g sound exactly in (Holds at t.0, (refl, all, drawn, t.1)))
      ]
    ]

-- each grid has digits enough for the motion of a frame
pub enough_digits : (bits : Bits) → 8 ≤ digits_of bits
enough_digits Sixteen = omega arith
enough_digits TwentySeven = omega arith
enough_digits ThirtyEight = omega arith

-- something comes of boxes
some_carried : {G : Type 0} (frame : FrameBy) (by : PlaceBy) (F : ℕ) (s : Sketch) (p : ThePlan) → 8 ≤ F → IsSoundSketch s → IsSoundGraph (graph_of s) → (boxes : List (BoxAt G))
    → (o : Result (List (BoxAt G)) BoxFault) × IsCarried frame by F s p boxes o
some_carried Base by F s p enough sketch sound boxes = (Ok boxes, refl)
some_carried {G} Drawn by F s p enough sketch sound boxes = (
    let m = motion_there {G = G} F enough (frame_of s (graph_of s) p) (frame_is_sound s sketch (graph_of s) sound p) in
    (carried_each by F m.0 boxes, (m.0, m.1, refl)))

pub some_placement : (wanted : Wanted) (G : Type 0) (placing : Layout) (F limit : ℕ) (s : Sketch) (p : ThePlan) → 8 ≤ F → IsSoundSketch s → IsSoundGraph (graph_of s) → IsLegalPlan (graph_of s) p → (q : Placement) × IsPlacement wanted G placing F limit s p q
some_placement wanted G placing F limit s p enough sketch sound legal =
    elim (some_places G placing.by F (graph_of s) p sound legal) [
      | inr (f, failed) ↦ (Fault f, failed)
      | inl has ↦ (let outcome = some_carried placing.frame placing.by F s p enough sketch sound has.list in comes has.list has.placed outcome.0 outcome.1)
    ]
  where
    comes : (boxes : List (BoxAt G)) → IsPlaced placing.by F (graph_of s) p (Ok boxes) → (o : Result (List (BoxAt G)) BoxFault) → IsCarried placing.frame placing.by F s p boxes o
        → (q : Placement) × IsPlacement wanted G placing F limit s p q
    comes boxes placed (Err f) carried = (Uncarried f, (boxes, placed, carried))
    comes boxes placed (Ok there) carried = (
        let laid : IsLaid placing F s p there = (boxes, placed, carried) in
        let measured = some_measured wanted limit s p (midpoints F there) sound (laid_exactly G placing F s p sound legal there laid) in
        (measured.0, measured_there wanted G placing F limit s p there measured.0 laid measured.1))

module _ (G : Type 0) (placing : Layout) (F limit : ℕ) (s : Sketch) (p : ThePlan) (enough : 8 ≤ F) (sketch : IsSoundSketch s) (sound : IsSoundGraph (graph_of s)) (legal : IsLegalPlan (graph_of s) p) where
  some_alternative : (names : List Name) → (a : Alternative) × IsAlternative G placing F limit s p names a
  some_alternative names = by (first_without_choice p names) refl
    where
      by : (first : Option Name) → first_without_choice p names ≡ first → (a : Alternative) × IsAlternative G placing F limit s p names a
      by (Some n) is = (NoChoice n, is)
      by None is = (
          let q = some_placement Chosen G placing F limit s (flipped names p) enough sketch sound (flipped_is_legal (graph_of s) names p legal) in
          (alternative_of q.0, is_alternative G placing F limit s p names q.0 (is, q.1)))

  pub some_alternatives : (lists : List (List Name)) → (found : List Alternative) × AreAlternatives G placing F limit s p lists found
  some_alternatives [] = ([], tt)
  some_alternatives (names ∷ lists) = (
      let here = some_alternative names in
      let more = some_alternatives lists in
      (here.0 ∷ more.0, (here.1, more.1)))
