-- The places of what is kept, behind the own sketch by new numbers, are read and measured as such.
use Rattle.std.proofs.Common.{◌≡◌, ℕ, List, ap, subst, sym}
use Rattle.std.specs.Prelude.{map}
use Rattle.sk_base.specs.declared.ConId.{ConId}
use Rattle.sk_base.specs.declared.Placed.{Placed}
use Rattle.sk_base.specs.declared.Sketch.{Sketch}
use Rattle.sk_base.specs.declared.Spot.{Spot}
use Rattle.sk_base.specs.SoundSketch.{IsSoundSketch}
use Rattle.sk_graph.specs.SketchGraph.{graph_of}
use Rattle.sk_graph.proofs.Soundness.{graph_is_sound}
use Rattle.sk_excess.specs.KeptSketch.{kept_sketch}
use Rattle.sk_excess.proofs.KeptSketches.{kept_is_sound}
use Rattle.sk_lang.specs.Renumbered.{renumbered}
use Rattle.sk_measure.specs.Placing.{AreSpotsOf, PlacesExactly}
use Rattle.sk_place.specs.Rounding.{rounded}
use Rattle.sk_request.specs.declared.Request.{Request}
use Rattle.sk_request.specs.Grids.{grid_of, digits_of}
use Rattle.sk_claims.specs.ClaimText.{places_drawn}
use Rattle.sk_claims.specs.PlaceReading.{ReadsPlaces}
use Rattle.sk_verify.specs.Failing.{AllTold}
use Rattle.sk_cli.specs.ExcessReport.{IsMeasuredLeft}
use Rattle.sk_cli.proofs.ExcessTold.{kept_places}
use Rattle.sk_cli.proofs.PlacedSpots.{laid_spots}
use Rattle.sk_answers.specs.MeasureAnswer.{TellsOffs}
use Rattle.sk_laws.specs.NewNumbers.{TellsOffsRenumbered}
use Rattle.sk_laws.specs.PrintedClaim.{printed_places}
use Rattle.sk_laws.proofs.Renumbering.{each_renumbered, places_renumbered}
use Rattle.sk_laws.proofs.RenumberedPlaces.{read_again, told_again, measured_of}

module _ (request : Request) (own : Sketch) (sound : IsSoundSketch own) (left : List ConId) (text : List ℕ) (m : IsMeasuredLeft request own left text) where
  left_exactly : PlacesExactly (graph_of own) m.at
  left_exactly = kept_places own sound request left m.plan m.at m.tolerance m.placed

  left_spots : AreSpotsOf (graph_of own).nodes m.at.spots
  left_spots =
      let there = m.placed.placed in
      let spots : m.at.spots ≡ map (rounded (digits_of request.bits)) there.0 = ap (λ (z : Placed). z.spots) there.2.0 in
      subst (λ (xs : List Spot). AreSpotsOf (graph_of own).nodes xs) (sym spots)
      (laid_spots (grid_of request.bits) request.layout (digits_of request.bits) (kept_sketch left own) m.plan (graph_is_sound (kept_sketch left own) (kept_is_sound left own sound)) m.placed.plan.legal there.0 there.1)

  module _ (again : IsSoundSketch (each_renumbered own)) where
    pub left_read : ReadsPlaces (each_renumbered own) (printed_places own m.at) (places_drawn (each_renumbered own) (places_renumbered own m.at))
    left_read = read_again own sound m.at left_exactly left_spots again

    pub left_told : AllTold (places_drawn (each_renumbered own) (places_renumbered own m.at)) (each_renumbered own).elements
    left_told = told_again own sound m.at left_exactly left_spots again

    pub left_measured : (offs : List ℕ) → TellsOffs (renumbered own) (places_renumbered own m.at) offs → TellsOffsRenumbered own m.at offs
    left_measured = measured_of own sound m.at left_exactly left_spots again
