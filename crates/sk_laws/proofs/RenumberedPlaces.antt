-- Places of a sketch that is read by new numbers: their text is the same, and what is measured there too.
use Rattle.std.proofs.Common.{◌≡◌, ℕ, List, [], ◌∷◌, ◌++◌, map, codes, refl, sym, ap, subst, ◌∙◌}
use Rattle.std.specs.Prelude.{Contains, Option, None, Some}
use Rattle.std.specs.List.{flat_map}
use Rattle.std.specs.Option.{option_map}
use Rattle.std.proofs.lemmas.List.Folds.{flat_map-map}
use Rattle.std.proofs.lemmas.Simd.{map-map}
use Rattle.sk_base.specs.declared.At.{At}
use Rattle.sk_base.specs.declared.ConId.{ConId}
use Rattle.sk_base.specs.declared.Constraint.{Constraint}
use Rattle.sk_base.specs.declared.Element.{Element}
use Rattle.sk_base.specs.declared.Placed.{Placed}
use Rattle.sk_base.specs.declared.Sketch.{Sketch}
use Rattle.sk_base.specs.declared.Spot.{Spot}
use Rattle.sk_base.specs.Places.{place_of}
use Rattle.sk_base.specs.SoundSketch.{IsSoundSketch}
use Rattle.sk_base.specs.Spelling.{whole_text}
use Rattle.sk_base.proofs.Members.{mapped_from}
use Rattle.sk_graph.specs.SketchGraph.{graph_of, node_of}
use Rattle.sk_graph.proofs.Soundness.{graph_is_sound}
use Rattle.sk_lang.specs.Renumbered.{place_of as new_element, renumbered}
use Rattle.sk_measure.specs.Placing.{AreSpotsOf, PlacesExactly}
use Rattle.sk_measure.proofs.InOrder.{exactly_in_order}
use Rattle.sk_tolerance.specs.declared.OffBy.{OffBy}
use Rattle.sk_tolerance.specs.declared.Tolerance.{Tolerance}
use Rattle.sk_tolerance.specs.declared.Turned.{Turned}
use Rattle.sk_claims.specs.ClaimText.{IsDeclared, places_drawn}
use Rattle.sk_claims.specs.PlaceReading.{ReadsPlaces}
use Rattle.sk_report.specs.ExcessReport.{left_words, off_unit, turned_words}
use Rattle.sk_report.specs.SolveReport.{element_line, tolerance_lines}
use Rattle.sk_solve.specs.Placements.{IsTolerance}
use Rattle.sk_solve.proofs.OnePlacement.{same_tolerance}
use Rattle.sk_verify.specs.Failing.{AllTold}
use Rattle.sk_answers.specs.MeasureAnswer.{all_numbers, TellsOffs}
use Rattle.sk_answers.specs.MeasureReport.{measured_line}
use Rattle.sk_answers.specs.OffsThere.{AreOffsPut}
use Rattle.sk_answers.proofs.OffLines.{some_offs}
use Rattle.sk_laws.specs.NewNumbers.{new_constraint, tolerance_renumbered, line_renumbered, TellsOffsRenumbered}
use Rattle.sk_laws.specs.PrintedClaim.{printed_places}
use Rattle.sk_laws.proofs.OneOutcome.{same_offs}
use Rattle.sk_laws.proofs.PrintedClaims.{read_there, told_there}
use Rattle.sk_laws.proofs.Renumbering.{each_renumbered, spot_renumbered, places_renumbered, element_renumbered, constraint_renumbered, renumbered_each, place_again}
use Rattle.sk_laws.proofs.RenumberedOffs.{turned_renumbered, off_renumbered, off_there_again}
use Rattle.sk_laws.proofs.RenumberedTolerances.{tolerance_again}
use Rattle.sk_laws.proofs.SomeMeasures.{numbers_there}
use Rattle.sk_laws.proofs.SomePlacements.{some_tolerance}

flat_alike : {X Y : Type 0} (f g : X → List Y) (xs : List X) → ((x : X) → f x ≡ g x) → flat_map f xs ≡ flat_map g xs
flat_alike f g [] same = refl
flat_alike f g (x ∷ xs) same = ap (λ ys. ys ++ flat_map f xs) (same x) ∙ ap (λ ys. g x ++ ys) (flat_alike f g xs same)

spots_renumbered : (s : Sketch) (es : List Element) (spots : List Spot) → AreSpotsOf (map node_of es) spots → AreSpotsOf (map node_of (map (element_renumbered s) es)) (map (spot_renumbered s) spots)
spots_renumbered s [] [] are = tt
spots_renumbered s [] (spot ∷ spots) are = absurd are
spots_renumbered s (e ∷ es) [] are = absurd are
spots_renumbered s (e ∷ es) (spot ∷ spots) are =
    (record { elem = ap (new_element s) are.0.elem; has_kind = are.0.has_kind; bounded = are.0.bounded }, spots_renumbered s es spots are.1)

-- an element's line has its label and its shape alone
line_again : (s : Sketch) (e : Element) (o : Option At) → element_line (element_renumbered s e) o ≡ element_line e o
line_again s e None = refl
line_again s e (Some at) = refl

-- and a constraint's has nothing of the constraint that a sign names
turned_again : (k : ConId) (o : Option Turned) → turned_words (option_map (turned_renumbered k) o) ≡ turned_words o
turned_again k None = refl
turned_again k (Some sign) = refl

module _ (s : Sketch) (sound : IsSoundSketch s) (at : Placed) (exactly : PlacesExactly (graph_of s) at) where
  declared : (spot : Spot) → Contains at.spots spot → IsDeclared s spot.elem
  declared spot there =
      let node = exactly.no_others spot there in
      let element = mapped_from node_of s.elements node.0 node.1 in
      (element.0, element.1, ap (λ n. n.elem) element.2 ∙ node.2)

  -- the printed places are in the same words
  text_again : printed_places (each_renumbered s) (places_renumbered s at) ≡ printed_places s at
  text_again =
      let here = places_renumbered s at in
      ap (λ (lines : List ℕ). lines ++ codes "end\n")
      (flat_map-map (λ (e : Element). element_line e (place_of here e.number)) (element_renumbered s) s.elements
      ∙ flat_alike _ (λ (e : Element). element_line e (place_of at e.number)) s.elements (λ e. line_again s e (place_of here (new_element s e.number)) ∙ ap (element_line e) (place_again s sound at declared e.number)))

  -- the lines on constraints, whatever they have of the offs but the constraint that a sign names
  offs_again : (line : ConId → OffBy → List ℕ) → ((k : ConId) (off : OffBy) → line k (off_renumbered k off) ≡ line k off) → (ks : List ConId) (text : List ℕ)
      → AreOffsPut (λ (k : ConId). line (new_constraint s k)) s at ks text → AreOffsPut line (each_renumbered s) (places_renumbered s at) (map (new_constraint s) ks) text
  offs_again line same [] text is = is
  offs_again line same (k ∷ ks) text (off, more, there, rest, is) =
      let new = new_constraint s k in
      (off_renumbered new off, more, off_there_again s sound at declared k off there, offs_again line same ks more rest, is ∙ ap (λ (words : List ℕ). words ++ more) (sym (same new off)))

  measured_again : (t : Sketch) (k : ConId) (off : OffBy) → measured_line t k (off_renumbered k off) ≡ measured_line t k off
  measured_again t k off =
      let front = ((left_words t k ++ codes " off") ++ 32 ∷ whole_text off.off) ++ off_unit off.length in
      ap (λ (words : List ℕ). (front ++ words) ++ codes "\n") (turned_again k off.turned)

  module _ (are : AreSpotsOf (graph_of s).nodes at.spots) (again : IsSoundSketch (each_renumbered s)) where
    spots_there : AreSpotsOf (graph_of (each_renumbered s)).nodes (places_renumbered s at).spots
    spots_there = spots_renumbered s s.elements at.spots are

    exactly_there : PlacesExactly (graph_of (each_renumbered s)) (places_renumbered s at)
    exactly_there = exactly_in_order (graph_of (each_renumbered s)) (places_renumbered s at) (graph_is_sound (each_renumbered s) again).nodes_rise spots_there

    pub read_again : ReadsPlaces (each_renumbered s) (printed_places s at) (places_drawn (each_renumbered s) (places_renumbered s at))
    read_again =
        subst (λ (text : List ℕ). ReadsPlaces (each_renumbered s) text (places_drawn (each_renumbered s) (places_renumbered s at))) text_again
        (read_there (each_renumbered s) again (places_renumbered s at) spots_there exactly_there)

    pub told_again : AllTold (places_drawn (each_renumbered s) (places_renumbered s at)) (each_renumbered s).elements
    told_again = told_there (each_renumbered s) again (places_renumbered s at) spots_there exactly_there

    -- what is measured there is by how much the places are off the constraints of the sketch
    pub measured_of : (text : List ℕ) → TellsOffs (renumbered s) (places_renumbered s at) text → TellsOffsRenumbered s at text
    measured_of text told =
        let t = renumbered s in
        let is_each : each_renumbered s ≡ t = sym (renumbered_each s sound) in
        let here = places_renumbered s at in
        let own = some_offs (line_renumbered s) s sound at exactly (all_numbers s) (numbers_there s sound at exactly) in
        let numbers : map (new_constraint s) (all_numbers s) ≡ all_numbers (each_renumbered s) =
        map-map (new_constraint s) (λ (c : Constraint). c.number) s.constraints ∙ sym (map-map (λ (c : Constraint). c.number) (constraint_renumbered s) s.constraints) in
        let put : AreOffsPut (measured_line t) t here (all_numbers t) own.0 =
        subst (λ (z : Sketch). AreOffsPut (measured_line t) z here (all_numbers z) own.0) is_each
        (subst (λ (ks : List ConId). AreOffsPut (measured_line t) (each_renumbered s) here ks own.0) numbers (offs_again (measured_line t) (measured_again t) (all_numbers s) own.0 own.1)) in
        let lines : own.0 ≡ told.lines = same_offs (measured_line t) here t (all_numbers t) own.0 told.lines put told.offs in
        let least = some_tolerance at (graph_of s) (graph_is_sound s sound) exactly in
        let renamed : IsTolerance here (graph_of t) (tolerance_renumbered s least.0) =
        subst (λ (z : Sketch). IsTolerance here (graph_of z) (tolerance_renumbered s least.0)) is_each (tolerance_again s sound at declared least.0 least.1) in
        let tolerance : told.least ≡ tolerance_renumbered s least.0 = same_tolerance here (graph_of t) told.least (tolerance_renumbered s least.0) told.tolerance renamed in
        record {
          lines = told.lines;
          least = least.0;
          offs = subst (λ (words : List ℕ). AreOffsPut (line_renumbered s) s at (all_numbers s) words) lines own.1;
          tolerance = least.1;
          is = told.is ∙ ap (λ (w : Tolerance). told.lines ++ tolerance_lines t w) tolerance;
        }
