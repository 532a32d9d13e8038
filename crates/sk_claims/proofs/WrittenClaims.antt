-- A claim that is written is read as itself.
use Rattle.std.proofs.Common.{◌≡◌, ◌≢◌, inl, inr, ℕ, ◌≤◌, ◌^◌, List, [], ◌∷◌, ◌++◌, map, Some, None, codes, refl, sym, ap, subst, ◌∙◌, arith, append_assoc, append-nil}
use Rattle.std.specs.Prelude.{AllPairs, Contains}
use Rattle.std.specs.List.{AllByRecursion}
use Rattle.std.specs.Fmt.{decimal}
use Rattle.std.proofs.lemmas.List.Concat.{flat_map-append}
use Rattle.std.proofs.lemmas.List.Elements.{Contains-append_right}
use Rattle.sk_base.specs.declared.Kind.{Kind}
use Rattle.sk_base.specs.declared.Node.{Node}
use Rattle.sk_base.specs.declared.Sketch.{Sketch}
use Rattle.sk_base.specs.declared.Spot.{Spot}
use Rattle.sk_base.specs.ElementNames.{name_of}
use Rattle.sk_base.specs.Places.{IsBounded}
use Rattle.sk_base.specs.SoundSketch.{IsSoundSketch}
use Rattle.sk_base.specs.Spelling.{spaced}
use Rattle.sk_base.proofs.Members.{contains_none, contains_head, contains_cases, contains_later, mapped_from}
use Rattle.sk_base.proofs.Pairs.{pairs_head, pairs_tail}
use Rattle.sk_graph.specs.SketchGraph.{graph_of, node_of, kind_of, drawn_as}
use Rattle.sk_measure.specs.Placing.{HasKind}
use Rattle.sk_lines.proofs.ReadBack.{IsLine, lines_in-ended}
use Rattle.sk_lines.proofs.SolidLines.{IsLineOf, literal, solid, solid_line, words_in_line}
use Rattle.sk_lines.specs.FirstCode.{first_code}
use Rattle.sk_lines.specs.Lines.{lines_in}
use Rattle.sk_tree.specs.declared.PlanStep.{PlanStep}
use Rattle.sk_claims.specs.declared.claim.Claim.{Claim}
use Rattle.sk_claims.specs.declared.claim.Radius.{Radius}
use Rattle.sk_claims.specs.declared.claim_line.SoFar.{SoFar}
use Rattle.sk_claims.specs.Claims.{IsFitting}
use Rattle.sk_claims.specs.ClaimLines.{code_of, tolerance_limit, count_of, tolerance_rows, tolerances_said, word_rows, claimed_with}
use Rattle.sk_claims.specs.ClaimReading.{nothing_yet, claimed_after, claimed_along, HaveNoCode, ReadsClaim}
use Rattle.sk_claims.specs.ClaimText.{step_words, spot_words, tolerance_words, claim_words, claim_text, radius_drawn, radii_drawn, IsDeclared, CanBeSaid}
use Rattle.sk_claims.proofs.PrintedWords.{tolerance_back}
use Rattle.sk_claims.proofs.SaidElements.{called, drawn_so}
use Rattle.sk_claims.proofs.SpelledNumbers.{count_spelled}
use Rattle.sk_claims.proofs.WrittenSteps.{so_far, ReadsOn, step_reads}
use Rattle.sk_claims.proofs.WrittenPlaces.{no_place, place_reads}

-- the lines of these words have no code, and add up to that
record Leads (s : Sketch) (from to : SoFar) (lines : List (List (List ℕ))) : Type 0 where
  clean : HaveNoCode s from (map spaced lines)
  reached : claimed_along s from (map spaced lines) ≡ to
  are_lines : AllByRecursion IsLine (map spaced lines)

code_by_words : (s : Sketch) (from : SoFar) (line : List ℕ) (words : List (List ℕ)) → IsLineOf line words → first_code (word_rows s from words) ≡ None → code_of s from line ≡ None
code_by_words s from line words is clean = rw (is.short, is.ascii, words_in_line line words is) clean

leads_first : (s : Sketch) (from mid to : SoFar) (words : List (List ℕ)) (lines : List (List (List ℕ))) → ReadsOn s from mid words → Leads s mid to lines → Leads s from to (words ∷ lines)
leads_first s from mid to words lines here rest =
    let next : claimed_after s from (spaced words) ≡ mid = ap (claimed_with s from) (words_in_line (spaced words) words here.line) ∙ here.leads in
    record {
      clean = (code_by_words s from (spaced words) words here.line here.clean, subst (λ (c : SoFar). HaveNoCode s c (map spaced lines)) (sym next) rest.clean);
      reached = ap (λ (c : SoFar). claimed_along s c (map spaced lines)) next ∙ rest.reached;
      are_lines = (here.line.is_line, rest.are_lines);
    }

-- the element of a place, which it fits
pub record IsPlaceable (s : Sketch) (spot : Spot) : Type 0 where
  pub declared : IsDeclared s spot.elem
  pub kind : HasKind (kind_of (drawn_as s spot.elem)) spot.at
  pub bounded : IsBounded spot.at

module _ (s : Sketch) (sound : IsSoundSketch s) (to : SoFar) (more : List (List (List ℕ))) where
  steps_along : (todo done : List PlanStep) (spots : List Spot) (radii : List Radius) → ((x : PlanStep) → Contains todo x → CanBeSaid s x)
      → Leads s (so_far (done ++ todo) spots radii) to more → Leads s (so_far done spots radii) to (map (step_words s) todo ++ more)
  steps_along [] done spots radii can rest = subst (λ (steps : List PlanStep). Leads s (so_far steps spots radii) to more) (append-nil done) rest
  steps_along (x ∷ todo) done spots radii can rest =
      let here = step_reads s sound x (can x (contains_head x todo)) done spots radii in
      let step : done ++ x ∷ todo ≡ (done ++ x ∷ []) ++ todo = sym (append_assoc done (x ∷ []) todo) in
      leads_first s (so_far done spots radii) (so_far (done ++ x ∷ []) spots radii) to (step_words s x) (map (step_words s) todo ++ more) here
      (steps_along todo (done ++ x ∷ []) spots radii (λ y there. can y (contains_later x todo y there))
      (subst (λ (steps : List PlanStep). Leads s (so_far steps spots radii) to more) step rest))

  pub radii_push : (done : List Spot) (spot : Spot) → radii_drawn s (done ++ spot ∷ []) ≡ radii_drawn s done ++ radius_drawn spot.elem (drawn_as s spot.elem)
  radii_push done spot =
      flat_map-append (λ (x : Spot). radius_drawn x.elem (drawn_as s x.elem)) done (spot ∷ [])
      ∙ ap (λ (last : List Radius). radii_drawn s done ++ last) (append-nil (radius_drawn spot.elem (drawn_as s spot.elem)))

  pub differs_before : (done todo : List Spot) (spot x : Spot) → AllPairs (λ (p q : Spot). p.elem ≢ q.elem) (done ++ spot ∷ todo) → Contains done x → x.elem ≢ spot.elem
  differs_before [] todo spot x differ there = absurd (contains_none x there)
  differs_before (d ∷ done) todo spot x differ there =
      elim (contains_cases d done x there) [
        | inl here ↦ subst (λ (y : Spot). y.elem ≢ spot.elem) here (pairs_head (λ (p q : Spot). p.elem ≢ q.elem) d (done ++ spot ∷ todo) differ spot (Contains-append_right done (spot ∷ todo) spot (contains_head spot todo)))
        | inr later ↦ differs_before done todo spot x (pairs_tail (λ (p q : Spot). p.elem ≢ q.elem) d (done ++ spot ∷ todo) differ) later
      ]

  pub place_here : (steps : List PlanStep) (spots : List Spot) (radii : List Radius) (spot : Spot) → IsPlaceable s spot → ((x : Spot) → Contains spots x → x.elem ≢ spot.elem)
      → ReadsOn s (so_far steps spots radii) (so_far steps (spots ++ spot ∷ []) (radii ++ radius_drawn spot.elem (drawn_as s spot.elem))) (spot_words s spot)
  place_here steps spots radii spot can none =
      place_reads s steps spots radii spot.elem (name_of s spot.elem) (called s sound spot.elem can.declared) (no_place spots spot.elem none) spot.at can.kind can.bounded

  places_along : (todo done : List Spot) (steps : List PlanStep) → ((x : Spot) → Contains todo x → IsPlaceable s x) → AllPairs (λ (p q : Spot). p.elem ≢ q.elem) (done ++ todo)
      → Leads s (so_far steps (done ++ todo) (radii_drawn s (done ++ todo))) to more → Leads s (so_far steps done (radii_drawn s done)) to (map (spot_words s) todo ++ more)
  places_along [] done steps can differ rest = subst (λ (spots : List Spot). Leads s (so_far steps spots (radii_drawn s spots)) to more) (append-nil done) rest
  places_along (spot ∷ todo) done steps can differ rest =
      let here = place_here steps done (radii_drawn s done) spot (can spot (contains_head spot todo)) (λ x there. differs_before done todo spot x differ there) in
      let step : done ++ spot ∷ todo ≡ (done ++ spot ∷ []) ++ todo = sym (append_assoc done (spot ∷ []) todo) in
      leads_first s (so_far steps done (radii_drawn s done)) (so_far steps (done ++ spot ∷ []) (radii_drawn s (done ++ spot ∷ []))) to (spot_words s spot) (map (spot_words s) todo ++ more)
      (subst (λ (radii : List Radius). ReadsOn s (so_far steps done (radii_drawn s done)) (so_far steps (done ++ spot ∷ []) radii) (spot_words s spot)) (sym (radii_push done spot)) here)
      (places_along todo (done ++ spot ∷ []) steps (λ y there. can y (contains_later spot todo y there))
      (subst (λ (spots : List Spot). AllPairs (λ (p q : Spot). p.elem ≢ q.elem) spots) step differ)
      (subst (λ (spots : List Spot). Leads s (so_far steps spots (radii_drawn s spots)) to more) step rest))

-- the last line
tolerance_clean : (v w : List ℕ) (t u : ℕ) → count_of tolerance_limit v ≡ Some t → count_of tolerance_limit w ≡ Some u → first_code (tolerance_rows (v ∷ w ∷ [])) ≡ None
tolerance_clean v w t u p q = rw (p, q) refl

tolerance_said : (v w : List ℕ) (t u : ℕ) → count_of tolerance_limit v ≡ Some t → count_of tolerance_limit w ≡ Some u → tolerances_said (v ∷ w ∷ []) ≡ Some (record { t = t; w = u })
tolerance_said v w t u p q = rw (p, q) refl

tolerance_reads : (s : Sketch) (steps : List PlanStep) (spots : List Spot) (radii : List Radius) (t w : ℕ) → t ≤ 2 ^ 62 → w ≤ 2 ^ 62
    → ReadsOn s (so_far steps spots radii) (record { steps = steps; at = record { spots = spots }; radii = radii; tolerances = Some (record { t = t; w = w }) }) (tolerance_words t w)
tolerance_reads s steps spots radii t w t_few w_few =
    let one = count_spelled t t_few in
    let other = count_spelled w w_few in
    let one_few = one.few in
    let other_few = other.few in
    record {
      line = solid_line (codes "tolerance") (decimal t ∷ decimal w ∷ []) (solid (codes "tolerance") (literal (codes "tolerance") 9 (omega arith) (omega arith) refl), (solid (decimal t) one, (solid (decimal w) other, tt))) (omega arith);
      clean = tolerance_clean (decimal t) (decimal w) t w (tolerance_back t t_few) (tolerance_back w w_few);
      leads = ap (λ o. let c : SoFar = record { steps = steps; at = record { spots = spots }; radii = radii; tolerances = o } in c) (tolerance_said (decimal t) (decimal w) t w (tolerance_back t t_few) (tolerance_back w w_few));
    }

ends_here : (s : Sketch) (c : SoFar) → Leads s c c []
ends_here s c = record { clean = tt; reached = refl; are_lines = tt }

module _ (s : Sketch) (sound : IsSoundSketch s) (c : Claim) (fits : IsFitting (graph_of s) c) (can : (x : PlanStep) → Contains c.steps x → CanBeSaid s x) (radii : c.radii ≡ radii_drawn s c.at.spots) where
  abbrev whole : SoFar
  whole = record { steps = c.steps; at = c.at; radii = radii_drawn s c.at.spots; tolerances = Some (record { t = c.t; w = c.w }) }

  pub placeable : (spot : Spot) → Contains c.at.spots spot → IsPlaceable s spot
  placeable spot there =
      let known = fits.spots spot there in
      let of = mapped_from node_of s.elements known.0 known.1 in
      let number : of.0.number ≡ spot.elem = ap (λ (n : Node). n.elem) of.2 ∙ known.2.elem in
      let kind : known.0.kind ≡ kind_of (drawn_as s spot.elem) =
      sym (ap (λ (n : Node). n.kind) of.2) ∙ ap kind_of (drawn_so s sound spot.elem of.0 of.1 number) in
      record { declared = (of.0, of.1, number); kind = subst (λ (k : Kind). HasKind k spot.at) kind known.2.has_kind; bounded = known.2.bounded }

  all_along : Leads s nothing_yet whole (claim_words s c)
  all_along =
      let last = leads_first s (so_far c.steps c.at.spots (radii_drawn s c.at.spots)) whole whole (tolerance_words c.t c.w) []
      (tolerance_reads s c.steps c.at.spots (radii_drawn s c.at.spots) c.t c.w fits.t fits.w) (ends_here s whole) in
      steps_along s sound whole (map (spot_words s) c.at.spots ++ tolerance_words c.t c.w ∷ []) c.steps [] [] [] can
      (places_along s sound whole (tolerance_words c.t c.w ∷ []) c.at.spots [] c.steps placeable fits.spots_differ last)

  pub reads_written : ReadsClaim s (claim_text s c) c
  reads_written =
      let lines : lines_in (claim_text s c) ≡ map spaced (claim_words s c) = lines_in-ended (map spaced (claim_words s c)) all_along.are_lines in
      let reached : claimed_along s nothing_yet (lines_in (claim_text s c)) ≡ whole = ap (claimed_along s nothing_yet) lines ∙ all_along.reached in
      record {
        clean = subst (λ (ls : List (List ℕ)). HaveNoCode s nothing_yet ls) (sym lines) all_along.clean;
        read = record {
          steps = ap (λ (x : SoFar). x.steps) (sym reached);
          at = ap (λ (x : SoFar). x.at) (sym reached);
          radii = radii ∙ ap (λ (x : SoFar). x.radii) (sym reached);
          tolerances = ap (λ (x : SoFar). x.tolerances) reached;
        };
      }
