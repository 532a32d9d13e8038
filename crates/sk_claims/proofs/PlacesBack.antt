-- Places that are written are read as themselves.
use Rattle.std.proofs.Common.{◌≡◌, ◌≢◌, ℕ, List, [], ◌∷◌, ◌++◌, map, None, codes, refl, sym, ap, subst, ◌∙◌, arith, append_assoc, append-nil}
use Rattle.std.specs.Prelude.{AllPairs, Contains, is_some}
use Rattle.std.specs.List.{AllByRecursion}
use Rattle.sk_base.specs.declared.At.{At}
use Rattle.sk_base.specs.declared.At.TheVariants as at
use Rattle.sk_base.specs.declared.Placed.{Placed}
use Rattle.sk_base.specs.declared.Shape.{Shape}
use Rattle.sk_base.specs.declared.Shape.TheVariants.{Point, Line, Circle}
use Rattle.sk_base.specs.declared.Sketch.{Sketch}
use Rattle.sk_base.specs.declared.Spot.{Spot}
use Rattle.sk_base.specs.ElementNames.{name_of}
use Rattle.sk_base.specs.SoundSketch.{IsSoundSketch}
use Rattle.sk_base.specs.Spelling.{spaced}
use Rattle.sk_base.proofs.Members.{contains_none, contains_head, contains_later}
use Rattle.sk_base.proofs.Tables.{passed}
use Rattle.sk_graph.specs.SketchGraph.{graph_of, drawn_as}
use Rattle.sk_lines.proofs.ReadBack.{IsLine, lines_in-ended}
use Rattle.sk_lines.proofs.SolidLines.{IsLineOf, literal, solid, solid_line, words_in_line}
use Rattle.sk_lines.specs.declared.Code.TheVariants.{E17}
use Rattle.sk_lines.specs.FirstCode.{first_code}
use Rattle.sk_lines.specs.LineCodes.{along, HaveNone}
use Rattle.sk_lines.specs.Lines.{lines_in}
use Rattle.sk_claims.specs.declared.claim.Radius.{Radius}
use Rattle.sk_claims.specs.declared.claim_line.SoFar.{SoFar}
use Rattle.sk_claims.specs.declared.place_line.PlacesSoFar.{PlacesSoFar}
use Rattle.sk_claims.specs.declared.place_line.Stage.TheVariants.{Among}
use Rattle.sk_claims.specs.Claims.{IsFitting}
use Rattle.sk_claims.specs.ClaimLines.{word_rows as claim_rows, claimed_with}
use Rattle.sk_claims.specs.ClaimText.{lying_words, spot_words, place_words, places_text, places_drawn, radii_drawn}
use Rattle.sk_claims.specs.PlaceLines.{among, past, rows_at, read_at, word_rows, code_of, with_words, with_line}
use Rattle.sk_claims.specs.PlaceReading.{nothing_yet, said_by, places_claimed, ReadsPlaces}
use Rattle.sk_claims.proofs.WrittenSteps.{so_far, ReadsOn}
use Rattle.sk_claims.proofs.WrittenClaims.{IsPlaceable, placeable, place_here, differs_before, radii_push}

-- the words stand on a line, have no code among the places, and lead there
record LeadsOn (s : Sketch) (from to : PlacesSoFar) (words : List (List ℕ)) : Type 0 where
  line : IsLineOf (spaced words) words
  clean : first_code (word_rows s from words) ≡ None
  leads : with_words s from words ≡ to

-- the lines of these words have no code, and lead there
record Leads (s : Sketch) (from to : PlacesSoFar) (lines : List (List (List ℕ))) : Type 0 where
  clean : HaveNone (code_of s) (with_line s) from (map spaced lines)
  reached : along (with_line s) from (map spaced lines) ≡ to
  are_lines : AllByRecursion IsLine (map spaced lines)

code_by_words : (s : Sketch) (from : PlacesSoFar) (line : List ℕ) (words : List (List ℕ)) → IsLineOf line words → first_code (word_rows s from words) ≡ None → code_of s from line ≡ None
code_by_words s from line words is clean = rw (is.short, is.ascii, words_in_line line words is) clean

leads_first : (s : Sketch) (from mid to : PlacesSoFar) (words : List (List ℕ)) (lines : List (List (List ℕ))) → LeadsOn s from mid words → Leads s mid to lines → Leads s from to (words ∷ lines)
leads_first s from mid to words lines here rest =
    let next : with_line s from (spaced words) ≡ mid = ap (with_words s from) (words_in_line (spaced words) words here.line) ∙ here.leads in
    record {
      clean = (code_by_words s from (spaced words) words here.line here.clean, subst (λ (c : PlacesSoFar). HaveNone (code_of s) (with_line s) c (map spaced lines)) (sym next) rest.clean);
      reached = ap (λ (c : PlacesSoFar). along (with_line s) c (map spaced lines)) next ∙ rest.reached;
      are_lines = (here.line.is_line, rest.are_lines);
    }

-- a line that places an element says among places what it says in a claim
as_in_claim : (s : Sketch) (c : SoFar) (name : List ℕ) (shape : Shape) (p : At) → first_code (claim_rows s c (lying_words name shape p)) ≡ None
    → (first_code (rows_at s Among c (lying_words name shape p)) ≡ None) × (read_at s Among c (lying_words name shape p) ≡ among (claimed_with s c (lying_words name shape p)))
as_in_claim s c name (Point u v) (at.Point x y) clean = ((passed (is_some c.tolerances) E17 _ clean).1, refl)
as_in_claim s c name (Line u v w z) (at.Point x y) clean = ((passed (is_some c.tolerances) E17 _ clean).1, refl)
as_in_claim s c name (Circle u v r) (at.Point x y) clean = ((passed (is_some c.tolerances) E17 _ clean).1, refl)
as_in_claim s c name shape (at.Line a b d) clean = ((passed (is_some c.tolerances) E17 _ clean).1, refl)

place_leads : (s : Sketch) (from to : SoFar) (spot : Spot) → ReadsOn s from to (spot_words s spot) → LeadsOn s (among from) (among to) (spot_words s spot)
place_leads s from to spot on =
    let same = as_in_claim s from (name_of s spot.elem) (drawn_as s spot.elem) spot.at on.clean in
    record { line = on.line; clean = same.0; leads = same.1 ∙ ap among on.leads }

-- the last line
end_leads : (s : Sketch) (c : SoFar) → LeadsOn s (among c) (past c) (codes "end" ∷ [])
end_leads s c = record {
  line = solid_line (codes "end") [] (solid (codes "end") (literal (codes "end") 3 (omega arith) (omega arith) refl), tt) (omega arith);
  clean = refl;
  leads = refl;
}

module _ (s : Sketch) (sound : IsSoundSketch s) (to : PlacesSoFar) (more : List (List (List ℕ))) where
  places_along : (todo done : List Spot) → ((x : Spot) → Contains todo x → IsPlaceable s x) → AllPairs (λ (p q : Spot). p.elem ≢ q.elem) (done ++ todo)
      → Leads s (among (so_far [] (done ++ todo) (radii_drawn s (done ++ todo)))) to more → Leads s (among (so_far [] done (radii_drawn s done))) to (map (spot_words s) todo ++ more)
  places_along [] done can differ rest = subst (λ (spots : List Spot). Leads s (among (so_far [] spots (radii_drawn s spots))) to more) (append-nil done) rest
  places_along (spot ∷ todo) done can differ rest =
      let on = place_here s sound to.claim [] [] done (radii_drawn s done) spot (can spot (contains_head spot todo)) (λ x there. differs_before s sound to.claim [] done todo spot x differ there) in
      let pushed = subst (λ (radii : List Radius). ReadsOn s (so_far [] done (radii_drawn s done)) (so_far [] (done ++ spot ∷ []) radii) (spot_words s spot)) (sym (radii_push s sound to.claim [] done spot)) on in
      let here = place_leads s (so_far [] done (radii_drawn s done)) (so_far [] (done ++ spot ∷ []) (radii_drawn s (done ++ spot ∷ []))) spot pushed in
      let step : done ++ spot ∷ todo ≡ (done ++ spot ∷ []) ++ todo = sym (append_assoc done (spot ∷ []) todo) in
      leads_first s _ (among (so_far [] (done ++ spot ∷ []) (radii_drawn s (done ++ spot ∷ [])))) to (spot_words s spot) (map (spot_words s) todo ++ more) here
      (places_along todo (done ++ spot ∷ []) (λ y there. can y (contains_later spot todo y there))
      (subst (λ (spots : List Spot). AllPairs (λ (p q : Spot). p.elem ≢ q.elem) spots) step differ)
      (subst (λ (spots : List Spot). Leads s (among (so_far [] spots (radii_drawn s spots))) to more) step rest))

pub places_back : (s : Sketch) (p : Placed) → IsSoundSketch s → IsFitting (graph_of s) (places_drawn s p) → ReadsPlaces s (places_text s p) (places_drawn s p)
places_back s p sound fits =
    let whole = so_far [] p.spots (radii_drawn s p.spots) in
    let ended : Leads s (past whole) (past whole) [] = record { clean = tt; reached = refl; are_lines = tt } in
    let last = leads_first s (among whole) (past whole) (past whole) (codes "end" ∷ []) [] (end_leads s whole) ended in
    let all : Leads s nothing_yet (past whole) (place_words s p) =
    places_along s sound (past whole) ((codes "end" ∷ []) ∷ []) p.spots [] (placeable s sound (places_drawn s p) fits (λ x there. absurd (contains_none x there)) refl) fits.spots_differ last in
    let lines : lines_in (places_text s p) ≡ map spaced (place_words s p) = lines_in-ended (map spaced (place_words s p)) all.are_lines in
    let reached : said_by s (lines_in (places_text s p)) ≡ past whole = ap (said_by s) lines ∙ all.reached in
    record {
      clean = subst (λ (ls : List (List ℕ)). HaveNone (code_of s) (with_line s) nothing_yet ls) (sym lines) all.clean;
      ended = ap (λ (c : PlacesSoFar). c.stage) reached;
      said = ap (λ (c : PlacesSoFar). places_claimed c.claim) (sym reached);
    }
