-- The line of a place is read as that place, and of a circle with its radius.
use Rattle.std.proofs.Common.{◌≡◌, ◌≢◌, inl, inr, ℕ, ◌≤◌, ◌==◌, ℤ, true, false, List, [], ◌∷◌, ◌++◌, length, Option, Some, None, is_some, codes, refl, ap, subst, ◌∙◌, arith}
use Rattle.std.specs.Prelude.{Contains}
use Rattle.std.specs.List.{list_any, zip}
use Rattle.std.specs.Option.{option_map}
use Rattle.std.proofs.lemmas.Bool.Decides.{eqb_tells}
use Rattle.std.proofs.lemmas.Int.{ints}
use Rattle.sk_base.specs.declared.At.{At}
use Rattle.sk_base.specs.declared.At.TheVariants as at
use Rattle.sk_base.specs.declared.Elem.{Elem}
use Rattle.sk_base.specs.declared.Placed.{Placed}
use Rattle.sk_base.specs.declared.Shape.{Shape}
use Rattle.sk_base.specs.declared.Shape.TheVariants.{Point, Line, Circle}
use Rattle.sk_base.specs.declared.Sketch.{Sketch}
use Rattle.sk_base.specs.declared.Spot.{Spot}
use Rattle.sk_base.specs.declared.Um.{Um}
use Rattle.sk_base.specs.Bounds.{IsWithin}
use Rattle.sk_base.specs.Numbering.{elem_exact}
use Rattle.sk_base.specs.Places.{place_of, IsBounded}
use Rattle.sk_base.specs.SoundSketch.{IsSoundShape, IsLength}
use Rattle.sk_base.specs.Spelling.{spaced, whole_text}
use Rattle.sk_base.proofs.Finding.{nothing_found}
use Rattle.sk_graph.specs.SketchGraph.{kind_of, drawn_as}
use Rattle.sk_entry.specs.Named.{element_named, number_named}
use Rattle.sk_measure.specs.Placing.{HasKind}
use Rattle.sk_lines.proofs.SolidLines.{IsSolidWord, IsLineOf, IsSpelled, solid, solid_line, literal, name_spelled}
use Rattle.sk_lines.specs.FirstCode.{first_code}
use Rattle.sk_tree.specs.declared.PlanStep.{PlanStep}
use Rattle.sk_claims.specs.Claims.{radius_nm}
use Rattle.sk_claims.specs.declared.claim.Radius.{Radius}
use Rattle.sk_claims.specs.declared.claim_line.SoFar.{SoFar}
use Rattle.sk_claims.specs.declared.first_word.Figure.{Figure}
use Rattle.sk_claims.specs.declared.first_word.Figure.TheVariants as figure
use Rattle.sk_claims.specs.ClaimLines.{whole_of, length_limit, normal_limit, limits_of, is_bad_whole, is_no_name, is_unknown, fits_shape, fits_element, is_placed, element_rows, spot_said, radius_said}
use Rattle.sk_claims.specs.ClaimText.{radius_drawn, lying_words}
use Rattle.sk_claims.proofs.PrintedWords.{whole_back}
use Rattle.sk_claims.proofs.SaidElements.{IsCalled, no_wrong_name, known, its_number}
use Rattle.sk_claims.proofs.SpelledNumbers.{whole_spelled}
use Rattle.sk_claims.proofs.WrittenSteps.{so_far, ReadsOn}

-- an element that is that of no spot has no place
pub no_place : (spots : List Spot) (e : Elem) → ((spot : Spot) → Contains spots spot → spot.elem ≢ e) → place_of (record { spots = spots }) e ≡ None
no_place spots e none = ap (λ (o : Option Spot). option_map (λ (x : Spot). x.at) o) (nothing_found (λ (x : Spot). x.elem.0 == e.0) spots (λ x there. other x there))
  where
    other : (x : Spot) → Contains spots x → (x.elem.0 == e.0) ≡ false
    other x there = elim (eqb_tells x.elem.0 e.0) [ inl same ↦ absurd (none x there (elem_exact x.elem e same.1)) | inr apart ↦ apart.0 ]

-- an element line that passes each test
element_clean : (s : Sketch) (p : Placed) (kind : Figure) (name : List ℕ) (numbers : List (List ℕ)) → (length numbers == length (limits_of kind)) ≡ true → is_no_name name ≡ false → is_unknown s name ≡ false
    → fits_element kind (element_named s name) ≡ true → list_any is_bad_whole (zip (limits_of kind) numbers) ≡ false → is_placed s p name ≡ false → first_code (element_rows s p kind (name ∷ numbers)) ≡ None
element_clean s p kind name numbers count letters declared fits fine free = rw (count, letters, declared, fits, fine, free) refl

two_fine : (m n : ℕ) (v w : List ℕ) (x y : ℤ) → whole_of m v ≡ Some x → whole_of n w ≡ Some y → list_any is_bad_whole ((m, v) ∷ (n, w) ∷ []) ≡ false
two_fine m n v w x y p q = rw (p, q) refl

three_fine : (k m n : ℕ) (u v w : List ℕ) (x y z : ℤ) → whole_of k u ≡ Some x → whole_of m v ≡ Some y → whole_of n w ≡ Some z → list_any is_bad_whole ((k, u) ∷ (m, v) ∷ (n, w) ∷ []) ≡ false
three_fine k m n u v w x y z p q r = rw (p, q, r) refl

-- what the words of a line say
point_said : (s : Sketch) (name v w : List ℕ) (e : Elem) (x y : ℤ) → number_named s name ≡ e → whole_of length_limit v ≡ Some x → whole_of length_limit w ≡ Some y
    → spot_said s figure.Point (name ∷ v ∷ w ∷ []) ≡ record { elem = e; at = at.Point x y } ∷ []
point_said s name v w e x y is p q = rw (is, p, q) refl

circle_said : (s : Sketch) (name u v w : List ℕ) (e : Elem) (x y : ℤ) → number_named s name ≡ e → whole_of length_limit u ≡ Some x → whole_of length_limit v ≡ Some y
    → spot_said s figure.Circle (name ∷ u ∷ v ∷ w ∷ []) ≡ record { elem = e; at = at.Point x y } ∷ []
circle_said s name u v w e x y is p q = rw (is, p, q) refl

line_said : (s : Sketch) (name u v w : List ℕ) (e : Elem) (a b c : ℤ) → number_named s name ≡ e → whole_of normal_limit u ≡ Some a → whole_of normal_limit v ≡ Some b → whole_of length_limit w ≡ Some c
    → spot_said s figure.Line (name ∷ u ∷ v ∷ w ∷ []) ≡ record { elem = e; at = at.Line a b c } ∷ []
line_said s name u v w e a b c is p q r = rw (is, p, q, r) refl

circle_radius : (s : Sketch) (name u v w : List ℕ) (e : Elem) (r : ℤ) → number_named s name ≡ e → whole_of length_limit w ≡ Some r → radius_said s figure.Circle (name ∷ u ∷ v ∷ w ∷ []) ≡ record { elem = e; nm = r } ∷ []
circle_radius s name u v w e r is p = rw (is, p) refl

length_back : (z : ℤ) → IsWithin 1152921504606846976 z → whole_of length_limit (whole_text z) ≡ Some z
length_back z within = whole_back length_limit z (omega arith) within

normal_back : (z : ℤ) → IsWithin 2000000000 z → whole_of normal_limit (whole_text z) ≡ Some z
normal_back z within = whole_back normal_limit z (omega arith) within

wider : (most : ℕ) (z : ℤ) → most ≤ 4611686018427387904 → IsWithin most z → IsWithin 4611686018427387904 z
wider most z few within = (let low = within.0 in let high = within.1 in (omega (arith, ints), omega (arith, ints)))

radius_within : (r : Um) → IsLength r → IsWithin 1152921504606846976 (radius_nm r.0)
radius_within r is = (let low = is.0 in let high = is.1 in (omega (arith, ints), omega (arith, ints)))

-- the words of a place that was not told before
module _ (s : Sketch) (steps : List PlanStep) (spots : List Spot) (radii : List Radius) (e : Elem) (name : List ℕ) (is : IsCalled s e name) (free : place_of (record { spots = spots }) e ≡ None) where
  abbrev from : SoFar
  from = so_far steps spots radii

  abbrev to : At → Shape → SoFar
  to p shape = so_far steps (spots ++ record { elem = e; at = p } ∷ []) (radii ++ radius_drawn e shape)

  not_placed : is_placed s (record { spots = spots }) name ≡ false
  not_placed = ap (λ (n : Elem). is_some (place_of (record { spots = spots }) n)) (its_number s e name is) ∙ ap is_some free

  fitting : (kind : Figure) (shape : Shape) → is.element.shape ≡ shape → fits_shape kind shape ≡ true → fits_element kind (element_named s name) ≡ true
  fitting kind shape drawn fits = ap (fits_element kind) is.named ∙ (ap (fits_shape kind) drawn ∙ fits)

  clean_by : (kind : Figure) (shape : Shape) → is.element.shape ≡ shape → fits_shape kind shape ≡ true → (numbers : List (List ℕ)) → (length numbers == length (limits_of kind)) ≡ true
      → list_any is_bad_whole (zip (limits_of kind) numbers) ≡ false → first_code (element_rows s (record { spots = spots }) kind (name ∷ numbers)) ≡ None
  clean_by kind shape drawn fits numbers count fine =
      element_clean s (record { spots = spots }) kind name numbers count (no_wrong_name s e name is) (known s e name is) (fitting kind shape drawn fits) fine not_placed

  name_word : IsSolidWord name
  name_word = solid name (name_spelled name is.spelled)

  four_words : (first v w : List ℕ) → IsSpelled first 6 → IsSpelled v 20 → IsSpelled w 20 → IsLineOf (spaced (first ∷ name ∷ v ∷ w ∷ [])) (first ∷ name ∷ v ∷ w ∷ [])
  four_words first v w p q r =
      let spelled = name_spelled name is.spelled in
      let a = p.few in
      let b = spelled.few in
      let c = q.few in
      let d = r.few in
      solid_line first (name ∷ v ∷ w ∷ []) (solid first p, (name_word, (solid v q, (solid w r, tt)))) (omega arith)

  five_words : (first u v w : List ℕ) → IsSpelled first 6 → IsSpelled u 20 → IsSpelled v 20 → IsSpelled w 20 → IsLineOf (spaced (first ∷ name ∷ u ∷ v ∷ w ∷ [])) (first ∷ name ∷ u ∷ v ∷ w ∷ [])
  five_words first u v w p o q r =
      let spelled = name_spelled name is.spelled in
      let a = p.few in
      let b = spelled.few in
      let c = q.few in
      let d = r.few in
      let f = o.few in
      solid_line first (name ∷ u ∷ v ∷ w ∷ []) (solid first p, (name_word, (solid u o, (solid v q, (solid w r, tt))))) (omega arith)

  length_word : (z : ℤ) → IsWithin 1152921504606846976 z → IsSpelled (whole_text z) 20
  length_word z within = whole_spelled z (wider 1152921504606846976 z (omega arith) within)

  normal_word : (z : ℤ) → IsWithin 2000000000 z → IsSpelled (whole_text z) 20
  normal_word z within = whole_spelled z (wider 2000000000 z (omega arith) within)

  point_reads : (x y : ℤ) (u v : Um) → is.element.shape ≡ Point u v → IsWithin 1152921504606846976 x → IsWithin 1152921504606846976 y → ReadsOn s from (to (at.Point x y) (Point u v)) (lying_words name (Point u v) (at.Point x y))
  point_reads x y u v drawn x_in y_in = record {
    line = four_words (codes "point") (whole_text x) (whole_text y) (literal (codes "point") 6 (omega arith) (omega arith) refl) (length_word x x_in) (length_word y y_in);
    clean = clean_by figure.Point (Point u v) drawn refl (whole_text x ∷ whole_text y ∷ []) refl (two_fine length_limit length_limit (whole_text x) (whole_text y) x y (length_back x x_in) (length_back y y_in));
    leads = ap (λ (more : List Spot). so_far steps (spots ++ more) (radii ++ []))
        (point_said s name (whole_text x) (whole_text y) e x y (its_number s e name is) (length_back x x_in) (length_back y y_in));
  }

  circle_reads : (x y : ℤ) (u v r : Um) → is.element.shape ≡ Circle u v r → IsLength r → IsWithin 1152921504606846976 x → IsWithin 1152921504606846976 y
      → ReadsOn s from (to (at.Point x y) (Circle u v r)) (lying_words name (Circle u v r) (at.Point x y))
  circle_reads x y u v r drawn long x_in y_in =
      let z = radius_nm r.0 in
      let z_in = radius_within r long in
      let place = circle_said s name (whole_text x) (whole_text y) (whole_text z) e x y (its_number s e name is) (length_back x x_in) (length_back y y_in) in
      let radius = circle_radius s name (whole_text x) (whole_text y) (whole_text z) e z (its_number s e name is) (length_back z z_in) in
      record {
        line = five_words (codes "circle") (whole_text x) (whole_text y) (whole_text z) (literal (codes "circle") 6 (omega arith) (omega arith) refl) (length_word x x_in) (length_word y y_in) (length_word z z_in);
        clean = clean_by figure.Circle (Circle u v r) drawn refl (whole_text x ∷ whole_text y ∷ whole_text z ∷ []) refl
            (three_fine length_limit length_limit length_limit (whole_text x) (whole_text y) (whole_text z) x y z (length_back x x_in) (length_back y y_in) (length_back z z_in));
        leads = ap (λ (more : List Spot). so_far steps (spots ++ more) (radii ++ radius_said s figure.Circle (name ∷ whole_text x ∷ whole_text y ∷ whole_text z ∷ []))) place
            ∙ ap (λ (more : List Radius). so_far steps (spots ++ record { elem = e; at = at.Point x y } ∷ []) (radii ++ more)) radius;
      }

  line_reads : (a b c : ℤ) (x1 y1 x2 y2 : Um) → is.element.shape ≡ Line x1 y1 x2 y2 → IsWithin 2000000000 a → IsWithin 2000000000 b → IsWithin 1152921504606846976 c
      → ReadsOn s from (to (at.Line a b c) (Line x1 y1 x2 y2)) (lying_words name (Line x1 y1 x2 y2) (at.Line a b c))
  line_reads a b c x1 y1 x2 y2 drawn a_in b_in c_in = record {
    line = five_words (codes "line") (whole_text a) (whole_text b) (whole_text c) (literal (codes "line") 6 (omega arith) (omega arith) refl) (normal_word a a_in) (normal_word b b_in) (length_word c c_in);
    clean = clean_by figure.Line (Line x1 y1 x2 y2) drawn refl (whole_text a ∷ whole_text b ∷ whole_text c ∷ []) refl
        (three_fine normal_limit normal_limit length_limit (whole_text a) (whole_text b) (whole_text c) a b c (normal_back a a_in) (normal_back b b_in) (length_back c c_in));
    leads = ap (λ (more : List Spot). so_far steps (spots ++ more) (radii ++ []))
        (line_said s name (whole_text a) (whole_text b) (whole_text c) e a b c (its_number s e name is) (normal_back a a_in) (normal_back b b_in) (length_back c c_in));
  }

  place_by : (shape : Shape) (p : At) → is.element.shape ≡ shape → IsSoundShape shape → HasKind (kind_of shape) p → IsBounded p → ReadsOn s from (to p shape) (lying_words name shape p)
  place_by (Point u v) (at.Point x y) drawn sound kind within = point_reads x y u v drawn within.0 within.1
  place_by (Point u v) (at.Line a b c) drawn sound kind within = absurd kind
  place_by (Line x1 y1 x2 y2) (at.Point x y) drawn sound kind within = absurd kind
  place_by (Line x1 y1 x2 y2) (at.Line a b c) drawn sound kind within = line_reads a b c x1 y1 x2 y2 drawn within.0 within.1 within.2
  place_by (Circle u v r) (at.Point x y) drawn sound kind within = circle_reads x y u v r drawn sound.2 within.0 within.1
  place_by (Circle u v r) (at.Line a b c) drawn sound kind within = absurd kind

  pub place_reads : (p : At) → HasKind (kind_of (drawn_as s e)) p → IsBounded p → ReadsOn s from (to p (drawn_as s e)) (lying_words name (drawn_as s e) p)
  place_reads p kind within = place_by (drawn_as s e) p is.drawn (subst (λ (shape : Shape). IsSoundShape shape) is.drawn is.sound) kind within
