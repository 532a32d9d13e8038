-- A claim that is read fits the graph of its sketch.
use Rattle.std.proofs.Common.{◌≡◌, ◌≢◌, inl, inr, ℕ, ◌<◌, ◌≤◌, ◌^◌, ◌==◌, Bool, true, false, not, List, [], ◌∷◌, ◌++◌, length, Option, Some, None, is_some, is_none, unwrap_or, option_and_then, refl, sym, ap, subst, ◌∙◌, arith, append-nil, ℤ, pos, negsuc}
use Rattle.std.specs.Prelude.{Contains, AllPairs, IfSome, IsSome, find}
use Rattle.std.specs.List.{list_any, zip}
use Rattle.std.specs.Option.{option_map}
use Rattle.std.proofs.lemmas.Bool.Decides.{nat_tests}
use Rattle.std.proofs.lemmas.Int.{ints}
use Rattle.std.proofs.lemmas.List.Elements.{Contains-append_left, Contains-append_right, Contains-push_cases}
use Rattle.sk_base.specs.declared.At.{At}
use Rattle.sk_base.specs.declared.Elem.{Elem}
use Rattle.sk_base.specs.declared.Element.{Element}
use Rattle.sk_base.specs.declared.Node.{Node}
use Rattle.sk_base.specs.declared.Placed.{Placed}
use Rattle.sk_base.specs.declared.Shape.{Shape}
use Rattle.sk_base.specs.declared.Shape.TheVariants as shapes
use Rattle.sk_base.specs.declared.Sketch.{Sketch}
use Rattle.sk_base.specs.declared.Spot.{Spot}
use Rattle.sk_base.specs.Bounds.{IsWithin}
use Rattle.sk_base.specs.Millimetres.{digits_of, has_sign, without_sign}
use Rattle.sk_base.specs.Numbering.{elem_exact}
use Rattle.sk_base.specs.Places.{place_of, IsPoint, IsLine, IsBounded}
use Rattle.sk_base.specs.SoundSketch.{IsSoundSketch}
use Rattle.sk_base.proofs.Finding.{found_in, none_found}
use Rattle.sk_base.proofs.Members.{contains_mapped, contains_none, contains_head}
use Rattle.sk_base.proofs.Pairs.{pairs_none, pairs_push, pairs_tell}
use Rattle.sk_base.proofs.Tables.{passed}
use Rattle.sk_graph.specs.SketchGraph.{kind_of, node_of, graph_of}
use Rattle.sk_lines.specs.declared.Code.TheVariants.{E3, E4, E5, E6, E7, E8, E17}
use Rattle.sk_lines.specs.ByteCodes.{byte_rows}
use Rattle.sk_lines.specs.FirstCode.{first_code}
use Rattle.sk_entry.specs.Named.{element_named, number_named}
use Rattle.sk_entry.specs.Kinds.{is_circle}
use Rattle.sk_lines.specs.Lines.{lines_in}
use Rattle.sk_lines.specs.Quantities.{not_negative}
use Rattle.sk_lines.proofs.Amounts.{limited}
use Rattle.sk_lines.proofs.FirstCodes.{none_behind}
use Rattle.sk_lines.specs.Words.{words_in}
use Rattle.sk_measure.specs.Placing.{HasKind, IsSpotOf}
use Rattle.sk_claims.specs.declared.claim.Claim.{Claim}
use Rattle.sk_claims.specs.declared.claim.Radius.{Radius}
use Rattle.sk_claims.specs.declared.claim_line.SoFar.{SoFar}
use Rattle.sk_claims.specs.declared.claim_line.Tolerances.{Tolerances}
use Rattle.sk_claims.specs.declared.first_word.First.{First}
use Rattle.sk_claims.specs.declared.first_word.First.TheVariants as begins
use Rattle.sk_claims.specs.declared.first_word.Figure.{Figure}
use Rattle.sk_claims.specs.declared.first_word.Figure.TheVariants as figure
use Rattle.sk_claims.specs.Claims.{IsFitting, TellsCircles}
use Rattle.sk_claims.specs.ClaimLines.{whole_of, whole, tolerance, tolerance_limit, length_limit, normal_limit, limits_of, is_bad_whole, is_no_name, is_unknown, is_placed, first_of, fits_shape, fits_element, element_rows, tolerance_rows, rows_behind, word_rows, tolerances_said, with_words, claimed_with}
use Rattle.sk_claims.specs.ClaimReading.{nothing_yet, claimed_after, claimed_along, HaveNoCode, IsClaimOf, ReadsClaim}

-- what is found, where something is
pub found_spot : (o : Option Spot) → IsSome (option_map (λ (x : Spot). x.at) o) → (spot : Spot) × (o ≡ Some spot)
found_spot None is = absurd (cc)
found_spot (Some spot) is = (spot, refl)

-- the element of the spot, which has its radius where it is a circle
abbrev IsSpotWithRadius : Sketch → List Radius → Spot → Type 0
IsSpotWithRadius s radii spot = (x : Element) × Contains s.elements x × (x.number ≡ spot.elem) × (is_circle x.shape ≡ true → (r : Radius) × Contains radii r × (r.elem ≡ spot.elem))

-- the radius is that of a circle
abbrev IsOfCircle : Sketch → Radius → Type 0
IsOfCircle s r = (x : Element) × Contains s.elements x × (x.number ≡ r.elem) × (is_circle x.shape ≡ true)

-- what was read so far fits
pub record Fits (s : Sketch) (c : SoFar) : Type 0 where
  pub spots : (spot : Spot) → Contains c.at.spots spot → (n : Node) × Contains (graph_of s).nodes n × IsSpotOf n spot
  pub spots_differ : AllPairs (λ (x y : Spot). x.elem ≢ y.elem) c.at.spots
  pub radii_placed : (r : Radius) → Contains c.radii r → (spot : Spot) × Contains c.at.spots spot × (spot.elem ≡ r.elem)
  pub radii_differ : AllPairs (λ (x y : Radius). x.elem ≢ y.elem) c.radii
  pub circles : (r : Radius) → Contains c.radii r → IsOfCircle s r
  pub told : (spot : Spot) → Contains c.at.spots spot → IsSpotWithRadius s c.radii spot
  pub bounded : IfSome c.tolerances (λ t. (t.t ≤ 2 ^ 62) × (t.w ≤ 2 ^ 62))

pub fits_first : (s : Sketch) → Fits s nothing_yet
fits_first s = record {
  spots = λ spot h. absurd (contains_none spot h);
  spots_differ = pairs_none (λ (x y : Spot). x.elem ≢ y.elem);
  radii_placed = λ r h. absurd (contains_none r h);
  radii_differ = pairs_none (λ (x y : Radius). x.elem ≢ y.elem);
  circles = λ r h. absurd (contains_none r h);
  told = λ spot h. absurd (contains_none spot h);
  bounded = tt;
}

-- ---- numbers within their limits

whole_within : (most : ℕ) (word : List ℕ) → IsWithin most (whole most word)
whole_within most word = limited most (has_sign word) (digits_of 19 (without_sign word))

count_within : (most : ℕ) (o : Option ℤ) → IsWithin most (unwrap_or o (pos 0)) → unwrap_or (option_and_then not_negative o) 0 ≤ most
count_within most None within = omega arith
count_within most (Some (pos n)) within = omega (arith, ints)
count_within most (Some (negsuc n)) within = omega arith

tolerance_within : (word : List ℕ) → tolerance word ≤ 2 ^ 62
tolerance_within word = count_within tolerance_limit (whole_of tolerance_limit word) (whole_within tolerance_limit word)

-- ---- a further place

-- the place is that of a point, or of a line
abbrev HasFigure : Figure → At → Type 0
HasFigure figure.Point at = IsPoint at
HasFigure figure.Circle at = IsPoint at
HasFigure figure.Line at = IsLine at

has_kind : (kind : Figure) (shape : Shape) (at : At) → fits_shape kind shape ≡ true → HasFigure kind at → HasKind (kind_of shape) at
has_kind figure.Point (shapes.Point x y) at fits is = is
has_kind figure.Point (shapes.Circle x y r) at fits is = cc
has_kind figure.Point (shapes.Line x1 y1 x2 y2) at fits is = cc
has_kind figure.Circle (shapes.Point x y) at fits is = cc
has_kind figure.Circle (shapes.Circle x y r) at fits is = is
has_kind figure.Circle (shapes.Line x1 y1 x2 y2) at fits is = cc
has_kind figure.Line (shapes.Point x y) at fits is = cc
has_kind figure.Line (shapes.Circle x y r) at fits is = cc
has_kind figure.Line (shapes.Line x1 y1 x2 y2) at fits is = is

no_point : (shape : Shape) → fits_shape figure.Point shape ≡ true → is_circle shape ≡ true → ⊥
no_point (shapes.Point x y) fits is = cc
no_point (shapes.Circle x y r) fits is = cc
no_point (shapes.Line x1 y1 x2 y2) fits is = cc

no_line : (shape : Shape) → fits_shape figure.Line shape ≡ true → is_circle shape ≡ true → ⊥
no_line (shapes.Point x y) fits is = cc
no_line (shapes.Circle x y r) fits is = cc
no_line (shapes.Line x1 y1 x2 y2) fits is = cc

a_circle : (shape : Shape) → fits_shape figure.Circle shape ≡ true → is_circle shape ≡ true
a_circle (shapes.Point x y) fits = cc
a_circle (shapes.Circle x y r) fits = refl
a_circle (shapes.Line x1 y1 x2 y2) fits = cc

-- the name is that of an element of the sketch
record IsOf (s : Sketch) (kind : Figure) (name : List ℕ) (x : Element) : Type 0 where
  there : Contains s.elements x
  number : number_named s name ≡ x.number
  shape : fits_shape kind x.shape ≡ true

named : (s : Sketch) (kind : Figure) (name : List ℕ) → is_unknown s name ≡ false → not (fits_element kind (element_named s name)) ≡ false → (x : Element) × IsOf s kind name x
named s kind name known fits = by (element_named s name) refl known fits
  where
    by : (o : Option Element) → element_named s name ≡ o → is_none o ≡ false → not (fits_element kind o) ≡ false → (x : Element) × IsOf s kind name x
    by None is known fits = cc
    by (Some x) is known fits = (
      x,
      record {
        there = (found_in _ s.elements x is).0;
        number = ap (λ (o : Option Element). unwrap_or (option_map (λ (element : Element). element.number) o) (record { 0 = 0 })) is;
        shape = shown (fits_shape kind x.shape) fits;
      },
    )
      where
        shown : (b : Bool) → not b ≡ false → b ≡ true
        shown true is = refl
        shown false is = cc

nothing_found : (o : Option Spot) → is_some (option_map (λ (spot : Spot). spot.at) o) ≡ false → o ≡ None
nothing_found None is = refl
nothing_found (Some spot) is = cc

-- an element that isn't placed is that of no spot
not_placed : (p : Placed) (e : Elem) → is_some (place_of p e) ≡ false → (spot : Spot) → Contains p.spots spot → spot.elem ≢ e
not_placed p e none spot there same =
    let nothing = nothing_found (find (λ (x : Spot). x.elem.0 == e.0) p.spots) none in
    let other : (spot.elem.0 == e.0) ≡ false = none_found (λ (x : Spot). x.elem.0 == e.0) p.spots nothing spot there in
    let level : spot.elem.0 ≡ e.0 = ap (λ (x : Elem). x.0) same in grind (arith, nat_tests)

-- what is said of one element
record IsSaid (s : Sketch) (c : SoFar) (kind : Figure) (name : List ℕ) (spot : Spot) : Type 0 where
  known : is_unknown s name ≡ false
  fits : not (fits_element kind (element_named s name)) ≡ false
  free : is_placed s c.at name ≡ false
  elem : spot.elem ≡ number_named s name
  at : HasFigure kind spot.at
  bounded : IsBounded spot.at

module _ (s : Sketch) (c : SoFar) (fits : Fits s c) where
  module _ (kind : Figure) (name : List ℕ) (spot : Spot) (said : IsSaid s c kind name spot) where
    free_here : (other : Spot) → Contains c.at.spots other → other.elem ≢ spot.elem
    free_here other there same = not_placed c.at (number_named s name) said.free other there (same ∙ said.elem)

    its_element : (x : Element) × IsOf s kind name x
    its_element = named s kind name said.known said.fits

    its_number : its_element.0.number ≡ spot.elem
    its_number = sym its_element.1.number ∙ sym said.elem

    its_node : (n : Node) × Contains (graph_of s).nodes n × IsSpotOf n spot
    its_node =
        let x = its_element.0 in (
          node_of x,
          contains_mapped node_of s.elements x its_element.1.there,
          record { elem = its_number; has_kind = has_kind kind x.shape spot.at its_element.1.shape said.at; bounded = said.bounded },
        )

    all_spots : (other : Spot) → Contains (c.at.spots ++ spot ∷ []) other → (n : Node) × Contains (graph_of s).nodes n × IsSpotOf n other
    all_spots other there =
        elim (Contains-push_cases c.at.spots spot other there) [
          | inl early ↦ fits.spots other early
          | inr last ↦ subst (λ (y : Spot). (n : Node) × Contains (graph_of s).nodes n × IsSpotOf n y) last its_node
        ]

    still_placed : (r : Radius) → Contains c.radii r → (y : Spot) × Contains (c.at.spots ++ spot ∷ []) y × (y.elem ≡ r.elem)
    still_placed r there = let of = fits.radii_placed r there in (of.0, Contains-append_left c.at.spots (spot ∷ []) of.0 of.1, of.2)

    still_told : (radius : Radius) (other : Spot) → IsSpotWithRadius s c.radii other → IsSpotWithRadius s (c.radii ++ radius ∷ []) other
    still_told radius other of = (of.0, of.1, of.2, λ circle. (let its = of.3 circle in (its.0, Contains-append_left c.radii (radius ∷ []) its.0 its.1, its.2)))

    with_spot : ((shape : Shape) → fits_shape kind shape ≡ true → is_circle shape ≡ true → ⊥) → Fits s (record c { at = record { spots = c.at.spots ++ spot ∷ [] }; radii = c.radii ++ [] })
    with_spot other_kind = rw (append-nil c.radii) (record {
      spots = all_spots;
      spots_differ = pairs_push (λ (x y : Spot). x.elem ≢ y.elem) c.at.spots spot fits.spots_differ free_here;
      radii_placed = still_placed;
      radii_differ = fits.radii_differ;
      circles = fits.circles;
      told = λ other there.
          elim (Contains-push_cases c.at.spots spot other there) [
            | inl early ↦ fits.told other early
            | inr last ↦ subst (λ (y : Spot). IsSpotWithRadius s c.radii y) last (its_element.0, its_element.1.there, its_number, λ circle. absurd (other_kind its_element.0.shape its_element.1.shape circle))
          ];
      bounded = fits.bounded;
    })

    with_radius : ((shape : Shape) → fits_shape kind shape ≡ true → is_circle shape ≡ true) → (radius : Radius) → radius.elem ≡ spot.elem → Fits s (record c { at = record { spots = c.at.spots ++ spot ∷ [] }; radii = c.radii ++ radius ∷ [] })
    with_radius kind_is radius same = record {
      spots = all_spots;
      spots_differ = pairs_push (λ (x y : Spot). x.elem ≢ y.elem) c.at.spots spot fits.spots_differ free_here;
      radii_placed = λ r there.
          elim (Contains-push_cases c.radii radius r there) [
            | inl early ↦ still_placed r early
            | inr last ↦ (spot, Contains-append_right c.at.spots (spot ∷ []) spot (contains_head spot []), sym same ∙ ap (λ (x : Radius). x.elem) last)
          ];
      radii_differ = pairs_push (λ (x y : Radius). x.elem ≢ y.elem) c.radii radius fits.radii_differ (λ r there is.
          let of = fits.radii_placed r there in free_here of.0 of.1 (of.2 ∙ is ∙ same));
      circles = λ r there.
          elim (Contains-push_cases c.radii radius r there) [
            | inl early ↦ fits.circles r early
            | inr last ↦ subst (λ (q : Radius). IsOfCircle s q) last (its_element.0, its_element.1.there, its_number ∙ sym same, kind_is its_element.0.shape its_element.1.shape)
          ];
      told = λ other there.
          elim (Contains-push_cases c.at.spots spot other there) [
            | inl early ↦ still_told radius other (fits.told other early)
            | inr last ↦
                subst (λ (y : Spot). IsSpotWithRadius s (c.radii ++ radius ∷ []) y) last
                (its_element.0, its_element.1.there, its_number, λ circle. (radius, Contains-append_right c.radii (radius ∷ []) radius (contains_head radius []), same))
          ];
      bounded = fits.bounded;
    }

  -- the tests that an element line passes
  record Passes (kind : Figure) (name : List ℕ) (numbers : List (List ℕ)) : Type 0 where
    count : not (length numbers == length (limits_of kind)) ≡ false
    known : is_unknown s name ≡ false
    of_kind : not (fits_element kind (element_named s name)) ≡ false
    free : is_placed s c.at name ≡ false

  passes : (kind : Figure) (name : List ℕ) (numbers : List (List ℕ)) → first_code (element_rows s c.at kind (name ∷ numbers)) ≡ None → Passes kind name numbers
  passes kind name numbers is =
      let count = passed (not (length numbers == length (limits_of kind))) E3 _ is in
      let letters = passed (is_no_name name) E4 _ count.1 in
      let known = passed (is_unknown s name) E6 _ letters.1 in
      let of_kind = passed (not (fits_element kind (element_named s name))) E7 _ known.1 in
      let number = passed (list_any is_bad_whole (zip (limits_of kind) numbers)) E8 _ of_kind.1 in
      let free = passed (is_placed s c.at name) E5 _ number.1 in
      record { count = count.0; known = known.0; of_kind = of_kind.0; free = free.0 }

  pub fits_place : (kind : Figure) (rest : List (List ℕ)) → first_code (element_rows s c.at kind rest) ≡ None → Fits s (with_words s c (Some (begins.Element kind)) rest)
  fits_place kind [] is = cc
  fits_place kind (name ∷ numbers) is = by kind numbers (passes kind name numbers is)
    where
      by : (kind : Figure) (numbers : List (List ℕ)) → Passes kind name numbers → Fits s (with_words s c (Some (begins.Element kind)) (name ∷ numbers))
      by figure.Point [] p = (let count = p.count in cc)
      by figure.Point (x ∷ []) p = (let count = p.count in cc)
      by figure.Point (x ∷ y ∷ more) p =
          with_spot figure.Point name _ (record { known = p.known; fits = p.of_kind; free = p.free; elem = refl; at = tt; bounded = (whole_within length_limit x, whole_within length_limit y) }) no_point
      by figure.Circle [] p = (let count = p.count in cc)
      by figure.Circle (x ∷ []) p = (let count = p.count in cc)
      by figure.Circle (x ∷ y ∷ []) p = (let count = p.count in cc)
      by figure.Circle (x ∷ y ∷ r ∷ more) p =
          with_radius figure.Circle name _ (record { known = p.known; fits = p.of_kind; free = p.free; elem = refl; at = tt; bounded = (whole_within length_limit x, whole_within length_limit y) }) a_circle _ refl
      by figure.Line [] p = (let count = p.count in cc)
      by figure.Line (a ∷ []) p = (let count = p.count in cc)
      by figure.Line (a ∷ b ∷ []) p = (let count = p.count in cc)
      by figure.Line (a ∷ b ∷ d ∷ more) p =
          with_spot figure.Line name _ (record { known = p.known; fits = p.of_kind; free = p.free; elem = refl; at = tt; bounded = (whole_within normal_limit a, whole_within normal_limit b, whole_within length_limit d) }) no_line

  fits_tolerances : (rest : List (List ℕ)) → first_code (tolerance_rows rest) ≡ None → Fits s (record c { tolerances = tolerances_said rest })
  fits_tolerances [] is = cc
  fits_tolerances (t ∷ []) is = cc
  fits_tolerances (t ∷ w ∷ u ∷ more) is = cc
  fits_tolerances (t ∷ w ∷ []) is = record {
    spots = fits.spots;
    spots_differ = fits.spots_differ;
    radii_placed = fits.radii_placed;
    radii_differ = fits.radii_differ;
    circles = fits.circles;
    told = fits.told;
    bounded = (tolerance_within t, tolerance_within w);
  }

  fits_words : (words : List (List ℕ)) → first_code (word_rows s c words) ≡ None → Fits s (claimed_with s c words)
  fits_words [] is = fits
  fits_words (first ∷ rest) is = by (first_of first) (passed (is_some c.tolerances) E17 _ is).1
    where
      by : (f : Option First) → first_code (rows_behind s c f rest) ≡ None → Fits s (with_words s c f rest)
      by None is = cc
      by (Some begins.Step) is = record {
        spots = fits.spots;
        spots_differ = fits.spots_differ;
        radii_placed = fits.radii_placed;
        radii_differ = fits.radii_differ;
        circles = fits.circles;
        told = fits.told;
        bounded = fits.bounded;
      }
      by (Some (begins.Element kind)) is = fits_place kind rest is
      by (Some begins.Tolerance) is = fits_tolerances rest is

-- line by line
fits_along : (s : Sketch) (lines : List (List ℕ)) (c : SoFar) → Fits s c → HaveNoCode s c lines → Fits s (claimed_along s c lines)
fits_along s [] c fits clean = fits
fits_along s (line ∷ lines) c fits clean =
    fits_along s lines (claimed_after s c line) (fits_words s c fits (words_in line) (none_behind (byte_rows line) (word_rows s c (words_in line)) clean.0)) clean.1

pub fitting : (s : Sketch) (c : SoFar) (claim : Claim) → Fits s c → IsClaimOf c claim → IsFitting (graph_of s) claim
fitting s c claim fits of =
    let bounds = subst (λ (o : Option Tolerances). IfSome o (λ t. (t.t ≤ 2 ^ 62) × (t.w ≤ 2 ^ 62))) of.tolerances fits.bounded in
    record {
      spots = subst (λ (p : Placed). (spot : Spot) → Contains p.spots spot → (n : Node) × Contains (graph_of s).nodes n × IsSpotOf n spot) (sym of.at) fits.spots;
      spots_differ = subst (λ (p : Placed). AllPairs (λ (x y : Spot). x.elem ≢ y.elem) p.spots) (sym of.at) fits.spots_differ;
      radii_differ = subst (λ (radii : List Radius). AllPairs (λ (x y : Radius). x.elem ≢ y.elem) radii) (sym of.radii) fits.radii_differ;
      t = bounds.0;
      w = bounds.1;
    }

-- ---- the radii of circles

some_place : (o : Option Spot) → (o ≡ None → ⊥) → IsSome (option_map (λ (x : Spot). x.at) o)
some_place None never = absurd (never refl)
some_place (Some spot) never = refl

-- an element that has a spot is placed
placed_at : (p : Placed) (spot : Spot) (e : Elem) → Contains p.spots spot → spot.elem ≡ e → IsSome (place_of p e)
placed_at p spot e there same = some_place (find (λ (x : Spot). x.elem.0 == e.0) p.spots) (λ none.
    let other : (spot.elem.0 == e.0) ≡ false = none_found (λ (x : Spot). x.elem.0 == e.0) p.spots none spot there in
    let level : spot.elem.0 ≡ e.0 = ap (λ (x : Elem). x.0) same in grind (arith, nat_tests))

-- and an element that is placed has a spot
pub spot_of : (p : Placed) (e : Elem) → IsSome (place_of p e) → (spot : Spot) × Contains p.spots spot × (spot.elem ≡ e)
spot_of p e is =
    let found = found_spot (find (λ (x : Spot). x.elem.0 == e.0) p.spots) is in
    let there = found_in (λ (x : Spot). x.elem.0 == e.0) p.spots found.0 found.1 in
    (found.0, there.0, elem_exact found.0.elem e (grind (arith, nat_tests)))

same_element : (s : Sketch) → IsSoundSketch s → (x y : Element) → Contains s.elements x → Contains s.elements y → x.number ≡ y.number → x ≡ y
same_element s sound x y x_in y_in same =
    let level : x.number.0 ≡ y.number.0 = ap (λ (e : Elem). e.0) same in
    elim (pairs_tell (λ (p q : Element). p.number.0 < q.number.0) s.elements sound.elements_rise x y x_in y_in) [
      | inl is ↦ is
      | inr (inl less) ↦ absurd (omega arith)
      | inr (inr more) ↦ absurd (omega arith)
    ]

pub telling : (s : Sketch) (c : SoFar) → Fits s c → IsSoundSketch s → (claim : Claim) → IsClaimOf c claim → TellsCircles s claim
telling s c fits sound claim of = record {
  of_circles = λ r there.
      let from = subst (λ (radii : List Radius). Contains radii r) of.radii there in
      let x = fits.circles r from in
      let at = fits.radii_placed r from in
      (x.0, x.1, x.2, x.3, subst (λ (p : Placed). IsSome (place_of p x.0.number)) (sym of.at) (placed_at c.at at.0 x.0.number at.1 (at.2 ∙ sym x.2)));
  each = λ x there circle placed.
      let at = spot_of c.at x.number (subst (λ (p : Placed). IsSome (place_of p x.number)) of.at placed) in
      let its = fits.told at.0 at.1 in
      let same : x ≡ its.0 = same_element s sound x its.0 there its.1 (sym at.2 ∙ sym its.2) in
      let radius = its.3 (subst (λ (y : Element). is_circle y.shape ≡ true) same circle) in
      (radius.0, subst (λ (radii : List Radius). Contains radii radius.0) (sym of.radii) radius.1, radius.2 ∙ at.2);
}

-- the radii are those of the circles that are placed
pub read_claim_tells : (s : Sketch) (bytes : List ℕ) (claim : Claim) → IsSoundSketch s → ReadsClaim s bytes claim → TellsCircles s claim
read_claim_tells s bytes claim sound reads =
    telling s (claimed_along s nothing_yet (lines_in bytes)) (fits_along s (lines_in bytes) nothing_yet (fits_first s) reads.clean) sound claim reads.read

-- the claim fits the graph
pub read_claim_fits : (s : Sketch) (bytes : List ℕ) (claim : Claim) → ReadsClaim s bytes claim → IsFitting (graph_of s) claim
read_claim_fits s bytes claim reads = fitting s (claimed_along s nothing_yet (lines_in bytes)) claim (fits_along s (lines_in bytes) nothing_yet (fits_first s) reads.clean) reads.read
