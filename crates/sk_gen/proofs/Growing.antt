-- One point more.
use Rattle.std.proofs.Common.{◌≡◌, ℕ, zero, suc, ◌+◌, List, [], ◌∷◌, ◌++◌, ap, sym, ◌∙◌, arith, add-one}
use Rattle.std.specs.List.{flat_map, range_with_len}
use Rattle.std.proofs.lemmas.List.Concat.{flat_map-append}
use Rattle.std.proofs.lemmas.List.FromFn.{map-range_with_len_more}
use Rattle.sk_base.specs.declared.sketch.Element.{Element}
use Rattle.sk_base.specs.declared.sketch.Constraint.{Constraint}
use Rattle.sk_gen.specs.DatumSketch.{x_axis, y_axis, point, right_angle, distances, elements_of, constraints_of}

elements_more : (n : ℕ) → elements_of (n + 1) ≡ elements_of n ++ point (n + 1) ∷ []
elements_more n = ap (λ (xs : List Element). x_axis ∷ y_axis ∷ xs) (map-range_with_len_more point 1 n (n + 1) (omega arith))

range_more : (a n j : ℕ) → a + n ≡ j → range_with_len a (suc n) ≡ range_with_len a n ++ j ∷ []
range_more a zero j e = let same : a ≡ j = omega arith in cc
range_more a (suc n) j e = ap (λ (ks : List ℕ). a ∷ ks) (range_more (a + 1) n j (omega arith))

constraints_more : (n : ℕ) → constraints_of (n + 1) ≡ constraints_of n ++ distances (n + 1)
constraints_more n =
    let range : range_with_len 1 (n + 1) ≡ range_with_len 1 n ++ (n + 1) ∷ [] = ap (range_with_len 1) (add-one n) ∙ range_more 1 n (n + 1) (omega arith) in
    ap (λ (xs : List Constraint). right_angle ∷ xs) (ap (flat_map distances) range ∙ flat_map-append distances (range_with_len 1 n) ((n + 1) ∷ []))

-- the point is appended to those before it
pub point_appended : (n : ℕ) (x : Element) (before after : List Element) → before ≡ elements_of n → x ≡ point (n + 1) → after ≡ before ++ x ∷ [] → after ≡ elements_of (n + 1)
point_appended n x before after so_far is appended =
    appended ∙ ap (λ (xs : List Element). xs ++ x ∷ []) so_far ∙ ap (λ (y : Element). elements_of n ++ y ∷ []) is ∙ sym (elements_more n)

-- its distances are appended to those before them
pub distances_appended : (n : ℕ) (before after : List Constraint) → before ≡ constraints_of n → after ≡ before ++ distances (n + 1) → after ≡ constraints_of (n + 1)
distances_appended n before after so_far appended =
    appended ∙ ap (λ (xs : List Constraint). xs ++ distances (n + 1)) so_far ∙ sym (constraints_more n)
