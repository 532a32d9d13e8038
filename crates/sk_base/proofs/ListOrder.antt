-- The order of lists of elements.
use Rattle.std.proofs.Common.{◌≡◌, ◌≢◌, ◌⊎◌, inl, inr, refl, ◌<◌, List, [], ◌∷◌, ap, sym, ◌∙◌, arith}
use Rattle.std.specs.Prelude.{ℕ, Bool, true, false, nat_lt, ◌==◌, ◌||◌, ◌&&◌}
use Rattle.std.specs.declared.cmp.Ordering.{Ordering}
use Rattle.std.specs.declared.cmp.Ordering.TheVariants.{Less, Equal, Greater}
use Rattle.std.specs.Ordering.{ordering_then, nat_cmp, is_lt}
use Rattle.std.specs.Cmp.Lexicographic.{slice_cmp}
use Rattle.std.proofs.lemmas.Bool.Decides.{nat_tests}
use Rattle.sk_base.specs.declared.numbered.Elem.{Elem}
use Rattle.sk_base.specs.Numbering.{elem_exact}
use Rattle.sk_base.proofs.Unions.{which}
use Rattle.sk_base.specs.ElementOrder.{ElementsBefore, comes_before}

pub before_irreflexive : (xs : List Elem) → ¬ ElementsBefore xs xs
before_irreflexive [] h = h
before_irreflexive (x ∷ xs) (inl less) = absurd (omega arith)
before_irreflexive (x ∷ xs) (inr (same, rest)) = before_irreflexive xs rest

pub before_asymmetric : (xs ys : List Elem) → ElementsBefore xs ys → ¬ ElementsBefore ys xs
before_asymmetric [] [] h g = h
before_asymmetric [] (y ∷ ys) h g = g
before_asymmetric (x ∷ xs) [] h g = h
before_asymmetric (x ∷ xs) (y ∷ ys) (inl less) (inl more) = absurd (omega arith)
before_asymmetric (x ∷ xs) (y ∷ ys) (inl less) (inr (same, rest)) = (let level = ap (λ (e : Elem). e.0) same in absurd (omega arith))
before_asymmetric (x ∷ xs) (y ∷ ys) (inr (same, rest)) (inl more) = (let level = ap (λ (e : Elem). e.0) same in absurd (omega arith))
before_asymmetric (x ∷ xs) (y ∷ ys) (inr (same, h)) (inr (back, g)) = before_asymmetric xs ys h g

pub before_chain : (xs ys zs : List Elem) → ElementsBefore xs ys → ElementsBefore ys zs → ElementsBefore xs zs
before_chain [] [] zs h g = absurd h
before_chain [] (y ∷ ys) [] h g = absurd g
before_chain [] (y ∷ ys) (z ∷ zs) h g = tt
before_chain (x ∷ xs) [] zs h g = absurd h
before_chain (x ∷ xs) (y ∷ ys) [] h g = absurd g
before_chain (x ∷ xs) (y ∷ ys) (z ∷ zs) (inl less) (inl more) = inl (omega arith)
before_chain (x ∷ xs) (y ∷ ys) (z ∷ zs) (inl less) (inr (same, rest)) = (let level = ap (λ (e : Elem). e.0) same in inl (omega arith))
before_chain (x ∷ xs) (y ∷ ys) (z ∷ zs) (inr (same, rest)) (inl more) = (let level = ap (λ (e : Elem). e.0) same in inl (omega arith))
before_chain (x ∷ xs) (y ∷ ys) (z ∷ zs) (inr (same, h)) (inr (next, g)) = inr (same ∙ next, before_chain xs ys zs h g)

-- of two lists one comes before the other, or they are the same
pub before_tells : (xs ys : List Elem) → ElementsBefore xs ys ⊎ ((xs ≡ ys) ⊎ ElementsBefore ys xs)
before_tells [] [] = inr (inl refl)
before_tells [] (y ∷ ys) = inl tt
before_tells (x ∷ xs) [] = inr (inr tt)
before_tells (x ∷ xs) (y ∷ ys) =
    elim (which x.0 y.0) [
      | inl less ↦ inl (inl less)
      | inr (inr more) ↦ inr (inr (inl more))
      | inr (inl level) ↦ (
          let same : x ≡ y = elem_exact x y level in
          elim (before_tells xs ys) [
            | inl before ↦ inl (inr (same, before))
            | inr (inl rest) ↦ inr (inl (cc))
            | inr (inr after) ↦ inr (inr (inr (sym same, after)))
          ])
    ]

pub before_unless : (xs ys : List Elem) → xs ≢ ys → ¬ ElementsBefore xs ys → ElementsBefore ys xs
before_unless xs ys differ not_before =
    elim (before_tells xs ys) [
      | inl before ↦ absurd (not_before before)
      | inr (inl same) ↦ absurd (differ same)
      | inr (inr after) ↦ after
    ]

less_by : (x y : ℕ) (o : Ordering) → ordering_then (nat_cmp x y) o ≡ Less → (x < y) ⊎ ((x ≡ y) × (o ≡ Less))
less_by x y o h = grind (arith, nat_tests)

less_then : (x y : ℕ) (o : Ordering) → x < y → ordering_then (nat_cmp x y) o ≡ Less
less_then x y o h = grind (arith, nat_tests)

level_then : (x y : ℕ) (o : Ordering) → x ≡ y → o ≡ Less → ordering_then (nat_cmp x y) o ≡ Less
level_then x y o level h = grind (arith, nat_tests)

pub lt_is_less : (o : Ordering) → is_lt o ≡ true → o ≡ Less
lt_is_less Less h = refl
lt_is_less Equal h = absurd (cc)
lt_is_less Greater h = absurd (cc)

same_first : (x y : ℕ) (b : Bool) → x ≡ y → b ≡ (nat_lt x y || ((x == y) && b))
same_first x y true level = grind (arith, nat_tests)
same_first x y false level = grind (arith, nat_tests)

later_first : (x y : ℕ) (b : Bool) → y < x → false ≡ (nat_lt x y || ((x == y) && b))
later_first x y b more = grind (arith, nat_tests)

lesser_first : (x y : ℕ) (b : Bool) → x < y → (nat_lt x y || ((x == y) && b)) ≡ true
lesser_first x y b less = grind (arith, nat_tests)

-- what std compares as less comes before
module _ (R : Elem → Elem → Ordering) (numbers : (x y : Elem) → R x y ≡ nat_cmp x.0 y.0) where
  pub less_is_before : (xs ys : List Elem) → slice_cmp R xs ys ≡ Less → ElementsBefore xs ys
  less_is_before [] [] h = absurd (cc)
  less_is_before [] (y ∷ ys) h = tt
  less_is_before (x ∷ xs) [] h = absurd (cc)
  less_is_before (x ∷ xs) (y ∷ ys) h =
      elim (less_by x.0 y.0 (slice_cmp R xs ys) (rw numbers at h)) [
        | inl less ↦ inl less
        | inr (level, rest) ↦ inr (elem_exact x y level, less_is_before xs ys rest)
      ]

  pub before_is_less : (xs ys : List Elem) → ElementsBefore xs ys → slice_cmp R xs ys ≡ Less
  before_is_less [] [] h = absurd h
  before_is_less [] (y ∷ ys) h = refl
  before_is_less (x ∷ xs) [] h = absurd h
  before_is_less (x ∷ xs) (y ∷ ys) (inl less) = rw numbers (less_then x.0 y.0 (slice_cmp R xs ys) less)
  before_is_less (x ∷ xs) (y ∷ ys) (inr (same, rest)) = rw numbers (level_then x.0 y.0 (slice_cmp R xs ys) (ap (λ (e : Elem). e.0) same) (before_is_less xs ys rest))

-- the computed order is the order
pub computed_before : (xs ys : List Elem) → comes_before xs ys ≡ true → ElementsBefore xs ys
computed_before [] [] h = absurd (cc)
computed_before [] (y ∷ ys) h = tt
computed_before (x ∷ xs) [] h = absurd (cc)
computed_before (x ∷ xs) (y ∷ ys) h =
    elim (which x.0 y.0) [
      | inl less ↦ inl less
      | inr (inl level) ↦ inr (elem_exact x y level, computed_before xs ys (same_first x.0 y.0 (comes_before xs ys) level ∙ h))
      | inr (inr more) ↦ absurd (let never = later_first x.0 y.0 (comes_before xs ys) more ∙ h in cc)
    ]

pub before_computed : (xs ys : List Elem) → ElementsBefore xs ys → comes_before xs ys ≡ true
before_computed [] [] h = absurd h
before_computed [] (y ∷ ys) h = refl
before_computed (x ∷ xs) [] h = absurd h
before_computed (x ∷ xs) (y ∷ ys) (inl less) = lesser_first x.0 y.0 (comes_before xs ys) less
before_computed (x ∷ xs) (y ∷ ys) (inr (same, rest)) = sym (same_first x.0 y.0 (comes_before xs ys) (ap (λ (e : Elem). e.0) same)) ∙ before_computed xs ys rest
