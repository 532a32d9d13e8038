-- The least and the greatest of some numbers are within the bounds of all.
use Rattle.std.proofs.Common.{◌≡◌, inl, inr, ℕ, ℤ, List, fold, subst, sym}
use Rattle.std.specs.Prelude.{All}
use Rattle.std.specs.Int.{int_min, int_max}
use Rattle.std.proofs.lemmas.Int.{fold-int_min_reached, fold-int_max_reached}
use Rattle.std.proofs.lemmas.List.Elements.{All-contains}
use Rattle.sk_base.specs.Bounds.{IsWithin}

pub least_within : (most : ℕ) (s : ℤ) (places : List ℤ) (r : ℤ) → IsWithin most s → All (IsWithin most) places → r ≡ fold int_min s places → IsWithin most r
least_within most s places r one all is =
    elim (fold-int_min_reached s places r is) [
      | inl here ↦ subst (λ z. IsWithin most z) (sym here) one
      | inr among ↦ All-contains (IsWithin most) places r all among
    ]

pub greatest_within : (most : ℕ) (s : ℤ) (places : List ℤ) (r : ℤ) → IsWithin most s → All (IsWithin most) places → r ≡ fold int_max s places → IsWithin most r
greatest_within most s places r one all is =
    elim (fold-int_max_reached s places r is) [
      | inl here ↦ subst (λ z. IsWithin most z) (sym here) one
      | inr among ↦ All-contains (IsWithin most) places r all among
    ]
