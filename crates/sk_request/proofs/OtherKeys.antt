-- A word that begins with the name of one key begins with that of no other.
use Rattle.std.proofs.Common.{◌≡◌, inl, inr, ℕ, true, false, List, [], ◌∷◌, refl, arith}
use Rattle.std.specs.Prelude.{◌==◌, Some, None}
use Rattle.std.proofs.lemmas.Bool.{cases_Bool}
use Rattle.std.proofs.lemmas.Bool.Decides.{nat_tests}
use Rattle.sk_request.specs.Asking.{behind}

same_test : (c a : ℕ) → (c == a) ≡ true → c ≡ a
same_test c a is = grind (arith, nat_tests)

pub apart : (a b : ℕ) (name other word value : List ℕ) → (a == b) ≡ false → behind (a ∷ name) word ≡ Some value → behind (b ∷ other) word ≡ None
apart a b name other [] value differ is = refl
apart a b name other (c ∷ word) value differ is = elim (cases_Bool (c == a)) [
  | inl same ↦ (let no : (c == b) ≡ false = rw (same_test c a same) differ in rw no refl)
  | inr not_same ↦ absurd (let never : None ≡ Some value = rw not_same at is in cc)
]
