-- Tests that are made of two tests.
use Rattle.std.proofs.Common.{◌≡◌, Bool, true, false}
use Rattle.std.specs.Prelude.{IsTrue, ◌↔◌}

-- the first holds, and the second is what is answered
pub both_then : {A B : Type 0} → (r : Bool) → A → IsTrue r ↔ B → IsTrue r ↔ (A × B)
both_then r a (to, from) = (λ is. (a, to is), λ h. from h.1)

-- the first doesn't hold
pub both_else : {A B : Type 0} → (first : Bool) → first ≡ false → IsTrue first ↔ A → IsTrue false ↔ (A × B)
both_else first fails (to, from) = (λ never. absurd (cc), λ h. absurd (let is : first ≡ true = from h.0 in cc))

-- something else that is the same
pub same_as : {A B : Type 0} → (r : Bool) → IsTrue r ↔ A → (A → B) → (B → A) → IsTrue r ↔ B
same_as r (to, from) there back = (λ is. there (to is), λ h. from (back h))
