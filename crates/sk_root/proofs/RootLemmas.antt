-- The whole roots are the greatest and the least ones.
use Rattle.std.proofs.Common.{◌≡◌, ℕ, zero, suc, ◌+◌, ◌*◌, ◌≤◌, ◌<◌, Bool, true, false, cond, inl, inr, eqb, leb, arith, refl}
use Rattle.std.proofs.lemmas.Bool.Decides.{nat_tests}
use Rattle.std.proofs.lemmas.Bool.{cases_lt}
use Rattle.std.proofs.lemmas.Nat.{mul-le}
use Rattle.sk_root.specs.Roots.{floor_root, ceil_root}

-- a root is at most another where its square is below the next square
pub root_below : (r s n : ℕ) → r * r ≤ n → n < (s + 1) * (s + 1) → r ≤ s
root_below r s n square next = grind arith

step : (r n : ℕ) (b : Bool) → leb ((r + 1) * (r + 1)) (suc n) ≡ b → r * r ≤ n → n < (r + 1) * (r + 1)
    → (cond b (r + 1) r * cond b (r + 1) r ≤ suc n) × (suc n < (cond b (r + 1) r + 1) * (cond b (r + 1) r + 1))
step r n true test square next = grind (arith, nat_tests)
step r n false test square next = grind (arith, nat_tests)

pub floor_root-bounds : (n : ℕ) → (floor_root n * floor_root n ≤ n) × (n < (floor_root n + 1) * (floor_root n + 1))
unfolding floor_root
floor_root-bounds zero = (omega arith, omega arith)
floor_root-bounds (suc n) = step (floor_root n) n _ refl (floor_root-bounds n).0 (floor_root-bounds n).1

-- there is one root rounded down
pub floor_root-is : (n r : ℕ) → r * r ≤ n → n < (r + 1) * (r + 1) → r ≡ floor_root n
floor_root-is n r square next =
    let bounds = floor_root-bounds n in
    let low = root_below r (floor_root n) n square bounds.1 in
    let high = root_below (floor_root n) r n bounds.0 next in
    omega arith

-- a number that is no square has its upper roots above its lower one
above_root : (n r s : ℕ) → ¬ (r * r ≡ n) → r * r ≤ n → n ≤ s * s → r + 1 ≤ s
above_root n r s apart square h = elim (cases_lt r s) [ inl above ↦ omega arith | inr below ↦ absurd (omega (arith, mul-le s s r r below below)) ]

ceil_case : (n r : ℕ) (b : Bool) → eqb (r * r) n ≡ b → r * r ≤ n → n < (r + 1) * (r + 1)
    → (n ≤ cond b r (r + 1) * cond b r (r + 1)) × ((s : ℕ) → n ≤ s * s → cond b r (r + 1) ≤ s)
ceil_case n r true test square next = (grind (arith, nat_tests), λ s h. root_below r s n square (omega arith))
ceil_case n r false test square next = (grind (arith, nat_tests), λ s h. above_root n r s (λ e. grind (arith, nat_tests)) square h)

pub ceil_root-least : (n : ℕ) → (n ≤ ceil_root n * ceil_root n) × ((s : ℕ) → n ≤ s * s → ceil_root n ≤ s)
unfolding ceil_root
ceil_root-least n = ceil_case n (floor_root n) _ refl (floor_root-bounds n).0 (floor_root-bounds n).1

-- the root rounded up is the lower one at a square, and the next one elsewhere
pick_square : (n r : ℕ) (b : Bool) → eqb (r * r) n ≡ b → r * r ≡ n → r ≡ cond b r (r + 1)
pick_square n r true test square = refl
pick_square n r false test square = grind (arith, nat_tests)

pub ceil_root-square : (n r : ℕ) → r * r ≡ n → r ≡ ceil_root n
unfolding ceil_root
ceil_root-square n r square = rw (← floor_root-is n r (omega arith) (omega arith)) (pick_square n r _ refl square)

pick_next : (n r : ℕ) (b : Bool) → eqb (r * r) n ≡ b → ¬ (r * r ≡ n) → r + 1 ≡ cond b r (r + 1)
pick_next n r true test apart = grind (arith, nat_tests)
pick_next n r false test apart = refl

pub ceil_root-next : (n r : ℕ) → ¬ (r * r ≡ n) → r * r ≤ n → n < (r + 1) * (r + 1) → r + 1 ≡ ceil_root n
unfolding ceil_root
ceil_root-next n r apart square next = rw (← floor_root-is n r square next) (pick_next n r _ refl apart)

pub ruleset root_lemmas = (floor_root-is, ceil_root-square, ceil_root-next)
