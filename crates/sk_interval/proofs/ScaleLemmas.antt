-- Signed numbers under factors: the algebra that a finer grid needs.
use Rattle.std.proofs.Common.{◌≡◌, ℕ, suc, ◌+◌, ◌*◌, ℤ, pos, negsuc, neg_ℤ, ◌+ℤ◌, ◌-ℤ◌, ◌*ℤ◌, ◌≤ℤ◌, sym, ap, ◌∙◌, arith}
use Rattle.std.proofs.lemmas.Int.{ints}
use Rattle.std.proofs.lemmas.Nat.{mul-le}
use Rattle.sk_interval.proofs.QuotientLemmas.{scaled, neg-product}
use borrow.Author.Differences.{up, down, le_out, sum_is_lem}
use native.Mathlib.Nat.{le_refl}
use lib.IntN.{*ℤ_comm}

-- an order turns under a factor below 0
pub scaled_down : (a b : ℤ) (k : ℕ) → a ≤ℤ b → (b *ℤ negsuc k) ≤ℤ (a *ℤ negsuc k)
scaled_down a b k h = omega (arith, ints, mul-le (up a + down b) (suc k) (up b + down a) (suc k) (le_out a b h) (le_refl _))

pub product-neg : (a b : ℤ) → a *ℤ neg_ℤ b ≡ neg_ℤ (a *ℤ b)
product-neg a b = *ℤ_comm a (neg_ℤ b) ∙ neg-product b a ∙ ap neg_ℤ (*ℤ_comm b a)

pub scale-scale : (a : ℤ) (m n : ℕ) → (a *ℤ pos m) *ℤ pos n ≡ a *ℤ pos (m * n)
scale-scale (pos a) m n = ap pos (omega arith)
scale-scale (negsuc a) m n = neg-product (pos (suc a * m)) (pos n) ∙ ap (λ (t : ℕ). neg_ℤ (pos t)) (omega arith)

pub scale-sum : (a b : ℤ) (k : ℕ) → (a +ℤ b) *ℤ pos k ≡ (a *ℤ pos k) +ℤ (b *ℤ pos k)
scale-sum a b k = omega (arith, ints, ap (λ (t : ℕ). t * k) (sum_is_lem a b))

pub scale-difference : (a b : ℤ) (k : ℕ) → (a -ℤ b) *ℤ pos k ≡ (a *ℤ pos k) -ℤ (b *ℤ pos k)
scale-difference a b k = scale-sum a (neg_ℤ b) k ∙ ap (λ (t : ℤ). (a *ℤ pos k) +ℤ t) (neg-product b (pos k))

pub product-scales : (a b : ℤ) (m n : ℕ) → (a *ℤ pos m) *ℤ (b *ℤ pos n) ≡ (a *ℤ b) *ℤ pos (m * n)
product-scales a (pos b) m n = scale-scale a m (b * n) ∙ ap (λ (t : ℕ). a *ℤ pos t) (omega arith) ∙ sym (scale-scale a b (m * n))
product-scales a (negsuc b) m n =
    product-neg (a *ℤ pos m) (pos (suc b * n))
    ∙ ap neg_ℤ (scale-scale a m (suc b * n) ∙ ap (λ (t : ℕ). a *ℤ pos t) (omega arith) ∙ sym (scale-scale a (suc b) (m * n)))
    ∙ sym (neg-product (a *ℤ pos (suc b)) (pos (m * n)))
    ∙ ap (λ (t : ℤ). t *ℤ pos (m * n)) (sym (product-neg a (pos (suc b))))

-- ---- a product of numbers between ends lies between the products of the ends

pub below_product : (z low high a c : ℤ) → low ≤ℤ a → a ≤ℤ high → z ≤ℤ (low *ℤ c) → z ≤ℤ (high *ℤ c) → z ≤ℤ (a *ℤ c)
below_product z low high a (pos c) from to p q = let h = scaled low a c from in omega (arith, ints)
below_product z low high a (negsuc c) from to p q = let h = scaled_down a high c to in omega (arith, ints)

pub above_product : (z low high a c : ℤ) → low ≤ℤ a → a ≤ℤ high → (low *ℤ c) ≤ℤ z → (high *ℤ c) ≤ℤ z → (a *ℤ c) ≤ℤ z
above_product z low high a (pos c) from to p q = let h = scaled a high c to in omega (arith, ints)
above_product z low high a (negsuc c) from to p q = let h = scaled_down low a c from in omega (arith, ints)

-- the same on both sides
pub below_products : (z l h m n a b : ℤ) → l ≤ℤ a → a ≤ℤ h → m ≤ℤ b → b ≤ℤ n
    → z ≤ℤ (l *ℤ m) → z ≤ℤ (l *ℤ n) → z ≤ℤ (h *ℤ m) → z ≤ℤ (h *ℤ n) → z ≤ℤ (a *ℤ b)
below_products z l h m n a b la ah mb bn p q r s =
    let low = rw (*ℤ_comm a m) at (below_product z l h a m la ah p r) in
    let high = rw (*ℤ_comm a n) at (below_product z l h a n la ah q s) in
    rw (*ℤ_comm a b) (below_product z m n b a mb bn low high)

pub above_products : (z l h m n a b : ℤ) → l ≤ℤ a → a ≤ℤ h → m ≤ℤ b → b ≤ℤ n
    → (l *ℤ m) ≤ℤ z → (l *ℤ n) ≤ℤ z → (h *ℤ m) ≤ℤ z → (h *ℤ n) ≤ℤ z → (a *ℤ b) ≤ℤ z
above_products z l h m n a b la ah mb bn p q r s =
    let low = rw (*ℤ_comm a m) at (above_product z l h a m la ah p r) in
    let high = rw (*ℤ_comm a n) at (above_product z l h a n la ah q s) in
    rw (*ℤ_comm a b) (above_product z m n b a mb bn low high)
