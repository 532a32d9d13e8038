-- Products of intervals: when they pass the limit.
use Rattle.std.proofs.Common.{◌≡◌, ◌⊎◌, inl, inr, ℕ, ◌+◌, ◌*◌, ◌≤◌, ◌<◌, ◌^◌, max, ℤ, pos, neg_ℤ, ◌*ℤ◌, ◌≤ℤ◌, unsigned_abs, Ok, Err, refl, arith}
use Rattle.std.proofs.lemmas.Bool.{cases_lt}
use Rattle.std.proofs.lemmas.Bool.Decides.{nat_tests}
use Rattle.std.proofs.lemmas.Int.{ints, clamps, unsigned_abs-mul}
use Rattle.std.proofs.lemmas.Nat.{pow-add}
use Rattle.std.specs.Int.{int_min, int_max}
use Rattle.sk_interval.specs.declared.interval.Cause.TheVariants.{Range}
use Rattle.sk_interval.specs.Interval.{Interval, one}
use Rattle.sk_interval.specs.Rounding.{floor_of, ceil_of}
use Rattle.sk_interval.specs.Operations.{bounded, product, least_at, greatest_at, times}
use Rattle.sk_interval.proofs.AroundLemmas.{pos-nonzero, bounds_of_size}
use Rattle.sk_interval.proofs.QuotientLemmas.{floor-at_most, ceil-at_least, scaled, neg-product}
use Rattle.sk_interval.proofs.PowerLemmas.{power_below}

pub bounded-ok : (k F : ℕ) (x : Interval) → unsigned_abs x.lo ≤ 2 ^ (k + F) → unsigned_abs x.hi ≤ 2 ^ (k + F) → bounded k F x ≡ Ok x
bounded-ok k F x low high = grind (arith, nat_tests)

pub bounded-range : (k F : ℕ) (x : Interval) → (unsigned_abs x.lo ≤ 2 ^ (k + F) → unsigned_abs x.hi ≤ 2 ^ (k + F) → ⊥) → bounded k F x ≡ Err Range
bounded-range k F x beyond = grind (arith, nat_tests)

max_is_one : (m n : ℕ) → (max m n ≡ m) ⊎ (max m n ≡ n)
max_is_one m n = elim (cases_lt m n) [ inl h ↦ inr (omega arith) | inr h ↦ inl (omega arith) ]

-- the product of the greater sizes is within a limit that every product is within
pub size_of_products : (a b c d : ℤ) (limit : ℕ) → unsigned_abs (a *ℤ c) ≤ limit → unsigned_abs (a *ℤ d) ≤ limit → unsigned_abs (b *ℤ c) ≤ limit → unsigned_abs (b *ℤ d) ≤ limit
    → max (unsigned_abs a) (unsigned_abs b) * max (unsigned_abs c) (unsigned_abs d) ≤ limit
size_of_products a b c d limit ac ad bc bd =
    elim (max_is_one (unsigned_abs a) (unsigned_abs b)) [
      | inl p ↦ elim (max_is_one (unsigned_abs c) (unsigned_abs d)) [
        | inl q ↦ rw (p, q) (rw unsigned_abs-mul at ac)
        | inr q ↦ rw (p, q) (rw unsigned_abs-mul at ad)
      ]
      | inr p ↦ elim (max_is_one (unsigned_abs c) (unsigned_abs d)) [
        | inl q ↦ rw (p, q) (rw unsigned_abs-mul at bc)
        | inr q ↦ rw (p, q) (rw unsigned_abs-mul at bd)
      ]
    ]

-- a number between others that a limit bounds
between_bounds : (p q r s : ℤ) (limit : ℕ) → neg_ℤ (pos limit) ≤ℤ int_min (int_min p q) (int_min r s) → int_max (int_max p q) (int_max r s) ≤ℤ pos limit
    → (unsigned_abs p ≤ limit) × (unsigned_abs q ≤ limit) × (unsigned_abs r ≤ limit) × (unsigned_abs s ≤ limit)
between_bounds p q r s limit low high = (omega (arith, ints, clamps), omega (arith, ints, clamps), omega (arith, ints, clamps), omega (arith, ints, clamps))

-- quotients within a limit are those of numbers within its multiple
pub floor_limit : (n : ℤ) (d limit : ℕ) → 0 < d → unsigned_abs (floor_of n (pos d)) ≤ limit → neg_ℤ (pos (limit * d)) ≤ℤ n
floor_limit n d limit h small =
    let at_most = floor-at_most n (pos d) (pos-nonzero d h) in
    let low = scaled (neg_ℤ (pos limit)) (floor_of n (pos d)) d (bounds_of_size _ limit small).0 in
    let sign = neg-product (pos limit) (pos d) in
    omega (arith, ints)

pub ceil_limit : (n : ℤ) (d limit : ℕ) → 0 < d → unsigned_abs (ceil_of n (pos d)) ≤ limit → n ≤ℤ pos (limit * d)
ceil_limit n d limit h small =
    let at_least = ceil-at_least n (pos d) (pos-nonzero d h) in
    let high = scaled (ceil_of n (pos d)) (pos limit) d (bounds_of_size _ limit small).1 in
    omega (arith, ints)

-- 2 ^ (50 + 2 F) as the limit times the unit
pub limit_times_unit : (F : ℕ) → 2 ^ (50 + 2 * F) ≡ 2 ^ (50 + F) * 2 ^ F
limit_times_unit F = let sum : 50 + 2 * F ≡ 50 + F + F = omega arith in rw sum (pow-add 2 (50 + F) F)

-- intervals whose greater sizes pass the limit have no product on the grid
pub product-range : (F : ℕ) (x y : Interval) → 2 ^ (50 + 2 * F) < max (unsigned_abs x.lo) (unsigned_abs x.hi) * max (unsigned_abs y.lo) (unsigned_abs y.hi) → product F x y ≡ Err Range
unfolding product
product-range F x y beyond =
    bounded-range 50 F (record { lo = floor_of (least_at times x y) (pos (2 ^ F)); hi = ceil_of (greatest_at times x y) (pos (2 ^ F)) }) (λ low high.
    let positive : 0 < 2 ^ F = power_below 0 F (omega arith) in
    let from = floor_limit (least_at times x y) (2 ^ F) (2 ^ (50 + F)) positive low in
    let to = ceil_limit (greatest_at times x y) (2 ^ F) (2 ^ (50 + F)) positive high in
    let all = between_bounds (x.lo *ℤ y.lo) (x.lo *ℤ y.hi) (x.hi *ℤ y.lo) (x.hi *ℤ y.hi) _ from to in
    let small = size_of_products x.lo x.hi y.lo y.hi _ all.0 all.1 all.2 all.3 in
    omega (arith, limit_times_unit F))

pub product-quotients : (F : ℕ) (x y : Interval) → bounded 50 F (record { lo = floor_of (least_at times x y) (pos (one F)); hi = ceil_of (greatest_at times x y) (pos (one F)) }) ≡ product F x y
unfolding product
product-quotients F x y = refl

pub not_within : (m n : ℕ) → ¬ (m ≤ n) → n < m
not_within m n h = omega arith
