-- What a rounded quotient is.
use Rattle.std.proofs.Common.{◌≡◌, ◌<◌, ◌≤◌, ℕ, zero, suc, ◌+◌, ◌*◌, ◌/◌, false, ℤ, pos, negsuc, neg_ℤ, ◌*ℤ◌, refl, sym, subst, arith}
use Rattle.std.specs.Prelude.{int_lt}
use Rattle.std.proofs.lemmas.Int.{ints}
use Rattle.std.proofs.Math.IntN.{negsuc-*ℤ-pos}
use Rattle.std.proofs.Math.Nat.{div-lt_iff_lt-mul, lt-mul-div-succ, mul-div-le}
use Rattle.sk_base.specs.Nearest.{nearest_size, nearest, IsNearest}

-- the rounded quotient lies within half a divisor on both sides
pub record IsRounded (d m q : ℕ) : Type 0 where
  pub below : 2 * m < 2 * (d * q) + d
  pub above : 2 * (d * q) ≤ 2 * m + d

pub is_rounded : (d m : ℕ) → 0 < d → IsRounded d m (nearest_size d m)
is_rounded d m some =
    let up = lt-mul-div-succ (m + d / 2) {b = d} some in
    let down = mul-div-le (m + d / 2) d in
    record { below = omega (arith, up); above = omega (arith, down) }

from_sizes : (d n q : ℕ) → IsRounded d n q → IsNearest d (pos n) (pos q)
from_sizes d n q is = record { near = omega (arith, ints, is.below, is.above); away = omega (arith, is.below) }

from_sizes_down : (d n q : ℕ) → IsRounded d (suc n) q → IsNearest d (negsuc n) (neg_ℤ (pos q))
from_sizes_down d n zero is = record { near = omega (arith, ints, is.below, is.above); away = omega (arith, ints, is.below) }
from_sizes_down d n (suc k) is =
    let product : negsuc k *ℤ pos d ≡ neg_ℤ (pos (suc k * d)) = negsuc-*ℤ-pos k d in
    record { near = rw product (omega (arith, ints, is.below, is.above)); away = omega (arith, ints, is.below) }

pub nearest_is_nearest : (d : ℕ) → 0 < d → (n : ℤ) → IsNearest d n (nearest d n)
nearest_is_nearest d some (pos n) =
    let test : int_lt (pos n) (pos 0) ≡ false = grind (arith, ints) in
    let is : nearest d (pos n) ≡ pos (nearest_size d n) = rw test refl in
    subst (λ r. IsNearest d (pos n) r) (sym is) (from_sizes d n (nearest_size d n) (is_rounded d n some))
nearest_is_nearest d some (negsuc n) = from_sizes_down d n (nearest_size d (suc n)) (is_rounded d (suc n) some)

-- a limit that is whole is kept
pub size_within : (d m most : ℕ) → 0 < d → m ≤ d * most → nearest_size d m ≤ most
size_within d m most some below =
    let less : m + d / 2 < (most + 1) * d = omega (arith, below) in
    let quotient : (m + d / 2) / d < most + 1 = (div-lt_iff_lt-mul {k = d} {x = m + d / 2} {y = most + 1} some).1 less in
    omega arith
