-- Roots to the nearest whole number.
use Rattle.std.proofs.Common.{◌≡◌, ℕ, ◌+◌, ◌*◌, ◌-◌, ◌/◌, ◌%◌, ◌<◌, ◌≤◌, inl, inr, arith}
use Rattle.std.proofs.lemmas.Bool.{cases_lt}
use Rattle.std.proofs.lemmas.Nat.{mul-le}
use Rattle.sk_drawn.specs.DrawnValues.{IsNearestRoot}

-- half of a number, rounded up
half_up : (m : ℕ) → (2 * (m / 2 + m % 2) - 1 ≤ m) × (m ≤ 2 * (m / 2 + m % 2))
half_up m = (omega arith, omega arith)

low_side : (n d m r : ℕ) → 1 ≤ d → m * m ≤ 4 * n / d → 2 * r - 1 ≤ m → (2 * r - 1) * (2 * r - 1) * d ≤ 4 * n
low_side n d m r some square half =
    let small = mul-le (2 * r - 1) (2 * r - 1) m m half half in
    let whole : (4 * n / d) * d ≤ 4 * n = omega arith in
    let both : (2 * r - 1) * (2 * r - 1) ≤ 4 * n / d = omega arith in
    let times = mul-le ((2 * r - 1) * (2 * r - 1)) d (4 * n / d) d both (omega arith) in
    omega arith

high_side : (n d m r : ℕ) → 1 ≤ d → 4 * n / d < (m + 1) * (m + 1) → m ≤ 2 * r → 4 * n < (2 * r + 1) * (2 * r + 1) * d
high_side n d m r some next half =
    let more : m + 1 ≤ 2 * r + 1 = omega arith in
    let small = mul-le (m + 1) (m + 1) (2 * r + 1) (2 * r + 1) more more in
    let both : 4 * n / d + 1 ≤ (2 * r + 1) * (2 * r + 1) = omega arith in
    let times = mul-le (4 * n / d + 1) d ((2 * r + 1) * (2 * r + 1)) d both (omega arith) in
    let whole : 4 * n < (4 * n / d + 1) * d = omega arith in
    omega arith

pub root_is_nearest : (n d m r : ℕ) → 1 ≤ d → m * m ≤ 4 * n / d → ((s : ℕ) → s * s ≤ 4 * n / d → s ≤ m) → r ≡ m / 2 + m % 2 → IsNearestRoot (record { over = n; under = d }) r
root_is_nearest n d m r some square greatest is =
    let half = half_up m in
    let next : 4 * n / d < (m + 1) * (m + 1) = elim (cases_lt (4 * n / d) ((m + 1) * (m + 1))) [ inl less ↦ less | inr not ↦ (let never = greatest (m + 1) (omega (arith, not)) in omega (arith, never)) ] in
    record {
      low = low_side n d m r some square (omega (arith, half.0, is));
      high = high_side n d m r some next (omega (arith, half.1, is));
    }
