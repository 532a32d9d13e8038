-- The highest binary digit of a number, and vectors by a power of two.
use Rattle.std.proofs.Common.{◌≡◌, inl, inr, ℕ, ◌-◌, ◌*◌, ◌/◌, ◌^◌, ◌<◌, ◌≤◌, ℤ, pos, negsuc, ◌*ℤ◌, max, unsigned_abs, ◌∙◌, ap, arith}
use Rattle.std.proofs.lemmas.Bool.{cases_lt}
use Rattle.std.proofs.lemmas.Int.{ints, unsigned_abs-mul}
use Rattle.std.proofs.lemmas.Nat.{leading_top, le-div}
use Rattle.std.proofs.Math.Nat.{div-lt_iff_lt-mul}
use Rattle.std.specs.Int.Count.{count_leading_zeros}
use Rattle.sk_base.proofs.Magnitudes.{within_of_abs}
use Rattle.sk_orient.specs.declared.Vector.{Vector}
use Rattle.sk_orient.specs.Vectors.{IsShort}
use Rattle.sk_interval.proofs.PowerLemmas.{power_below}
use Rattle.sk_frame.specs.Turns.{toward_zero, scaled_part}
use Rattle.sk_frame.specs.TurnBounds.{IsSomewhere, IsTurn}

pub record IsHighest (m : ℕ) (digit : ℕ) : Type 0 where
  pub below : 2 ^ digit ≤ m
  pub above : m < 2 * 2 ^ digit
  pub few : digit ≤ 62

low_digit : (j m : ℕ) → 2 ^ j ≤ m → m ≤ 8000000000000000000 → j ≤ 62
low_digit j m top small = elim (cases_lt 62 j) [
  | inl high ↦ absurd (omega (arith, power_below 63 j (omega arith)))
  | inr low ↦ low
]

pub highest : (m : ℕ) → 0 < m → m ≤ 8000000000000000000 → IsHighest m (127 - count_leading_zeros 128 m)
highest m positive small =
    let top = leading_top 128 m positive (omega arith) in
    let digit : 127 - count_leading_zeros 128 m ≡ top.0 = omega (arith, top.1) in
    rw digit (record { below = top.2; above = omega (arith, top.3); few = low_digit top.0 m top.2 small })

-- rounding towards zero takes the quotient of the size
toward_zero-size : (d : ℕ) (n : ℤ) → unsigned_abs (toward_zero d n) ≡ unsigned_abs n / d
toward_zero-size d (pos n) = grind (arith, ints)
toward_zero-size d (negsuc n) = grind (arith, ints)

part-size : (digit : ℕ) (n : ℤ) → unsigned_abs (scaled_part digit n) ≡ unsigned_abs n * 2 ^ 30 / 2 ^ digit
part-size digit n = toward_zero-size (2 ^ digit) (n *ℤ pos (2 ^ 30)) ∙ ap (λ (s : ℕ). s / 2 ^ digit) (unsigned_abs-mul n (pos (2 ^ 30)))

power_positive : (digit : ℕ) → 0 < 2 ^ digit
power_positive digit = power_below 0 digit (omega arith)

part_small : (digit n : ℕ) → n < 2 * 2 ^ digit → n * 2 ^ 30 / 2 ^ digit ≤ 2147483647
part_small digit n below =
    let less : n * 2 ^ 30 / 2 ^ digit < 2147483648 = (div-lt_iff_lt-mul {k = 2 ^ digit} {x = n * 2 ^ 30} {y = 2147483648} (power_positive digit)).1 (omega arith) in
    omega arith

part_great : (digit n : ℕ) → 2 ^ digit ≤ n → 2 ^ 30 ≤ n * 2 ^ 30 / 2 ^ digit
part_great digit n below = le-div (2 ^ 30) (n * 2 ^ 30) (2 ^ digit) (power_positive digit) (omega arith)

pub scaled_turns : (v : Vector) (digit : ℕ) → IsHighest (max (unsigned_abs v.x) (unsigned_abs v.y)) digit → IsTurn (record { x = scaled_part digit v.x; y = scaled_part digit v.y })
scaled_turns v digit is =
    let a : ℕ = unsigned_abs v.x in
    let b : ℕ = unsigned_abs v.y in
    let low = is.below in
    let high = is.above in
    let x_small = part_small digit a (omega arith) in
    let y_small = part_small digit b (omega arith) in
    record {
      short = (within_of_abs 2147483647 (scaled_part digit v.x) (rw (part-size digit v.x) x_small), within_of_abs 2147483647 (scaled_part digit v.y) (rw (part-size digit v.y) y_small));
      turns = rw (part-size digit v.x, part-size digit v.y) (elim (cases_lt a b) [
        | inl less ↦ (let great = part_great digit b (omega arith) in omega arith)
        | inr less ↦ (let great = part_great digit a (omega arith) in omega arith)
      ]);
    }

-- the greater of two sizes isn't 0 where one of the numbers isn't
pub greater_some : (v : Vector) → IsSomewhere v → 0 < max (unsigned_abs v.x) (unsigned_abs v.y)
greater_some v somewhere = elim (cases_lt 0 (max (unsigned_abs v.x) (unsigned_abs v.y))) [
  | inl some ↦ some
  | inr none ↦ absurd (somewhere (omega (arith, ints), omega (arith, ints)))
]

pub greater_few : (most : ℕ) (v : Vector) → IsShort most v → max (unsigned_abs v.x) (unsigned_abs v.y) ≤ most
greater_few most v short = omega (arith, ints, short.0.0, short.0.1, short.1.0, short.1.1)
