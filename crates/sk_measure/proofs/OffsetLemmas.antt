-- The least number of units, by the quotient rounded up.
use Rattle.std.proofs.Common.{◌≡◌, ℕ, zero, suc, ◌+◌, ◌*◌, ◌≤◌, ◌<◌, ◌/◌, ◌%◌, ◌^◌, inl, inr, arith}
use Rattle.std.specs.Int.{div_ceil}
use Rattle.std.specs.Prelude.{min}
use Rattle.std.proofs.lemmas.Nat.{mul-le}
use Rattle.std.proofs.lemmas.Bool.{cases_lt}
use Rattle.sk_measure.specs.Least.{IsLeast}
use Rattle.sk_measure.specs.Holding.{IsOffset}

rounded_up : (q r d : ℕ) → r < suc d → (q * suc d + r ≤ (q + min 1 r) * suc d) × ((q + min 1 r) * suc d ≤ q * suc d + r + d)
rounded_up q zero d h = (let none : min 1 zero ≡ 0 = omega arith in (rw none (omega arith), rw none (omega arith)))
rounded_up q (suc r) d h = (let one : min 1 (suc r) ≡ 1 = omega arith in (rw one (omega arith), rw one (omega arith)))

ceil_bounds : (offset d : ℕ) → (offset ≤ div_ceil offset (suc d) * suc d) × (div_ceil offset (suc d) * suc d ≤ offset + d)
ceil_bounds offset d =
    let parts = rounded_up (offset / suc d) (offset % suc d) d (omega arith) in
    (omega (arith, parts), omega (arith, parts))

pub least_offset : (unit offset : ℕ) → 0 < unit → IsLeast (IsOffset unit offset) (div_ceil offset unit)
least_offset zero offset some = absurd (omega arith)
least_offset (suc d) offset some = record {
  holds = (ceil_bounds offset d).0;
  least = λ m h. elim (cases_lt m (div_ceil offset (suc d))) [
    | inr le ↦ le
    | inl lt ↦ absurd (
        let bounds = ceil_bounds offset d in
        let more = mul-le (m + 1) (suc d) (div_ceil offset (suc d)) (suc d) (omega arith) (omega arith) in
        omega (arith, bounds, more))
  ];
}

pub few_units : (unit offset : ℕ) → 0 < unit → offset ≤ 2 ^ 63 * unit → div_ceil offset unit < 2 ^ 64
few_units unit offset some within = (let least = (least_offset unit offset some).least (2 ^ 63) within in omega (arith, least))
