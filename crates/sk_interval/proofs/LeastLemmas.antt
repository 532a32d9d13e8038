-- Each operation gives the least interval around the exact results.
use Rattle.std.proofs.Common.{◌≡◌, inl, inr, ℕ, ◌*◌, ◌≤◌, ℤ, pos, negsuc, ◌+ℤ◌, ◌-ℤ◌, ◌*ℤ◌, ◌≤ℤ◌, unsigned_abs, false, refl, sym, arith}
use Rattle.std.specs.Prelude.{IfOk}
use Rattle.std.proofs.lemmas.Int.{ints}
use Rattle.std.proofs.lemmas.Nat.{mul-le}
use native.Mathlib.Nat.{le_refl}
use lib.Signed.{≤ℤ_refl}
use Rattle.sk_root.specs.Roots.{floor_root, ceil_root}
use Rattle.sk_root.proofs.RootLemmas.{root_below, floor_root-bounds, ceil_root-least}
use Rattle.sk_interval.specs.Interval.{Interval, one}
use Rattle.sk_interval.specs.Rounding.{floor_of, ceil_of}
use Rattle.sk_interval.specs.Around.{IsLeastAround, GivesLeast, BelowLength, AboveLength, BelowSums, AboveSums, BelowDifferences, AboveDifferences, BelowProducts, AboveProducts, BelowQuotients, AboveQuotients, BelowRoots, AboveRoots, IsAtMostRoot, IsAtLeastRoot}
use Rattle.sk_interval.specs.Operations.{of_micrometres, times, sum, difference, product, quotient, root, holds_zero, least_at, greatest_at}
use Rattle.sk_interval.proofs.AroundLemmas.{pos-nonzero}
use Rattle.sk_interval.proofs.QuotientLemmas.{floor-at_most, at_most-floor, ceil-at_least, at_least-ceil, under_floor, over_ceil}
use Rattle.sk_interval.proofs.RatioLemmas.{ends_nonzero, quotient-bounded, root_cases}
use Rattle.sk_interval.proofs.CornerLemmas.{below_least, least_below, above_greatest, greatest_above}
use Rattle.sk_interval.proofs.PowerLemmas.{unit-positive}

pub of_micrometres-least : (F : ℕ) (v : ℤ) → IsLeastAround (BelowLength F v) (AboveLength F v) (of_micrometres F v)
of_micrometres-least F v =
    let n : ℤ = v *ℤ pos (one F) in
    let thousand = pos-nonzero 1000 (omega arith) in
    record {
      below = floor-at_most n (pos 1000) thousand;
      above = ceil-at_least n (pos 1000) thousand;
      greatest = λ z h. at_most-floor z n (pos 1000) thousand h;
      least = λ z h. at_least-ceil z n (pos 1000) thousand h;
    }

pub sum-least : (F : ℕ) (x y : Interval) → x.lo ≤ℤ x.hi → y.lo ≤ℤ y.hi → GivesLeast F (BelowSums x y) (AboveSums x y) (sum F x y)
sum-least F x y p q = record {
  around = record { lo = x.lo +ℤ y.lo; hi = x.hi +ℤ y.hi };
  least = record {
    below = (omega (arith, ints), omega (arith, ints), omega (arith, ints), omega (arith, ints));
    above = (omega (arith, ints), omega (arith, ints), omega (arith, ints), omega (arith, ints));
    greatest = λ z h. h.0;
    least = λ z h. h.3;
  };
  answered = refl;
}

pub difference-least : (F : ℕ) (x y : Interval) → x.lo ≤ℤ x.hi → y.lo ≤ℤ y.hi → GivesLeast F (BelowDifferences x y) (AboveDifferences x y) (difference F x y)
difference-least F x y p q = record {
  around = record { lo = x.lo -ℤ y.hi; hi = x.hi -ℤ y.lo };
  least = record {
    below = (omega (arith, ints), omega (arith, ints), omega (arith, ints), omega (arith, ints));
    above = (omega (arith, ints), omega (arith, ints), omega (arith, ints), omega (arith, ints));
    greatest = λ z h. h.1;
    least = λ z h. h.2;
  };
  answered = refl;
}

pub product-least : (F : ℕ) (x y : Interval) → GivesLeast F (BelowProducts F x y) (AboveProducts F x y) (product F x y)
unfolding product
product-least F x y =
    let d : ℤ = pos (one F) in
    let nonzero = pos-nonzero (one F) (unit-positive F) in
    let low : ℤ = least_at times x y in
    let high : ℤ = greatest_at times x y in
    let lows = least_below low (x.lo *ℤ y.lo) (x.lo *ℤ y.hi) (x.hi *ℤ y.lo) (x.hi *ℤ y.hi) (≤ℤ_refl low) in
    let highs = greatest_above high (x.lo *ℤ y.lo) (x.lo *ℤ y.hi) (x.hi *ℤ y.lo) (x.hi *ℤ y.hi) (≤ℤ_refl high) in
    let under = floor-at_most low d nonzero in
    let over = ceil-at_least high d nonzero in
    record {
      around = record { lo = floor_of low d; hi = ceil_of high d };
      least = record {
        below = (omega (arith, ints, under, lows.0), omega (arith, ints, under, lows.1), omega (arith, ints, under, lows.2), omega (arith, ints, under, lows.3));
        above = (omega (arith, ints, over, highs.0), omega (arith, ints, over, highs.1), omega (arith, ints, over, highs.2), omega (arith, ints, over, highs.3));
        greatest = λ z h. at_most-floor z low d nonzero (below_least (z *ℤ d) (x.lo *ℤ y.lo) (x.lo *ℤ y.hi) (x.hi *ℤ y.lo) (x.hi *ℤ y.hi) h.0 h.1 h.2 h.3);
        least = λ z h. at_least-ceil z high d nonzero (above_greatest (z *ℤ d) (x.lo *ℤ y.lo) (x.lo *ℤ y.hi) (x.hi *ℤ y.lo) (x.hi *ℤ y.hi) h.0 h.1 h.2 h.3);
      };
      answered = refl;
    }

pub quotient-least : (F : ℕ) (x y : Interval) → y.lo ≤ℤ y.hi → holds_zero y ≡ false → GivesLeast F (BelowQuotients F x y) (AboveQuotients F x y) (quotient F x y)
quotient-least F x y ordered zero_out =
    let nonzero = ends_nonzero y ordered zero_out in
    let lo : ℤ = x.lo *ℤ pos (one F) in
    let hi : ℤ = x.hi *ℤ pos (one F) in
    let low : ℤ = least_at (λ a b. floor_of (a *ℤ pos (one F)) b) x y in
    let high : ℤ = greatest_at (λ a b. ceil_of (a *ℤ pos (one F)) b) x y in
    let lows = least_below low (floor_of lo y.lo) (floor_of lo y.hi) (floor_of hi y.lo) (floor_of hi y.hi) (≤ℤ_refl low) in
    let highs = greatest_above high (ceil_of lo y.lo) (ceil_of lo y.hi) (ceil_of hi y.lo) (ceil_of hi y.hi) (≤ℤ_refl high) in
    record {
      around = record { lo = low; hi = high };
      least = record {
        below = (under_floor low lo y.lo nonzero.0 lows.0, under_floor low lo y.hi nonzero.1 lows.1, under_floor low hi y.lo nonzero.0 lows.2, under_floor low hi y.hi nonzero.1 lows.3);
        above = (over_ceil high lo y.lo nonzero.0 highs.0, over_ceil high lo y.hi nonzero.1 highs.1, over_ceil high hi y.lo nonzero.0 highs.2, over_ceil high hi y.hi nonzero.1 highs.3);
        greatest = λ z h. below_least z (floor_of lo y.lo) (floor_of lo y.hi) (floor_of hi y.lo) (floor_of hi y.hi)
            (at_most-floor z lo y.lo nonzero.0 h.0) (at_most-floor z lo y.hi nonzero.1 h.1) (at_most-floor z hi y.lo nonzero.0 h.2) (at_most-floor z hi y.hi nonzero.1 h.3);
        least = λ z h. above_greatest z (ceil_of lo y.lo) (ceil_of lo y.hi) (ceil_of hi y.lo) (ceil_of hi y.hi)
            (at_least-ceil z lo y.lo nonzero.0 h.0) (at_least-ceil z lo y.hi nonzero.1 h.1) (at_least-ceil z hi y.lo nonzero.0 h.2) (at_least-ceil z hi y.hi nonzero.1 h.3);
      };
      answered = sym (quotient-bounded F x y zero_out);
    }

below_root : (z : ℤ) (n : ℕ) → IsAtMostRoot z n → z ≤ℤ pos (floor_root n)
below_root (pos r) n h = let root = root_below r (floor_root n) n h (floor_root-bounds n).1 in omega (arith, ints)
below_root (negsuc r) n h = omega (arith, ints)

above_root : (z : ℤ) (n : ℕ) → IsAtLeastRoot z n → pos (ceil_root n) ≤ℤ z
above_root (pos r) n h = let root = (ceil_root-least n).1 r h in omega (arith, ints)
above_root (negsuc r) n h = absurd h

pub root-least : (F : ℕ) (x : Interval) → x.lo ≤ℤ x.hi → IfOk (root F x) (IsLeastAround (BelowRoots F x) (AboveRoots F x))
root-least F x ordered =
    elim (root_cases F x) [
      | inl real ↦ rw real.1 (
          let m : ℕ = unsigned_abs x.lo * one F in
          let n : ℕ = unsigned_abs x.hi * one F in
          let up = real.0 in
          let order : m ≤ n = mul-le (unsigned_abs x.lo) (one F) (unsigned_abs x.hi) (one F) (omega (arith, ints)) (le_refl _) in
          let low = (floor_root-bounds m).0 in
          let high = (ceil_root-least n).0 in
          record {
            below = (low, omega (arith, order, low));
            above = (omega (arith, order, high), high);
            greatest = λ z h. below_root z m h.0;
            least = λ z h. above_root z n h.1;
          })
      | inr unreal ↦ elim unreal [ inl gap ↦ rw gap.1 tt | inr flat ↦ rw flat tt ]
    ]
