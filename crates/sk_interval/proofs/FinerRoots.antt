-- Roots on a finer grid.
use Rattle.std.proofs.Common.{◌≡◌, inl, inr, ℕ, ◌+◌, ◌*◌, ◌≤◌, ◌^◌, ℤ, pos, negsuc, ◌*ℤ◌, ◌≤ℤ◌, ◌<ℤ◌, unsigned_abs, sym, arith}
use Rattle.std.proofs.lemmas.Int.{ints}
use Rattle.std.proofs.lemmas.Nat.{mul-le}
use Rattle.sk_interval.specs.Interval.{Interval, one}
use Rattle.sk_interval.specs.Operations.{root}
use Rattle.sk_interval.specs.Nesting.{IsInside, Refines}
use Rattle.sk_root.specs.Roots.{floor_root, ceil_root}
use Rattle.sk_root.proofs.RootLemmas.{root_below, floor_root-bounds, ceil_root-least}
use Rattle.sk_interval.proofs.RatioLemmas.{root-real, root-gap, root_cases}
use Rattle.sk_interval.proofs.SquareLemmas.{floor_root_below_ceil_root}
use Rattle.sk_interval.proofs.FinerSums.{unit_sum, ordered_coarse, positive_scaled, negative_scaled}
use native.Mathlib.Nat.{le_refl}

-- the size of a number above 0 that another bounds, scaled
size_from : (a b : ℤ) (K : ℕ) → pos 0 <ℤ a → (a *ℤ pos K) ≤ℤ b → unsigned_abs a * K ≤ unsigned_abs b
size_from (pos a) b K h le = omega (arith, ints)
size_from (negsuc a) b K h le = absurd (omega (arith, ints))

size_to : (a b : ℤ) (K : ℕ) → pos 0 <ℤ a → pos 0 <ℤ b → b ≤ℤ (a *ℤ pos K) → unsigned_abs b ≤ unsigned_abs a * K
size_to (pos a) b K h up le = omega (arith, ints)
size_to (negsuc a) b K h up le = absurd (omega (arith, ints))

-- n / 2 ^ F under a root, on both grids
radicand_scaled : (m n D K : ℕ) → m * K ≤ n → m * D * (K * K) ≤ n * (D * K)
radicand_scaled m n D K h = let e : m * D * (K * K) ≡ m * K * (D * K) = omega arith in rw e (mul-le (m * K) (D * K) n (D * K) h (le_refl _))

radicand_within : (m n D K : ℕ) → n ≤ m * K → n * (D * K) ≤ m * D * (K * K)
radicand_within m n D K h = let e : m * D * (K * K) ≡ m * K * (D * K) = omega arith in rw e (mul-le n (D * K) (m * K) (D * K) h (le_refl _))

floor_root_scaled : (m n D K : ℕ) → m * K ≤ n → floor_root (m * D) * K ≤ floor_root (n * (D * K))
floor_root_scaled m n D K h =
    let coarse = floor_root-bounds (m * D) in
    let square : floor_root (m * D) * K * (floor_root (m * D) * K) ≡ floor_root (m * D) * floor_root (m * D) * (K * K) = omega arith in
    let below = mul-le (floor_root (m * D) * floor_root (m * D)) (K * K) (m * D) (K * K) coarse.0 (le_refl _) in
    let more = radicand_scaled m n D K h in
    root_below (floor_root (m * D) * K) (floor_root (n * (D * K))) (n * (D * K)) (rw square (omega arith)) (floor_root-bounds (n * (D * K))).1

ceil_root_scaled : (m n D K : ℕ) → n ≤ m * K → ceil_root (n * (D * K)) ≤ ceil_root (m * D) * K
ceil_root_scaled m n D K h =
    let coarse = ceil_root-least (m * D) in
    let square : ceil_root (m * D) * K * (ceil_root (m * D) * K) ≡ ceil_root (m * D) * ceil_root (m * D) * (K * K) = omega arith in
    let above = mul-le (m * D) (K * K) (ceil_root (m * D) * ceil_root (m * D)) (K * K) coarse.0 (le_refl _) in
    let less = radicand_within m n D K h in
    (ceil_root-least (n * (D * K))).1 (ceil_root (m * D) * K) (rw square (omega arith))

roots_inside : (F k : ℕ) (x v : Interval) → IsInside k x v → pos 0 <ℤ v.lo
    → IsInside k (record { lo = pos (floor_root (unsigned_abs x.lo * one (F + k))); hi = pos (ceil_root (unsigned_abs x.hi * one (F + k))) })
    (record { lo = pos (floor_root (unsigned_abs v.lo * one F)); hi = pos (ceil_root (unsigned_abs v.hi * one F)) })
roots_inside F k x v p up =
    let fine_up = positive_scaled v.lo x.lo k up p.from in
    let high_up : pos 0 <ℤ x.hi = omega (arith, ints, p.ordered) in
    let coarse = ordered_coarse k x v p in
    let top_up : pos 0 <ℤ v.hi = omega (arith, ints) in
    let low = floor_root_scaled (unsigned_abs v.lo) (unsigned_abs x.lo) (one F) (2 ^ k) (size_from v.lo x.lo (2 ^ k) up p.from) in
    let high = ceil_root_scaled (unsigned_abs v.hi) (unsigned_abs x.hi) (one F) (2 ^ k) (size_to v.hi x.hi (2 ^ k) top_up high_up p.to) in
    let order : unsigned_abs x.lo ≤ unsigned_abs x.hi = omega (arith, ints, p.ordered) in
    record {
      from = rw (unit_sum F k) (omega (arith, ints));
      ordered = (let middle = floor_root_below_ceil_root (unsigned_abs x.lo * one (F + k)) (unsigned_abs x.hi * one (F + k)) (mul-le (unsigned_abs x.lo) (one (F + k)) (unsigned_abs x.hi) (one (F + k)) order (le_refl _)) in omega (arith, ints));
      to = rw (unit_sum F k) (omega (arith, ints));
    }

pub root-Refines : (F k : ℕ) (x v : Interval) → IsInside k x v → Refines k (root (F + k) x) (root F v)
root-Refines F k x v p =
    elim (root_cases F v) [
      | inl real ↦ rw real.1 (
        record { lo = pos (floor_root (unsigned_abs x.lo * one (F + k))); hi = pos (ceil_root (unsigned_abs x.hi * one (F + k))) },
        sym (root-real (F + k) x (positive_scaled v.lo x.lo k real.0 p.from)),
        roots_inside F k x v p real.0,
      )
      | inr unreal ↦ elim unreal [
        | inl gap ↦ (let high = negative_scaled v.hi x.hi k gap.0 p.to in
            rw gap.1 (x.lo, x.hi, sym (root-gap (F + k) x (omega (arith, ints, p.ordered)) high)))
        | inr flat ↦ rw flat tt
      ]
    ]
