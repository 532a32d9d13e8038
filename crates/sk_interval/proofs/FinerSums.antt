-- Sums, differences and what is no operation, on a finer grid.
use Rattle.std.proofs.Common.{◌≡◌, ◌⊎◌, inl, inr, ℕ, ◌+◌, ◌*◌, ◌≤◌, ◌^◌, ℤ, pos, negsuc, neg_ℤ, ◌+ℤ◌, ◌-ℤ◌, ◌*ℤ◌, ◌≤ℤ◌, ◌<ℤ◌, unsigned_abs, Ok, Err, sym, ap, ◌∙◌, arith}
use Rattle.std.proofs.lemmas.Bool.Decides.{nat_tests}
use Rattle.std.proofs.lemmas.Int.{ints}
use Rattle.std.proofs.lemmas.Nat.{pow-add}
use Rattle.sk_interval.specs.declared.interval.Cause.TheVariants.{Range}
use Rattle.sk_interval.specs.Interval.{Interval, one}
use Rattle.sk_interval.specs.Rounding.{floor_of, ceil_of}
use Rattle.sk_interval.specs.Operations.{bounded, sum, difference, negative, whole, of_micrometres}
use Rattle.sk_interval.specs.Nesting.{IsInside, Refines}
use Rattle.sk_interval.proofs.AroundLemmas.{bounds_of_size, size_of_bounds, pos-nonzero, floor_below_ceil}
use Rattle.sk_interval.proofs.PowerLemmas.{unit-positive}
use Rattle.sk_interval.proofs.ProductLemmas.{bounded-ok}
use Rattle.sk_interval.proofs.QuotientLemmas.{scaled, unscaled_by, neg-product, floor-at_most, at_most-floor, ceil-at_least, at_least-ceil}
use Rattle.sk_interval.proofs.ScaleLemmas.{scale-sum, scale-difference, scale-scale}
use lib.Signed.{≤ℤ_refl}

pub bounded-cases : (m F : ℕ) (x : Interval) → ((unsigned_abs x.lo ≤ 2 ^ (m + F)) × (unsigned_abs x.hi ≤ 2 ^ (m + F)) × (bounded m F x ≡ Ok x)) ⊎ (bounded m F x ≡ Err Range)
bounded-cases m F x = grind (arith, nat_tests)

-- what stays within the limit on a grid does on a finer one
pub bounded-Refines : (m F k : ℕ) (x y : Interval) → IsInside k x y → Refines k (bounded m (F + k) x) (bounded m F y)
bounded-Refines m F k x y inside =
    elim (bounded-cases m F y) [
      | inl h ↦ rw h.2 (
          let power : 2 ^ (m + (F + k)) ≡ 2 ^ (m + F) * 2 ^ k = (let e : m + (F + k) ≡ m + F + k = omega arith in rw e (pow-add 2 (m + F) k)) in
          let low = scaled (neg_ℤ (pos (2 ^ (m + F)))) y.lo (2 ^ k) (bounds_of_size y.lo _ h.0).0 in
          let high = scaled y.hi (pos (2 ^ (m + F))) (2 ^ k) (bounds_of_size y.hi _ h.1).1 in
          let sign = neg-product (pos (2 ^ (m + F))) (pos (2 ^ k)) in
          let from = inside.from in
          let order = inside.ordered in
          let to = inside.to in
          (x, bounded-ok m (F + k) x (rw power (size_of_bounds x.lo _ (omega (arith, ints)) (omega (arith, ints)))) (rw power (size_of_bounds x.hi _ (omega (arith, ints)) (omega (arith, ints)))), inside))
      | inr h ↦ rw h tt
    ]

pub sum-Refines : (F k : ℕ) (x y v w : Interval) → IsInside k x v → IsInside k y w → Refines k (sum (F + k) x y) (sum F v w)
sum-Refines F k x y v w p q =
    bounded-Refines 50 F k (record { lo = x.lo +ℤ y.lo; hi = x.hi +ℤ y.hi }) (record { lo = v.lo +ℤ w.lo; hi = v.hi +ℤ w.hi }) (record {
      from = rw scale-sum (omega (arith, ints, p.from, q.from));
      ordered = omega (arith, ints, p.ordered, q.ordered);
      to = rw scale-sum (omega (arith, ints, p.to, q.to));
    })

pub difference-Refines : (F k : ℕ) (x y v w : Interval) → IsInside k x v → IsInside k y w → Refines k (difference (F + k) x y) (difference F v w)
difference-Refines F k x y v w p q =
    bounded-Refines 50 F k (record { lo = x.lo -ℤ y.hi; hi = x.hi -ℤ y.lo }) (record { lo = v.lo -ℤ w.hi; hi = v.hi -ℤ w.lo }) (record {
      from = rw scale-difference (omega (arith, ints, p.from, q.to));
      ordered = omega (arith, ints, p.ordered, q.ordered);
      to = rw scale-difference (omega (arith, ints, p.to, q.from));
    })

pub negative-IsInside : (k : ℕ) (x v : Interval) → IsInside k x v → IsInside k (negative x) (negative v)
negative-IsInside k x v p = record {
  from = rw neg-product (omega (arith, ints, p.to));
  ordered = omega (arith, ints, p.ordered);
  to = rw neg-product (omega (arith, ints, p.from));
}

-- the unit of a grid of F + k digits
pub unit_sum : (F k : ℕ) → one (F + k) ≡ one F * one k
unit_sum F k = pow-add 2 F k

pub whole-IsInside : (F k : ℕ) (n : ℤ) → IsInside k (whole (F + k) n) (whole F n)
whole-IsInside F k n =
    let e : (n *ℤ pos (one F)) *ℤ pos (2 ^ k) ≡ n *ℤ pos (one (F + k)) = scale-scale n (one F) (2 ^ k) ∙ ap (λ (t : ℕ). n *ℤ pos t) (sym (unit_sum F k)) in
    record { from = rw e (≤ℤ_refl _); ordered = ≤ℤ_refl _; to = rw e (≤ℤ_refl _) }

pub micrometres-IsInside : (F k : ℕ) (v : ℤ) → IsInside k (of_micrometres (F + k) v) (of_micrometres F v)
micrometres-IsInside F k v =
    let n : ℤ = v *ℤ pos (one F) in
    let thousand = pos-nonzero 1000 (omega arith) in
    let e : (v *ℤ pos (one F)) *ℤ pos (2 ^ k) ≡ v *ℤ pos (one (F + k)) = scale-scale v (one F) (2 ^ k) ∙ ap (λ (t : ℕ). v *ℤ pos t) (sym (unit_sum F k)) in
    let swap : (z : ℤ) → (z *ℤ pos (2 ^ k)) *ℤ pos 1000 ≡ (z *ℤ pos 1000) *ℤ pos (2 ^ k) = λ z. scale-scale z (2 ^ k) 1000 ∙ ap (λ (t : ℕ). z *ℤ pos t) (omega arith) ∙ sym (scale-scale z 1000 (2 ^ k)) in
    record {
      from = at_most-floor _ _ (pos 1000) thousand (rw (swap (floor_of (v *ℤ pos (one F)) (pos 1000)), ← e) (scaled _ _ (2 ^ k) (floor-at_most n (pos 1000) thousand)));
      ordered = floor_below_ceil _ _ 1000 (omega arith) (≤ℤ_refl _);
      to = at_least-ceil _ _ (pos 1000) thousand (rw (swap (ceil_of (v *ℤ pos (one F)) (pos 1000)), ← e) (scaled _ _ (2 ^ k) (ceil-at_least n (pos 1000) thousand)));
    }

pub ordered_coarse : (k : ℕ) (x v : Interval) → IsInside k x v → v.lo ≤ℤ v.hi
ordered_coarse k x v p = unscaled_by v.lo v.hi (2 ^ k) (unit-positive k) (omega (arith, ints, p.from, p.ordered, p.to))

pub positive_scaled : (a b : ℤ) (k : ℕ) → pos 0 <ℤ a → (a *ℤ pos (2 ^ k)) ≤ℤ b → pos 0 <ℤ b
positive_scaled a b k h le =
    let one_more = scaled (pos 1) a (2 ^ k) (omega (arith, ints)) in
    let unit = unit-positive k in
    omega (arith, ints)

pub negative_scaled : (a b : ℤ) (k : ℕ) → a <ℤ pos 0 → b ≤ℤ (a *ℤ pos (2 ^ k)) → b <ℤ pos 0
negative_scaled a b k h le =
    let one_less = scaled a (negsuc 0) (2 ^ k) (omega (arith, ints)) in
    let unit = unit-positive k in
    omega (arith, ints)
