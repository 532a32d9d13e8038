-- Products on a finer grid.
use Rattle.std.proofs.Common.{◌≡◌, ℕ, ◌+◌, ◌*◌, ◌^◌, ℤ, pos, ◌*ℤ◌, ◌≤ℤ◌, sym, ap, ◌∙◌, arith}
use Rattle.std.proofs.lemmas.Int.{ints}
use Rattle.sk_interval.specs.Interval.{Interval, one}
use Rattle.sk_interval.specs.Rounding.{floor_of, ceil_of}
use Rattle.sk_interval.specs.Operations.{times, product, least_at, greatest_at}
use Rattle.sk_interval.specs.Nesting.{IsInside, Refines}
use Rattle.sk_interval.proofs.AroundLemmas.{pos-nonzero, floor_below_ceil}
use Rattle.sk_interval.proofs.PowerLemmas.{unit-positive}
use Rattle.sk_interval.proofs.QuotientLemmas.{scaled, floor-at_most, at_most-floor, ceil-at_least, at_least-ceil}
use Rattle.sk_interval.proofs.ScaleLemmas.{scale-scale, product-scales, below_products, above_products}
use Rattle.sk_interval.proofs.CornerLemmas.{least_below_greatest, below_least, least_below, above_greatest, greatest_above}
use Rattle.sk_interval.proofs.FinerSums.{bounded-Refines, unit_sum}

pub rescaled : (z : ℤ) (D K : ℕ) → (z *ℤ pos K) *ℤ pos (D * K) ≡ (z *ℤ pos D) *ℤ pos (K * K)
rescaled z D K = scale-scale z K (D * K) ∙ ap (λ (t : ℕ). z *ℤ pos t) (omega arith) ∙ sym (scale-scale z D (K * K))

corner_above : (z p q : ℤ) (D K : ℕ) → (z *ℤ pos D) ≤ℤ (p *ℤ q) → ((z *ℤ pos K) *ℤ pos (D * K)) ≤ℤ ((p *ℤ pos K) *ℤ (q *ℤ pos K))
corner_above z p q D K h = rw (product-scales p q K K, rescaled z D K) (scaled (z *ℤ pos D) (p *ℤ q) (K * K) h)

corner_below : (z p q : ℤ) (D K : ℕ) → (p *ℤ q) ≤ℤ (z *ℤ pos D) → ((p *ℤ pos K) *ℤ (q *ℤ pos K)) ≤ℤ ((z *ℤ pos K) *ℤ pos (D * K))
corner_below z p q D K h = rw (product-scales p q K K, rescaled z D K) (scaled (p *ℤ q) (z *ℤ pos D) (K * K) h)

-- the ends of the finer interval, between those of the coarser one
pub ends_inside : (k : ℕ) (x v : Interval) → IsInside k x v → (x.lo ≤ℤ (v.hi *ℤ pos (2 ^ k))) × ((v.lo *ℤ pos (2 ^ k)) ≤ℤ x.hi)
ends_inside k x v p = (omega (arith, ints, p.ordered, p.to), omega (arith, ints, p.ordered, p.from))

products_above : (D k : ℕ) (x y v w : Interval) (z : ℤ) → IsInside k x v → IsInside k y w → (z *ℤ pos D) ≤ℤ least_at times v w → ((z *ℤ pos (2 ^ k)) *ℤ pos (D * 2 ^ k)) ≤ℤ least_at times x y
products_above D k x y v w z p q h =
    let c = least_below (z *ℤ pos D) (v.lo *ℤ w.lo) (v.lo *ℤ w.hi) (v.hi *ℤ w.lo) (v.hi *ℤ w.hi) h in
    let t : ℤ = (z *ℤ pos (2 ^ k)) *ℤ pos (D * 2 ^ k) in
    let ll = corner_above z v.lo w.lo D (2 ^ k) c.0 in
    let lh = corner_above z v.lo w.hi D (2 ^ k) c.1 in
    let hl = corner_above z v.hi w.lo D (2 ^ k) c.2 in
    let hh = corner_above z v.hi w.hi D (2 ^ k) c.3 in
    let xs = ends_inside k x v p in
    let ys = ends_inside k y w q in
    below_least t (x.lo *ℤ y.lo) (x.lo *ℤ y.hi) (x.hi *ℤ y.lo) (x.hi *ℤ y.hi)
    (below_products t _ _ _ _ x.lo y.lo p.from xs.0 q.from ys.0 ll lh hl hh)
    (below_products t _ _ _ _ x.lo y.hi p.from xs.0 ys.1 q.to ll lh hl hh)
    (below_products t _ _ _ _ x.hi y.lo xs.1 p.to q.from ys.0 ll lh hl hh)
    (below_products t _ _ _ _ x.hi y.hi xs.1 p.to ys.1 q.to ll lh hl hh)

products_below : (D k : ℕ) (x y v w : Interval) (z : ℤ) → IsInside k x v → IsInside k y w → greatest_at times v w ≤ℤ (z *ℤ pos D) → greatest_at times x y ≤ℤ ((z *ℤ pos (2 ^ k)) *ℤ pos (D * 2 ^ k))
products_below D k x y v w z p q h =
    let c = greatest_above (z *ℤ pos D) (v.lo *ℤ w.lo) (v.lo *ℤ w.hi) (v.hi *ℤ w.lo) (v.hi *ℤ w.hi) h in
    let t : ℤ = (z *ℤ pos (2 ^ k)) *ℤ pos (D * 2 ^ k) in
    let ll = corner_below z v.lo w.lo D (2 ^ k) c.0 in
    let lh = corner_below z v.lo w.hi D (2 ^ k) c.1 in
    let hl = corner_below z v.hi w.lo D (2 ^ k) c.2 in
    let hh = corner_below z v.hi w.hi D (2 ^ k) c.3 in
    let xs = ends_inside k x v p in
    let ys = ends_inside k y w q in
    above_greatest t (x.lo *ℤ y.lo) (x.lo *ℤ y.hi) (x.hi *ℤ y.lo) (x.hi *ℤ y.hi)
    (above_products t _ _ _ _ x.lo y.lo p.from xs.0 q.from ys.0 ll lh hl hh)
    (above_products t _ _ _ _ x.lo y.hi p.from xs.0 ys.1 q.to ll lh hl hh)
    (above_products t _ _ _ _ x.hi y.lo xs.1 p.to q.from ys.0 ll lh hl hh)
    (above_products t _ _ _ _ x.hi y.hi xs.1 p.to ys.1 q.to ll lh hl hh)

-- the quotients by the units of the two grids
quotients_inside : (F k : ℕ) (n m l g : ℤ)
    → ((floor_of n (pos (one F)) *ℤ pos (2 ^ k)) *ℤ pos (one F * one k)) ≤ℤ l → l ≤ℤ g → g ≤ℤ ((ceil_of m (pos (one F)) *ℤ pos (2 ^ k)) *ℤ pos (one F * one k))
    → IsInside k (record { lo = floor_of l (pos (one (F + k))); hi = ceil_of g (pos (one (F + k))) }) (record { lo = floor_of n (pos (one F)); hi = ceil_of m (pos (one F)) })
quotients_inside F k n m l g low le high =
    let unit = unit-positive (F + k) in record {
      from = at_most-floor _ l (pos (one (F + k))) (pos-nonzero _ unit) (rw (unit_sum F k) low);
      ordered = floor_below_ceil l g (one (F + k)) unit le;
      to = at_least-ceil _ g (pos (one (F + k))) (pos-nonzero _ unit) (rw (unit_sum F k) high);
    }

pub product-Refines : (F k : ℕ) (x y v w : Interval) → IsInside k x v → IsInside k y w → Refines k (product (F + k) x y) (product F v w)
unfolding product
product-Refines F k x y v w p q =
    let nonzero = pos-nonzero (one F) (unit-positive F) in
    bounded-Refines 50 F k
    (record { lo = floor_of (least_at times x y) (pos (one (F + k))); hi = ceil_of (greatest_at times x y) (pos (one (F + k))) })
    (record { lo = floor_of (least_at times v w) (pos (one F)); hi = ceil_of (greatest_at times v w) (pos (one F)) })
    (quotients_inside F k (least_at times v w) (greatest_at times v w) (least_at times x y) (greatest_at times x y)
    (products_above (one F) k x y v w _ p q (floor-at_most (least_at times v w) (pos (one F)) nonzero))
    (least_below_greatest (x.lo *ℤ y.lo) (x.lo *ℤ y.hi) (x.hi *ℤ y.lo) (x.hi *ℤ y.hi))
    (products_below (one F) k x y v w _ p q (ceil-at_least (greatest_at times v w) (pos (one F)) nonzero)))
