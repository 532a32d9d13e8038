use Rattle.std.proofs.Common.{◌*◌, ◌+◌, ◌^◌, ◌<◌, max, FitsSigned, unsigned_abs, refl, sym, ◌∙◌, arith, to_z-of_z}
use Rattle.std.specs.Int.{w128}
use Rattle.std.proofs.lemmas.Int.{ints}
use Rattle.sk_interval.specs.Interval.{one}
use Rattle.sk_interval.proofs.AroundLemmas.{floor_below_ceil}
use Rattle.sk_interval.proofs.PowerLemmas.{power_below, power_from_8, end_limit, end_fits, within_fits}
use Rattle.sk_interval.proofs.ProductLemmas.{not_within, product-range, product-quotients}
use Rattle.sk_interval.proofs.LeastLemmas.{product-least}
use Rattle.sk_interval.proofs.FinerProducts.{product-Refines}
use Rattle.sk_interval.proofs.interval.Iv.mul.Goals as goal

pub overflow_mul-BITS : goal.overflow_mul-BITS
overflow_mul-BITS g c = omega (arith, g.G.Grid.few)

pub overflow_add-BITS : goal.overflow_add-BITS
overflow_add-BITS g c = omega (arith, g.G.Grid.few)

pub floor-requires-clause-dividend : goal.floor-requires-clause-dividend
floor-requires-clause-dividend g c = omega (arith, ints)

pub floor-requires-clause-divisor : goal.floor-requires-clause-divisor
floor-requires-clause-divisor g c = omega (arith, ints)

pub ceil-requires-clause-dividend : goal.ceil-requires-clause-dividend
ceil-requires-clause-dividend g c = omega (arith, ints)

pub ceil-requires-clause-divisor : goal.ceil-requires-clause-divisor
ceil-requires-clause-divisor g c = omega (arith, ints)

pub extreme_products-least-requires : goal.extreme_products-least-requires
extreme_products-least-requires g c =
    let limit = end_limit g.G.Grid.BITS g.G.Grid.few in
    let self_lo = end_fits g.G.Grid.BITS c.self.inside.lo g.G.Grid.few c.self.invariant.lo_within in
    let self_hi = end_fits g.G.Grid.BITS c.self.inside.hi g.G.Grid.few c.self.invariant.hi_within in
    let other_lo = end_fits g.G.Grid.BITS c.other.inside.lo g.G.Grid.few c.other.invariant.lo_within in
    let other_hi = end_fits g.G.Grid.BITS c.other.inside.hi g.G.Grid.few c.other.invariant.hi_within in
    let small = c.if-product_is_within.ensures.0 refl in
    let most = power_below (50 + 2 * g.G.Grid.BITS) 126 (omega (arith, g.G.Grid.few)) in
    let bits = rw c.BITS.ensures at c.two_to-most.ensures in
    let first = rw (← c.self.view_is) at c.size.ensures.value in
    let second = rw (← c.other.view_is) at c.size-2.ensures.value in
    simp to_z-of_z (rw (← first, ← second) (omega arith))

pub bounded-requires-clause-ordered : goal.bounded-requires-clause-ordered
bounded-requires-clause-ordered g c =
    let least_fits = within_fits c.extreme_products-least.result.0 c.extreme_products-least.ensures.least_within in
    let greatest_fits = within_fits c.extreme_products-least.result.1 c.extreme_products-least.ensures.greatest_within in
    let unit_fits : FitsSigned w128 c.unit-one.result = record { sfits = c.unit-one.type_inv } in
    let floor_fits : FitsSigned w128 c.floor.result = record { sfits = c.floor.type_inv } in
    let ceil_fits : FitsSigned w128 c.ceil.result = record { sfits = c.ceil.type_inv } in
    let floor = rw c.unit-one.ensures.value at (simp to_z-of_z at c.floor.ensures.value) in
    let ceil = rw c.unit-one.ensures.value at (simp to_z-of_z at c.ceil.ensures.value) in
    let unit = power_from_8 g.G.Grid.BITS g.G.Grid.enough in
    rw (to_z-of_z floor_fits, to_z-of_z ceil_fits, floor, ceil) (floor_below_ceil _ _ (one g.G.Grid.BITS) (omega arith) c.extreme_products-least.ensures.ordered)

pub returns-then-product_is_within-clause-value : goal.returns-then-product_is_within-clause-value
returns-then-product_is_within-clause-value g c =
    let self_lo = end_fits g.G.Grid.BITS c.self.inside.lo g.G.Grid.few c.self.invariant.lo_within in
    let self_hi = end_fits g.G.Grid.BITS c.self.inside.hi g.G.Grid.few c.self.invariant.hi_within in
    let other_lo = end_fits g.G.Grid.BITS c.other.inside.lo g.G.Grid.few c.other.invariant.lo_within in
    let other_hi = end_fits g.G.Grid.BITS c.other.inside.hi g.G.Grid.few c.other.invariant.hi_within in
    let least_fits = within_fits c.extreme_products-least.result.0 c.extreme_products-least.ensures.least_within in
    let greatest_fits = within_fits c.extreme_products-least.result.1 c.extreme_products-least.ensures.greatest_within in
    let unit_fits : FitsSigned w128 c.unit-one.result = record { sfits = c.unit-one.type_inv } in
    let floor_fits : FitsSigned w128 c.floor.result = record { sfits = c.floor.type_inv } in
    let ceil_fits : FitsSigned w128 c.ceil.result = record { sfits = c.ceil.type_inv } in
    let floor = rw c.unit-one.ensures.value at (simp to_z-of_z at c.floor.ensures.value) in
    let ceil = rw c.unit-one.ensures.value at (simp to_z-of_z at c.ceil.ensures.value) in
    let bounded_is = rw (floor, ceil) at (simp to_z-of_z at c.bounded.ensures) in
    let least = simp to_z-of_z at c.extreme_products-least.ensures.least in
    let greatest = simp to_z-of_z at c.extreme_products-least.ensures.greatest in
    rw (← c.self.view_is, ← c.other.view_is) (rw (least, greatest) at bounded_is ∙ product-quotients g.G.Grid.BITS (record { lo = c.self.inside.lo; hi = c.self.inside.hi }) (record { lo = c.other.inside.lo; hi = c.other.inside.hi }))

pub returns-else-product_is_within-clause-value : goal.returns-else-product_is_within-clause-value
returns-else-product_is_within-clause-value g c =
    let bits = rw c.BITS.ensures at c.two_to-most.ensures in
    let beyond : 2 ^ (50 + 2 * g.G.Grid.BITS) < max (unsigned_abs c.args.self.lo) (unsigned_abs c.args.self.hi) * max (unsigned_abs c.args.other.lo) (unsigned_abs c.args.other.hi) =
    rw (← c.size.ensures.value, ← c.size-2.ensures.value, ← bits) (not_within _ _ (λ h. let e = c.if-product_is_within.ensures.1 h in cc)) in
    sym (product-range g.G.Grid.BITS c.args.self c.args.other beyond)

pub returns-then-product_is_within-clause-least : goal.returns-then-product_is_within-clause-least
returns-then-product_is_within-clause-least g c =
    rw (returns-then-product_is_within-clause-value g c) (product-least g.G.Grid.BITS c.args.self c.args.other)

pub returns-then-product_is_within-clause-nested : goal.returns-then-product_is_within-clause-nested
returns-then-product_is_within-clause-nested g c = λ k x y p q. rw (returns-then-product_is_within-clause-value g c) (product-Refines g.G.Grid.BITS k x y c.args.self c.args.other p q)

pub returns-else-product_is_within-clause-least : goal.returns-else-product_is_within-clause-least
returns-else-product_is_within-clause-least g c =
    rw (returns-else-product_is_within-clause-value g c) (product-least g.G.Grid.BITS c.args.self c.args.other)
