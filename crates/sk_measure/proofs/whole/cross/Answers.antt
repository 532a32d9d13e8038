use Rattle.std.proofs.Common.{◌≡◌, ◌≤◌, ◌^◌, ◌-ℤ◌, ◌*ℤ◌, unsigned_abs, FitsSigned, arith, to_z-of_z, refl}
use Rattle.std.proofs.lemmas.Int.{ints}
use Rattle.std.specs.Int.{w128}
use Rattle.sk_measure.proofs.whole.cross.Goals as goal

pub overflow_sub-result : goal.overflow_sub-result
overflow_sub-result c =
    let one : FitsSigned w128 c.product.result = record { sfits = c.product.type_inv } in
    let two : FitsSigned w128 c.product-2.result = record { sfits = c.product-2.type_inv } in
    let all : FitsSigned w128 (c.product.result -ℤ c.product-2.result) = omega (arith, ints) in
    simp to_z-of_z all

pub returns-clause-value : goal.returns-clause-value
returns-clause-value c =
    let a64 = c.ranges.a in
    let b64 = c.ranges.b in
    let d64 = c.ranges.d in
    let e64 = c.ranges.e in
    let one : FitsSigned w128 c.product.result = record { sfits = c.product.type_inv } in
    let two : FitsSigned w128 c.product-2.result = record { sfits = c.product-2.type_inv } in
    let all : FitsSigned w128 (c.product.result -ℤ c.product-2.result) = omega (arith, ints) in
    let first : c.product.result ≡ c.args.a *ℤ c.args.e = simp to_z-of_z at c.product.ensures.value in
    let second : c.product-2.result ≡ c.args.b *ℤ c.args.d = simp to_z-of_z at c.product-2.ensures.value in
    simp to_z-of_z (rw (first, second) refl)

pub returns-clause-within : goal.returns-clause-within
returns-clause-within c =
    let one : FitsSigned w128 c.product.result = record { sfits = c.product.type_inv } in
    let two : FitsSigned w128 c.product-2.result = record { sfits = c.product-2.type_inv } in
    let all : FitsSigned w128 (c.product.result -ℤ c.product-2.result) = omega (arith, ints) in
    let few : unsigned_abs (c.product.result -ℤ c.product-2.result) ≤ 2 ^ 63 = omega (arith, ints) in
    simp to_z-of_z few
