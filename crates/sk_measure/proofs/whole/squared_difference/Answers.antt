use Rattle.std.proofs.Common.{◌≡◌, ◌≤◌, ◌^◌, ◌*◌, ℕ, ◌-ℤ◌, unsigned_abs, FitsSigned, refl, arith, to_z-of_z}
use Rattle.std.proofs.lemmas.Int.{ints}
use Rattle.std.proofs.lemmas.Nat.{mul-le}
use Rattle.std.specs.Int.{w128}
use Rattle.sk_measure.proofs.whole.squared_difference.Goals as goal

pub overflow_sub-from : goal.overflow_sub-from
overflow_sub-from c = omega (arith, ints)

pub overflow_mul-result : goal.overflow_mul-result
overflow_mul-result c =
    let n : ℕ = c.unsigned_abs-difference.result in
    let most : n ≤ 2 ^ 61 = omega (arith, ints, c.requires, c.unsigned_abs-difference.ensures.value) in
    omega (arith, mul-le n n (2 ^ 61) (2 ^ 61) most most)

pub returns-clause-value : goal.returns-clause-value
returns-clause-value c =
    let a64 = c.ranges.a in
    let b64 = c.ranges.b in
    let first : FitsSigned w128 c.from.result = record { sfits = c.from.type_inv } in
    let second : FitsSigned w128 c.from-2.result = record { sfits = c.from-2.type_inv } in
    let first_is : c.from.result ≡ c.args.a = simp to_z-of_z at c.from.ensures in
    let second_is : c.from-2.result ≡ c.args.b = simp to_z-of_z at c.from-2.ensures in
    let difference : FitsSigned w128 (c.from.result -ℤ c.from-2.result) = omega (arith, ints, c.requires) in
    let size : c.unsigned_abs-difference.result ≡ unsigned_abs (c.args.a -ℤ c.args.b) = rw (first_is, second_is) at (simp to_z-of_z at c.unsigned_abs-difference.ensures.value) in
    rw size refl

pub returns-clause-within : goal.returns-clause-within
returns-clause-within c =
    let n : ℕ = c.unsigned_abs-difference.result in
    let most : n ≤ 2 ^ 61 = omega (arith, ints, c.requires, c.unsigned_abs-difference.ensures.value) in
    let squares = mul-le n n (2 ^ 61) (2 ^ 61) most most in
    omega (arith, squares)

pub returns-clause-small : goal.returns-clause-small
returns-clause-small c = λ most a b.
    let n : ℕ = c.unsigned_abs-difference.result in
    let few : n ≤ 2 * most = omega (arith, ints, a, b, c.unsigned_abs-difference.ensures.value) in
    let squares = mul-le n n (2 * most) (2 * most) few few in
    omega (arith, squares)
