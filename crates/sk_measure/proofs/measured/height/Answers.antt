use Rattle.std.proofs.Common.{◌≡◌, pos, ◌+ℤ◌, ◌-ℤ◌, ◌*ℤ◌, FitsSigned, arith, to_z-of_z, refl}
use Rattle.std.proofs.lemmas.Int.{ints}
use Rattle.std.specs.Int.{w128}
use Rattle.sk_measure.specs.Offsets.{billion, height_above}
use Rattle.sk_measure.proofs.Bounds.{height_bound, abs_within}
use Rattle.sk_measure.proofs.measured.height.Goals as goal

pub overflow_add-result : goal.overflow_add-result
overflow_add-result c =
    let one : FitsSigned w128 c.scaled.result = record { sfits = c.scaled.type_inv } in
    let two : FitsSigned w128 c.scaled-2.result = record { sfits = c.scaled-2.type_inv } in
    let sum : FitsSigned w128 (c.scaled.result +ℤ c.scaled-2.result) = omega (arith, ints) in
    simp to_z-of_z sum

pub overflow_sub-result : goal.overflow_sub-result
overflow_sub-result c =
    let one : FitsSigned w128 c.scaled.result = record { sfits = c.scaled.type_inv } in
    let two : FitsSigned w128 c.scaled-2.result = record { sfits = c.scaled-2.type_inv } in
    let three : FitsSigned w128 c.scaled-3.result = record { sfits = c.scaled-3.type_inv } in
    let sum : FitsSigned w128 (c.scaled.result +ℤ c.scaled-2.result) = omega (arith, ints) in
    let all : FitsSigned w128 ((c.scaled.result +ℤ c.scaled-2.result) -ℤ c.scaled-3.result) = omega (arith, ints) in
    simp to_z-of_z all

pub returns-clause-value : goal.returns-clause-value
returns-clause-value c =
    let a64 = c.ranges.a in
    let b64 = c.ranges.b in
    let x64 = c.ranges.x in
    let y64 = c.ranges.y in
    let c64 = c.ranges.c in
    let x128 : FitsSigned w128 c.args.x = omega (arith, ints) in
    let y128 : FitsSigned w128 c.args.y = omega (arith, ints) in
    let c128 : FitsSigned w128 c.args.c = omega (arith, ints) in
    let one : FitsSigned w128 c.scaled.result = record { sfits = c.scaled.type_inv } in
    let two : FitsSigned w128 c.scaled-2.result = record { sfits = c.scaled-2.type_inv } in
    let three : FitsSigned w128 c.scaled-3.result = record { sfits = c.scaled-3.type_inv } in
    let sum : FitsSigned w128 (c.scaled.result +ℤ c.scaled-2.result) = omega (arith, ints) in
    let all : FitsSigned w128 ((c.scaled.result +ℤ c.scaled-2.result) -ℤ c.scaled-3.result) = omega (arith, ints) in
    let along : c.scaled.result ≡ c.args.a *ℤ c.args.x = simp to_z-of_z at (rw c.from.ensures at c.scaled.ensures.value) in
    let across : c.scaled-2.result ≡ c.args.b *ℤ c.args.y = simp to_z-of_z at (rw c.from-2.ensures at c.scaled-2.ensures.value) in
    let offset : c.scaled-3.result ≡ pos billion *ℤ c.args.c = simp to_z-of_z at (rw c.from-3.ensures at c.scaled-3.ensures.value) in
    let told : (c.scaled.result +ℤ c.scaled-2.result) -ℤ c.scaled-3.result ≡ height_above c.args.x c.args.y c.args.a c.args.b c.args.c = rw (along, across, offset) refl in
    simp to_z-of_z told

pub returns-clause-within : goal.returns-clause-within
returns-clause-within c =
    rw (returns-clause-value c)
    (height_bound c.args.x c.args.y c.args.a c.args.b c.args.c (abs_within _ _ c.requires.x) (abs_within _ _ c.requires.y) (abs_within _ _ c.requires.a) (abs_within _ _ c.requires.b) (abs_within _ _ c.requires.c))
