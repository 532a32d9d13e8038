use Rattle.std.proofs.Common.{◌≡◌, pos, ◌-ℤ◌, unsigned_abs, FitsSigned, arith, to_z-of_z, refl}
use Rattle.std.proofs.lemmas.Int.{ints}
use Rattle.std.specs.Int.{w128}
use Rattle.sk_measure.specs.Offsets.{dot}
use Rattle.sk_measure.proofs.measured.normal_offset.Goals as goal

pub returns-clause-value : goal.returns-clause-value
returns-clause-value c =
    let a64 = c.ranges.a in
    let b64 = c.ranges.b in
    let square : FitsSigned w128 c.dot.result = record { sfits = c.dot.type_inv } in
    let all : FitsSigned w128 (c.dot.result -ℤ pos 1000000000000000000) = omega (arith, ints) in
    let told : c.dot.result ≡ dot c.args.a c.args.b c.args.a c.args.b = simp to_z-of_z at c.dot.ensures.value in
    let whole : c.unsigned_abs.result ≡ unsigned_abs (c.dot.result -ℤ pos 1000000000000000000) = simp to_z-of_z at c.unsigned_abs.ensures.value in
    rw (whole, told) refl
