use Rattle.std.proofs.Common.{◌≡◌, unsigned_abs, FitsSigned, arith, to_z-of_z, refl}
use Rattle.std.proofs.lemmas.Int.{ints}
use Rattle.std.specs.Int.{w64, w128}
use Rattle.sk_measure.specs.Offsets.{height_excess}
use Rattle.sk_measure.proofs.measured.height_offset.Goals as goal

pub returns-clause-value : goal.returns-clause-value
returns-clause-value c =
    let len64 : FitsSigned w64 c.args.len.0 = omega (arith, ints) in
    let height = c.ranges.height in
    let all : FitsSigned w128 c.height_excess.result = record { sfits = c.height_excess.type_inv } in
    let told : c.height_excess.result ≡ height_excess c.args.len.0 c.args.side c.args.height = simp to_z-of_z at c.height_excess.ensures.value in
    let whole : c.unsigned_abs.result ≡ unsigned_abs c.height_excess.result = simp to_z-of_z at c.unsigned_abs.ensures.value in
    rw (whole, told) refl
