use Rattle.std.proofs.Common.{◌≡◌, unsigned_abs, FitsSigned, to_z-of_z, refl}
use Rattle.std.specs.Int.{w128}
use Rattle.sk_measure.specs.Offsets.{angle_excess}
use Rattle.sk_measure.proofs.measured.angle_offset.Goals as goal

pub returns-clause-value : goal.returns-clause-value
returns-clause-value c =
    let a64 = c.ranges.a in
    let b64 = c.ranges.b in
    let d64 = c.ranges.d in
    let e64 = c.ranges.e in
    let all : FitsSigned w128 c.angle_excess.result = record { sfits = c.angle_excess.type_inv } in
    let told : c.angle_excess.result ≡ angle_excess c.args.ratio c.args.a c.args.b c.args.d c.args.e = simp to_z-of_z at c.angle_excess.ensures.value in
    let whole : c.unsigned_abs.result ≡ unsigned_abs c.angle_excess.result = simp to_z-of_z at c.unsigned_abs.ensures.value in
    rw (whole, told) refl
