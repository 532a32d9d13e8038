use Rattle.std.proofs.Common.{◌≡◌, ◌*◌, unsigned_abs, FitsSigned, to_z-of_z}
use Rattle.std.specs.Int.{w128}
use Rattle.std.specs.Prelude.{◌↔◌, IsTrue}
use Rattle.sk_measure.specs.Holding.{IsLength, IsOffset}
use Rattle.sk_measure.specs.Offsets.{billion, distance_squared, height_above, height_offset, angle_offset, angle_unit}
use Rattle.sk_measure.proofs.Bounds.{length_fits, normal_fits}
use Rattle.sk_measure.proofs.measured.is_met.Goals as goal

pub square_of-requires : goal.square_of-requires
square_of-requires c =
    let is = c.in-PointPoint-Point-Point in
    let u_bounded = rw is.is-1 at c.requires.u_bounded in
    let v_bounded = rw is.is-2 at c.requires.v_bounded in
    let x64 = length_fits is.x u_bounded.0 in
    let y64 = length_fits is.y u_bounded.1 in
    let z64 = length_fits is.z v_bounded.0 in
    let t64 = length_fits is.t v_bounded.1 in
    simp to_z-of_z (record { x = u_bounded.0; y = u_bounded.1; z = v_bounded.0; t = v_bounded.1 })

pub returns-in-PointPoint-Point-Point : goal.returns-in-PointPoint-Point-Point
returns-in-PointPoint-Point-Point c =
    let is = c.in-PointPoint-Point-Point in
    let u_bounded = rw is.is-1 at c.requires.u_bounded in
    let v_bounded = rw is.is-2 at c.requires.v_bounded in
    let x64 = length_fits is.x u_bounded.0 in
    let y64 = length_fits is.y u_bounded.1 in
    let z64 = length_fits is.z v_bounded.0 in
    let t64 = length_fits is.t v_bounded.1 in
    let square : c.square_of.result ≡ distance_squared is.x is.y is.z is.t = simp to_z-of_z at c.square_of.ensures.value in
    let length : c.nanometres.result ≡ 1000 * unsigned_abs is.len.0 = c.nanometres.ensures.value in
    let told : IsTrue c.length_holds.result ↔ IsLength c.nanometres.result c.nanometres.result c.square_of.result c.args.n = c.length_holds.ensures in
    rw (is.is-0, is.is-1, is.is-2) (rw (square, length) at told)

pub height-requires : goal.height-requires
height-requires c =
    let is = c.in-PointLine-Point-Line in
    let u_bounded = rw is.is-1 at c.requires.u_bounded in
    let v_bounded = rw is.is-2 at c.requires.v_bounded in
    let x64 = length_fits is.x u_bounded.0 in
    let y64 = length_fits is.y u_bounded.1 in
    let a64 = normal_fits is.a v_bounded.0 in
    let b64 = normal_fits is.b v_bounded.1 in
    let c64 = length_fits is.c v_bounded.2 in
    simp to_z-of_z (record { x = u_bounded.0; y = u_bounded.1; a = v_bounded.0; b = v_bounded.1; c = v_bounded.2 })

pub returns-in-PointLine-Point-Line : goal.returns-in-PointLine-Point-Line
returns-in-PointLine-Point-Line c =
    let is = c.in-PointLine-Point-Line in
    let u_bounded = rw is.is-1 at c.requires.u_bounded in
    let v_bounded = rw is.is-2 at c.requires.v_bounded in
    let x64 = length_fits is.x u_bounded.0 in
    let y64 = length_fits is.y u_bounded.1 in
    let a64 = normal_fits is.a v_bounded.0 in
    let b64 = normal_fits is.b v_bounded.1 in
    let c64 = length_fits is.c v_bounded.2 in
    let height128 : FitsSigned w128 c.height.result = record { sfits = c.height.type_inv } in
    let height : c.height.result ≡ height_above is.x is.y is.a is.b is.c = simp to_z-of_z at c.height.ensures.value in
    let offset : c.height_offset.result ≡ height_offset is.len.0 is.side c.height.result = simp to_z-of_z at c.height_offset.ensures.value in
    let told : IsTrue c.offset_holds.result ↔ IsOffset billion c.height_offset.result c.args.n = c.offset_holds.ensures in
    rw (is.is-0, is.is-1, is.is-2) (rw (offset, height) at told)

pub angle_offset-requires : goal.angle_offset-requires
angle_offset-requires c =
    let is = c.in-LineLine-Line-Line in
    let u_bounded = rw is.is-1 at c.requires.u_bounded in
    let v_bounded = rw is.is-2 at c.requires.v_bounded in
    let a64 = normal_fits is.a u_bounded.0 in
    let b64 = normal_fits is.b u_bounded.1 in
    let d64 = normal_fits is.d v_bounded.0 in
    let e64 = normal_fits is.e v_bounded.1 in
    simp to_z-of_z (record { ratio = rw is.is-0 at c.requires.moderate; a = u_bounded.0; b = u_bounded.1; d = v_bounded.0; e = v_bounded.1 })

pub returns-in-LineLine-Line-Line : goal.returns-in-LineLine-Line-Line
returns-in-LineLine-Line-Line c =
    let is = c.in-LineLine-Line-Line in
    let u_bounded = rw is.is-1 at c.requires.u_bounded in
    let v_bounded = rw is.is-2 at c.requires.v_bounded in
    let a64 = normal_fits is.a u_bounded.0 in
    let b64 = normal_fits is.b u_bounded.1 in
    let d64 = normal_fits is.d v_bounded.0 in
    let e64 = normal_fits is.e v_bounded.1 in
    let offset : c.angle_offset.result ≡ angle_offset is.ratio is.a is.b is.d is.e = simp to_z-of_z at c.angle_offset.ensures.value in
    let unit : c.angle_unit.result ≡ angle_unit is.ratio = c.angle_unit.ensures.value in
    let told : IsTrue c.offset_holds-in-LineLine-Line-Line.result ↔ IsOffset c.angle_unit.result c.angle_offset.result c.args.n = c.offset_holds-in-LineLine-Line-Line.ensures in
    rw (is.is-0, is.is-1, is.is-2) (rw (offset, unit) at told)
