use Rattle.std.proofs.Common.{◌≡◌, to_z-of_z}
use Rattle.sk_measure.specs.Least.{IsLeast}
use Rattle.sk_measure.specs.Holding.{IsLength, given_squared}
use Rattle.sk_measure.specs.Offsets.{distance_squared}
use Rattle.sk_measure.proofs.Bounds.{length_fits}
use Rattle.sk_measure.proofs.measured.least_of_pair.Goals as goal

pub returns : goal.returns
returns c =
    let is = c.in-Point-Point in
    let u_bounded = rw is.is-0 at c.requires.u.1 in
    let v_bounded = rw is.is-1 at c.requires.v.1 in
    let x64 = length_fits is.x u_bounded.0 in
    let y64 = length_fits is.y u_bounded.1 in
    let z64 = length_fits is.z v_bounded.0 in
    let t64 = length_fits is.t v_bounded.1 in
    let square : c.square_of.result ≡ distance_squared is.x is.y is.z is.t = simp to_z-of_z at c.square_of.ensures.value in
    let told : IsLeast (IsLength c.root_floor.result c.root_ceil.result c.square_of.result) c.least_of_length.result = c.least_of_length.ensures in
    let given : c.given_squared-given.result ≡ given_squared c.args.a.now c.args.b.now = c.given_squared-given.ensures.value in
    rw (is.is-0, is.is-1) (rw (c.root_floor.ensures.value, c.root_ceil.ensures.value, square, given) at told)
