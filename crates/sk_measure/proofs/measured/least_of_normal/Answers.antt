use Rattle.std.proofs.Common.{◌≡◌, to_z-of_z}
use Rattle.sk_measure.specs.Holding.{IsOffset}
use Rattle.sk_measure.specs.Least.{IsLeast}
use Rattle.sk_measure.specs.Offsets.{billion, normal_offset}
use Rattle.sk_measure.proofs.Bounds.{normal_fits}
use Rattle.sk_measure.proofs.measured.least_of_normal.Goals as goal

pub returns : goal.returns
returns c =
    let is = c.in-Line in
    let bounded = rw is.is at c.requires.bounded in
    let a64 = normal_fits is.a bounded.0 in
    let b64 = normal_fits is.b bounded.1 in
    let offset : c.normal_offset.result ≡ normal_offset is.a is.b = simp to_z-of_z at c.normal_offset.ensures.value in
    let told : IsLeast (IsOffset billion c.normal_offset.result) c.least_of_offset.result = c.least_of_offset.ensures in
    rw is.is (rw offset at told)
