use Rattle.std.proofs.Common.{◌≡◌, ◌≤◌, FitsSigned, to_z-of_z, ap, arith, ◌∙◌}
use Rattle.std.specs.Prelude.{unsigned_abs}
use Rattle.std.specs.Int.{w128}
use Rattle.sk_orient.specs.Vectors.{cross}
use Rattle.sk_drawn.proofs.Drawing.{cross_few}
use Rattle.sk_drawn.proofs.values.is_turned.Goals as goal

pub overflow_mul-result : goal.overflow_mul-result
overflow_mul-result c =
    let fits : FitsSigned w128 c.cross.result = record { sfits = c.cross.type_inv } in
    let across = simp to_z-of_z at c.unsigned_abs-across.ensures.value in
    let size : c.unsigned_abs-across.result ≡ unsigned_abs (cross c.direction-first.result c.direction-second.result) = across ∙ ap unsigned_abs c.cross.ensures in
    let few = cross_few c.direction-first.result c.direction-second.result c.direction-first.ensures.short c.direction-second.ensures.short in
    let small : c.unsigned_abs-across.result ≤ 8000000000000000000 = rw size few in
    omega (arith, small)
