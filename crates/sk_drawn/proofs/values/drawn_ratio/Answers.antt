use Rattle.std.proofs.Common.{FitsSigned, to_z-of_z, ap, ◌∙◌}
use Rattle.std.specs.Int.{w128}
use Rattle.sk_orient.specs.declared.Vector.{Vector}
use Rattle.sk_orient.specs.DrawnSigns.{direction_of}
use Rattle.sk_orient.specs.Vectors.{cross, dot}
use Rattle.sk_drawn.proofs.Ratios.{ratio_none}
use Rattle.sk_drawn.proofs.Drawing.{cross_few, dot_few}
use Rattle.sk_drawn.proofs.values.drawn_ratio.Goals as goal

pub nearest_ratio-requires-clause-c_few : goal.nearest_ratio-requires-clause-c_few
nearest_ratio-requires-clause-c_few c =
    let fits : FitsSigned w128 c.cross.result = record { sfits = c.cross.type_inv } in
    simp to_z-of_z (rw c.cross.ensures (cross_few c.direction-first.result c.direction-second.result c.direction-first.ensures.short c.direction-second.ensures.short))

pub nearest_ratio-requires-clause-d_few : goal.nearest_ratio-requires-clause-d_few
nearest_ratio-requires-clause-d_few c =
    let fits : FitsSigned w128 c.dot.result = record { sfits = c.dot.type_inv } in
    simp to_z-of_z (rw c.dot.ensures (dot_few c.direction-first.result c.direction-second.result c.direction-first.ensures.short c.direction-second.ensures.short))

pub returns-clause-none : goal.returns-clause-none
returns-clause-none c =
    let first : FitsSigned w128 c.cross.result = record { sfits = c.cross.type_inv } in
    let second : FitsSigned w128 c.dot.result = record { sfits = c.dot.type_inv } in
    let across = c.cross.ensures ∙ ap (λ (v : Vector). cross v c.direction-second.result) c.direction-first.ensures.direction ∙ ap (λ (v : Vector). cross (direction_of c.args.a) v) c.direction-second.ensures.direction in
    let along = c.dot.ensures ∙ ap (λ (v : Vector). dot v c.direction-second.result) c.direction-first.ensures.direction ∙ ap (λ (v : Vector). dot (direction_of c.args.a) v) c.direction-second.ensures.direction in
    ratio_none c.nearest_ratio.result c.cross.result c.dot.result (cross (direction_of c.args.a) (direction_of c.args.b)) (dot (direction_of c.args.a) (direction_of c.args.b)) across along
    (simp to_z-of_z at c.nearest_ratio.ensures.none)
