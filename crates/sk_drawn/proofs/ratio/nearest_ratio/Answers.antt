use Rattle.std.proofs.Common.{◌≢◌, FitsSigned, rules, to_z-of_z}
use Rattle.std.specs.Prelude.{pos}
use Rattle.std.specs.Int.{w128}
use Rattle.sk_drawn.proofs.OneValue.{none_flat, none_when, some_along}
use Rattle.sk_drawn.proofs.Ratios.{flat_nearest, steep_nearest}
use Rattle.sk_drawn.proofs.ratio.nearest_ratio.Goals as goal

pub returns-then-across-along-clause-nearest : goal.returns-then-across-along-clause-nearest
returns-then-across-along-clause-nearest c =
    let c_fits : FitsSigned w128 c.args.c = c.ranges.c in
    let d_fits : FitsSigned w128 c.args.d = c.ranges.d in
    let across = simp to_z-of_z at c.unsigned_abs-across.ensures.value in
    let along = simp to_z-of_z at c.unsigned_abs-along.ensures.value in
    let turned : c.args.c ≢ pos 0 = search rules in
    let f = c.nearest_fraction-fraction in
    flat_nearest c.args.c c.args.d turned f.result.x f.result.y c.ratio_with.result c.unsigned_abs-across.result c.unsigned_abs-along.result
    across along c.if-across-along.true f.ensures.nearest (simp to_z-of_z at c.ratio_with.ensures.p) c.ratio_with.ensures.q

pub returns-else-across-along-clause-nearest : goal.returns-else-across-along-clause-nearest
returns-else-across-along-clause-nearest c =
    let c_fits : FitsSigned w128 c.args.c = c.ranges.c in
    let d_fits : FitsSigned w128 c.args.d = c.ranges.d in
    let across = simp to_z-of_z at c.unsigned_abs-across.ensures.value in
    let along = simp to_z-of_z at c.unsigned_abs-along.ensures.value in
    let turned : c.args.c ≢ pos 0 = search rules in
    let f = c.nearest_fraction-fraction-else-across-along in
    let r = c.ratio_with-else-across-along in
    steep_nearest c.args.c c.args.d turned f.result.x f.result.y r.result c.unsigned_abs-along.result c.unsigned_abs-across.result
    along across c.if-across-along.false f.ensures.nearest (simp to_z-of_z at r.ensures.p) r.ensures.q

pub returns-then-across-along-clause-none : goal.returns-then-across-along-clause-none
returns-then-across-along-clause-none c =
    let c_fits : FitsSigned w128 c.args.c = c.ranges.c in
    let d_fits : FitsSigned w128 c.args.d = c.ranges.d in
    let turned : c.args.c ≢ pos 0 = search rules in
    let across = simp to_z-of_z at c.unsigned_abs-across.ensures.value in
    let along = simp to_z-of_z at c.unsigned_abs-along.ensures.value in
    let f = c.nearest_fraction-fraction in
    none_when (c.ratio_with.result) (f.result.x) (λ none. none_flat c.args.c c.args.d f.result.x f.result.y c.unsigned_abs-across.result c.unsigned_abs-along.result
    (some_along c.args.c c.unsigned_abs-across.result c.unsigned_abs-along.result turned across c.if-across-along.true) f.ensures.nearest across along c.if-across-along.true none)
    c.ratio_with.ensures.none
