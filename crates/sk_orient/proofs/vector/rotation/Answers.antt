use Rattle.std.proofs.Common.{◌*ℤ◌, FitsSigned, arith, to_z-of_z}
use Rattle.std.proofs.lemmas.Int.{ints}
use Rattle.std.specs.Int.{w32, w128}
use Rattle.sk_orient.specs.Vectors.{cross, dot, rotation}
use Rattle.sk_base.proofs.Magnitudes.{product_within, fits}
use Rattle.sk_orient.proofs.Products.{cross_within, dot_within, rotation_within}
use Rattle.sk_orient.proofs.vector.rotation.Goals as goal

pub overflow_mul-forward : goal.overflow_mul-forward
overflow_mul-forward c =
    let term : FitsSigned w32 c.args.ratio.q = omega (arith, ints) in
    let wide : FitsSigned w128 c.args.ratio.q = omega (arith, ints) in
    let along = dot_within 2000000000 2000000000 c.args.v c.args.w c.requires.v_short c.requires.w_short in
    let along_fits : FitsSigned w128 (dot c.args.v c.args.w) = fits _ _ along (omega arith) in
    rw (c.from.ensures, c.dot.ensures) (simp to_z-of_z (fits _ _ (product_within 10000 _ _ _ c.requires.small.1 along) (omega arith)))

pub overflow_mul-aside : goal.overflow_mul-aside
overflow_mul-aside c =
    let term : FitsSigned w32 c.args.ratio.p = omega (arith, ints) in
    let wide : FitsSigned w128 c.args.ratio.p = omega (arith, ints) in
    let across = cross_within 2000000000 2000000000 c.args.v c.args.w c.requires.v_short c.requires.w_short in
    let across_fits : FitsSigned w128 (cross c.args.v c.args.w) = fits _ _ across (omega arith) in
    rw (c.from-2.ensures, c.cross.ensures) (simp to_z-of_z (fits _ _ (product_within 10000 _ _ _ c.requires.small.0 across) (omega arith)))

pub overflow_add-result : goal.overflow_add-result
overflow_add-result c =
    let q_term : FitsSigned w32 c.args.ratio.q = omega (arith, ints) in
    let p_term : FitsSigned w32 c.args.ratio.p = omega (arith, ints) in
    let q_wide : FitsSigned w128 c.args.ratio.q = omega (arith, ints) in
    let p_wide : FitsSigned w128 c.args.ratio.p = omega (arith, ints) in
    let along = dot_within 2000000000 2000000000 c.args.v c.args.w c.requires.v_short c.requires.w_short in
    let across = cross_within 2000000000 2000000000 c.args.v c.args.w c.requires.v_short c.requires.w_short in
    let along_fits : FitsSigned w128 (dot c.args.v c.args.w) = fits _ _ along (omega arith) in
    let across_fits : FitsSigned w128 (cross c.args.v c.args.w) = fits _ _ across (omega arith) in
    let forward_fits : FitsSigned w128 (c.args.ratio.q *ℤ dot c.args.v c.args.w) = fits _ _ (product_within 10000 _ _ _ c.requires.small.1 along) (omega arith) in
    let aside_fits : FitsSigned w128 (c.args.ratio.p *ℤ cross c.args.v c.args.w) = fits _ _ (product_within 10000 _ _ _ c.requires.small.0 across) (omega arith) in
    let all_fits : FitsSigned w128 (rotation c.args.v c.args.w c.args.ratio) = fits _ _ (rotation_within 2000000000 c.args.v c.args.w c.args.ratio c.requires.v_short c.requires.w_short c.requires.small) (omega arith) in
    rw (c.from.ensures, c.dot.ensures, c.from-2.ensures, c.cross.ensures) (simp to_z-of_z all_fits)

pub returns : goal.returns
returns c =
    let q_term : FitsSigned w32 c.args.ratio.q = omega (arith, ints) in
    let p_term : FitsSigned w32 c.args.ratio.p = omega (arith, ints) in
    let q_wide : FitsSigned w128 c.args.ratio.q = omega (arith, ints) in
    let p_wide : FitsSigned w128 c.args.ratio.p = omega (arith, ints) in
    let along = dot_within 2000000000 2000000000 c.args.v c.args.w c.requires.v_short c.requires.w_short in
    let across = cross_within 2000000000 2000000000 c.args.v c.args.w c.requires.v_short c.requires.w_short in
    let along_fits : FitsSigned w128 (dot c.args.v c.args.w) = fits _ _ along (omega arith) in
    let across_fits : FitsSigned w128 (cross c.args.v c.args.w) = fits _ _ across (omega arith) in
    let forward_fits : FitsSigned w128 (c.args.ratio.q *ℤ dot c.args.v c.args.w) = fits _ _ (product_within 10000 _ _ _ c.requires.small.1 along) (omega arith) in
    let aside_fits : FitsSigned w128 (c.args.ratio.p *ℤ cross c.args.v c.args.w) = fits _ _ (product_within 10000 _ _ _ c.requires.small.0 across) (omega arith) in
    let all_fits : FitsSigned w128 (rotation c.args.v c.args.w c.args.ratio) = fits _ _ (rotation_within 2000000000 c.args.v c.args.w c.args.ratio c.requires.v_short c.requires.w_short c.requires.small) (omega arith) in
    rw (c.from.ensures, c.dot.ensures, c.from-2.ensures, c.cross.ensures) (simp to_z-of_z)
