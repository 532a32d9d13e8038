use Rattle.std.proofs.Common.{◌*ℤ◌, FitsSigned, arith, to_z-of_z}
use Rattle.std.proofs.lemmas.Int.{ints}
use Rattle.std.specs.Int.{w128}
use Rattle.sk_orient.specs.Vectors.{cross}
use Rattle.sk_base.proofs.Magnitudes.{product_within, fits}
use Rattle.sk_orient.proofs.Products.{cross_within}
use Rattle.sk_orient.proofs.vector.cross.Goals as goal

pub overflow_sub-result : goal.overflow_sub-result
overflow_sub-result c =
    let v_x : FitsSigned w128 c.args.v.x = omega (arith, ints) in
    let v_y : FitsSigned w128 c.args.v.y = omega (arith, ints) in
    let w_x : FitsSigned w128 c.args.w.x = omega (arith, ints) in
    let w_y : FitsSigned w128 c.args.w.y = omega (arith, ints) in
    let one : FitsSigned w128 (c.args.v.x *ℤ c.args.w.y) = fits _ _ (product_within 2305843009213693952 2305843009213693952 _ _ c.requires.v_short.0 c.requires.w_short.1) (omega arith) in
    let two : FitsSigned w128 (c.args.v.y *ℤ c.args.w.x) = fits _ _ (product_within 2305843009213693952 2305843009213693952 _ _ c.requires.v_short.1 c.requires.w_short.0) (omega arith) in
    let all : FitsSigned w128 (cross c.args.v c.args.w) = fits _ _ (cross_within 2305843009213693952 2305843009213693952 c.args.v c.args.w c.requires.v_short c.requires.w_short) (omega arith) in
    simp to_z-of_z all

pub returns : goal.returns
returns c =
    let v_x : FitsSigned w128 c.args.v.x = omega (arith, ints) in
    let v_y : FitsSigned w128 c.args.v.y = omega (arith, ints) in
    let w_x : FitsSigned w128 c.args.w.x = omega (arith, ints) in
    let w_y : FitsSigned w128 c.args.w.y = omega (arith, ints) in
    let one : FitsSigned w128 (c.args.v.x *ℤ c.args.w.y) = fits _ _ (product_within 2305843009213693952 2305843009213693952 _ _ c.requires.v_short.0 c.requires.w_short.1) (omega arith) in
    let two : FitsSigned w128 (c.args.v.y *ℤ c.args.w.x) = fits _ _ (product_within 2305843009213693952 2305843009213693952 _ _ c.requires.v_short.1 c.requires.w_short.0) (omega arith) in
    let all : FitsSigned w128 (cross c.args.v c.args.w) = fits _ _ (cross_within 2305843009213693952 2305843009213693952 c.args.v c.args.w c.requires.v_short c.requires.w_short) (omega arith) in
    simp to_z-of_z
