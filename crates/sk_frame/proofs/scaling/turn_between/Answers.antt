use Rattle.std.proofs.Common.{FitsSigned, arith, to_z-of_z}
use Rattle.std.specs.Int.{w128}
use Rattle.sk_orient.specs.Vectors.{cross, dot}
use Rattle.sk_base.proofs.Magnitudes.{fits}
use Rattle.sk_orient.proofs.Products.{cross_within, dot_within}
use Rattle.sk_frame.proofs.Turning.{turn_somewhere}
use Rattle.sk_frame.proofs.scaling.turn_between.Goals as goal

pub returns-clause-short : goal.returns-clause-short
returns-clause-short c =
    let along = dot_within 2000000000 2000000000 c.args.g c.args.d c.requires.g_short c.requires.d_short in
    let across = cross_within 2000000000 2000000000 c.args.g c.args.d c.requires.g_short c.requires.d_short in
    let along_fits : FitsSigned w128 (dot c.args.g c.args.d) = fits _ _ along (omega arith) in
    let across_fits : FitsSigned w128 (cross c.args.g c.args.d) = fits _ _ across (omega arith) in
    rw (c.dot.ensures, c.cross.ensures) (simp to_z-of_z (along, across))

pub returns-clause-somewhere : goal.returns-clause-somewhere
returns-clause-somewhere c =
    let along_fits : FitsSigned w128 (dot c.args.g c.args.d) = fits _ _ (dot_within 2000000000 2000000000 c.args.g c.args.d c.requires.g_short c.requires.d_short) (omega arith) in
    let across_fits : FitsSigned w128 (cross c.args.g c.args.d) = fits _ _ (cross_within 2000000000 2000000000 c.args.g c.args.d c.requires.g_short c.requires.d_short) (omega arith) in
    rw (c.dot.ensures, c.cross.ensures) (simp to_z-of_z (turn_somewhere c.args.g c.args.d c.requires.g_somewhere c.requires.d_somewhere))
