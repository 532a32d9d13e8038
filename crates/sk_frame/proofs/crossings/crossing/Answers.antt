use Rattle.std.proofs.Common.{◌≡◌, FitsSigned, rules, refl, ap, ◌∙◌, arith, to_z-of_z}
use Rattle.std.specs.Int.{w128}
use Rattle.std.proofs.lemmas.Int.{ints}
use Rattle.sk_base.specs.Bounds.{IsWithin}
use Rattle.sk_orient.specs.declared.Vector.{Vector}
use Rattle.sk_orient.specs.Vectors.{way, cross}
use Rattle.sk_base.proofs.Magnitudes.{fits}
use Rattle.sk_orient.proofs.Products.{way_short, cross_within}
use Rattle.sk_frame.specs.Crossings.{crossing_at, crossing}
use Rattle.sk_frame.proofs.crossings.crossing.Goals as goal

pub crossing_at-requires-clause-n : goal.crossing_at-requires-clause-n
crossing_at-requires-clause-n c =
    let det : IsWithin 8000000000000000000 (cross c.args.d c.args.e) = cross_within 2000000000 2000000000 c.args.d c.args.e c.requires.d c.requires.e in
    let n : IsWithin 8000000000000000000 (cross (way c.args.p c.args.q) c.args.e) =
    cross_within 2000000000 2000000000 (way c.args.p c.args.q) c.args.e (way_short 1000000000 c.args.p c.args.q c.requires.p c.requires.q) c.requires.e in
    let det_fits : FitsSigned w128 (cross c.args.d c.args.e) = fits _ _ det (omega arith) in
    let n_fits : FitsSigned w128 (cross (way c.args.p c.args.q) c.args.e) = fits _ _ n (omega arith) in
    rw (c.cross-n.ensures, c.way.ensures.way) (simp to_z-of_z n)

pub crossing_at-requires-clause-det : goal.crossing_at-requires-clause-det
crossing_at-requires-clause-det c =
    let det : IsWithin 8000000000000000000 (cross c.args.d c.args.e) = cross_within 2000000000 2000000000 c.args.d c.args.e c.requires.d c.requires.e in
    let n : IsWithin 8000000000000000000 (cross (way c.args.p c.args.q) c.args.e) =
    cross_within 2000000000 2000000000 (way c.args.p c.args.q) c.args.e (way_short 1000000000 c.args.p c.args.q c.requires.p c.requires.q) c.requires.e in
    let det_fits : FitsSigned w128 (cross c.args.d c.args.e) = fits _ _ det (omega arith) in
    let n_fits : FitsSigned w128 (cross (way c.args.p c.args.q) c.args.e) = fits _ _ n (omega arith) in
    rw c.cross-det.ensures (simp to_z-of_z det)

pub crossing_at-requires-2-clause-n : goal.crossing_at-requires-2-clause-n
crossing_at-requires-2-clause-n c =
    let det : IsWithin 8000000000000000000 (cross c.args.d c.args.e) = cross_within 2000000000 2000000000 c.args.d c.args.e c.requires.d c.requires.e in
    let n : IsWithin 8000000000000000000 (cross (way c.args.p c.args.q) c.args.e) =
    cross_within 2000000000 2000000000 (way c.args.p c.args.q) c.args.e (way_short 1000000000 c.args.p c.args.q c.requires.p c.requires.q) c.requires.e in
    let det_fits : FitsSigned w128 (cross c.args.d c.args.e) = fits _ _ det (omega arith) in
    let n_fits : FitsSigned w128 (cross (way c.args.p c.args.q) c.args.e) = fits _ _ n (omega arith) in
    rw (c.cross-n.ensures, c.way.ensures.way) (simp to_z-of_z n)

pub crossing_at-requires-2-clause-det : goal.crossing_at-requires-2-clause-det
crossing_at-requires-2-clause-det c =
    let det : IsWithin 8000000000000000000 (cross c.args.d c.args.e) = cross_within 2000000000 2000000000 c.args.d c.args.e c.requires.d c.requires.e in
    let n : IsWithin 8000000000000000000 (cross (way c.args.p c.args.q) c.args.e) =
    cross_within 2000000000 2000000000 (way c.args.p c.args.q) c.args.e (way_short 1000000000 c.args.p c.args.q c.requires.p c.requires.q) c.requires.e in
    let det_fits : FitsSigned w128 (cross c.args.d c.args.e) = fits _ _ det (omega arith) in
    let n_fits : FitsSigned w128 (cross (way c.args.p c.args.q) c.args.e) = fits _ _ n (omega arith) in
    rw c.cross-det.ensures (simp to_z-of_z det)

pub crossing_at-requires-2-clause-crosses : goal.crossing_at-requires-2-clause-crosses
crossing_at-requires-2-clause-crosses c =
    let det : IsWithin 8000000000000000000 (cross c.args.d c.args.e) = cross_within 2000000000 2000000000 c.args.d c.args.e c.requires.d c.requires.e in
    let n : IsWithin 8000000000000000000 (cross (way c.args.p c.args.q) c.args.e) =
    cross_within 2000000000 2000000000 (way c.args.p c.args.q) c.args.e (way_short 1000000000 c.args.p c.args.q c.requires.p c.requires.q) c.requires.e in
    let det_fits : FitsSigned w128 (cross c.args.d c.args.e) = fits _ _ det (omega arith) in
    let n_fits : FitsSigned w128 (cross (way c.args.p c.args.q) c.args.e) = fits _ _ n (omega arith) in
    rw c.cross-det.ensures (simp to_z-of_z c.requires.crosses)

pub returns : goal.returns
returns c =
    let det : IsWithin 8000000000000000000 (cross c.args.d c.args.e) = cross_within 2000000000 2000000000 c.args.d c.args.e c.requires.d c.requires.e in
    let n : IsWithin 8000000000000000000 (cross (way c.args.p c.args.q) c.args.e) =
    cross_within 2000000000 2000000000 (way c.args.p c.args.q) c.args.e (way_short 1000000000 c.args.p c.args.q c.requires.p c.requires.q) c.requires.e in
    let det_fits : FitsSigned w128 (cross c.args.d c.args.e) = fits _ _ det (omega arith) in
    let n_fits : FitsSigned w128 (cross (way c.args.p c.args.q) c.args.e) = fits _ _ n (omega arith) in
    let x : FitsSigned w128 c.crossing_at.result = search rules in
    let y : FitsSigned w128 c.crossing_at-2.result = search rules in
    let det_is : c.cross-det.result ≡ cross c.args.d c.args.e = c.cross-det.ensures in
    let n_is : c.cross-n.result ≡ cross (way c.args.p c.args.q) c.args.e = c.cross-n.ensures ∙ ap (λ v. cross v c.args.e) c.way.ensures.way in
    let p_x : FitsSigned w128 c.args.p.x = omega (arith, ints, c.requires.p.0.0, c.requires.p.0.1) in
    let p_y : FitsSigned w128 c.args.p.y = omega (arith, ints, c.requires.p.1.0, c.requires.p.1.1) in
    let d_x : FitsSigned w128 c.args.d.x = omega (arith, ints, c.requires.d.0.0, c.requires.d.0.1) in
    let d_y : FitsSigned w128 c.args.d.y = omega (arith, ints, c.requires.d.1.0, c.requires.d.1.1) in
    let x_is : c.crossing_at.result ≡ crossing_at c.args.p.x c.args.d.x (cross (way c.args.p c.args.q) c.args.e) (cross c.args.d c.args.e) = simp to_z-of_z at (rw (det_is, n_is) at c.crossing_at.ensures) in
    let y_is : c.crossing_at-2.result ≡ crossing_at c.args.p.y c.args.d.y (cross (way c.args.p c.args.q) c.args.e) (cross c.args.d c.args.e) = simp to_z-of_z at (rw (det_is, n_is) at c.crossing_at-2.ensures) in
    let both : ◌≡◌ {A = Vector} (record { x = c.crossing_at.result; y = c.crossing_at-2.result }) (crossing c.args.p c.args.d c.args.q c.args.e) = rw (x_is, y_is) refl in
    simp to_z-of_z both
