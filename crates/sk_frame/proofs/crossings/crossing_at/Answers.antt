use Rattle.std.proofs.Common.{◌≡◌, pos, ◌+ℤ◌, ◌*ℤ◌, FitsSigned, rules, arith, to_z-of_z}
use Rattle.std.specs.Int.{w128}
use Rattle.std.proofs.lemmas.Int.{ints}
use Rattle.sk_frame.specs.Crossings.{crossing_at}
use Rattle.sk_frame.proofs.Meetings.{AreFitting, fitting}
use Rattle.sk_frame.proofs.crossings.crossing_at.Goals as goal

pub overflow_add-p : goal.overflow_add-p
overflow_add-p c =
    let fit : AreFitting c.args.p c.args.d c.args.n c.args.det = fitting c.args.p c.args.d c.args.n c.args.det c.requires.p c.requires.d c.requires.n c.requires.det in
    let p : FitsSigned w128 c.args.p = omega (arith, ints, c.requires.p.0, c.requires.p.1) in
    let d : FitsSigned w128 c.args.d = omega (arith, ints, c.requires.d.0, c.requires.d.1) in
    let n : FitsSigned w128 c.args.n = omega (arith, ints, c.requires.n.0, c.requires.n.1) in
    let det : FitsSigned w128 c.args.det = omega (arith, ints, c.requires.det.0, c.requires.det.1) in
    let along : FitsSigned w128 (c.args.p *ℤ c.args.det) = fit.along in
    let across : FitsSigned w128 (c.args.d *ℤ c.args.n) = fit.across in
    simp to_z-of_z fit.total

pub overflow_mul-p-2 : goal.overflow_mul-p-2
overflow_mul-p-2 c =
    let fit : AreFitting c.args.p c.args.d c.args.n c.args.det = fitting c.args.p c.args.d c.args.n c.args.det c.requires.p c.requires.d c.requires.n c.requires.det in
    let p : FitsSigned w128 c.args.p = omega (arith, ints, c.requires.p.0, c.requires.p.1) in
    let d : FitsSigned w128 c.args.d = omega (arith, ints, c.requires.d.0, c.requires.d.1) in
    let n : FitsSigned w128 c.args.n = omega (arith, ints, c.requires.n.0, c.requires.n.1) in
    let det : FitsSigned w128 c.args.det = omega (arith, ints, c.requires.det.0, c.requires.det.1) in
    let along : FitsSigned w128 (c.args.p *ℤ c.args.det) = fit.along in
    let across : FitsSigned w128 (c.args.d *ℤ c.args.n) = fit.across in
    let total : FitsSigned w128 ((c.args.p *ℤ c.args.det) +ℤ (c.args.d *ℤ c.args.n)) = fit.total in
    simp to_z-of_z fit.all

pub nearest_ratio-requires-clause-n : goal.nearest_ratio-requires-clause-n
nearest_ratio-requires-clause-n c =
    let fit : AreFitting c.args.p c.args.d c.args.n c.args.det = fitting c.args.p c.args.d c.args.n c.args.det c.requires.p c.requires.d c.requires.n c.requires.det in
    let p : FitsSigned w128 c.args.p = omega (arith, ints, c.requires.p.0, c.requires.p.1) in
    let d : FitsSigned w128 c.args.d = omega (arith, ints, c.requires.d.0, c.requires.d.1) in
    let n : FitsSigned w128 c.args.n = omega (arith, ints, c.requires.n.0, c.requires.n.1) in
    let det : FitsSigned w128 c.args.det = omega (arith, ints, c.requires.det.0, c.requires.det.1) in
    let along : FitsSigned w128 (c.args.p *ℤ c.args.det) = fit.along in
    let across : FitsSigned w128 (c.args.d *ℤ c.args.n) = fit.across in
    let total : FitsSigned w128 ((c.args.p *ℤ c.args.det) +ℤ (c.args.d *ℤ c.args.n)) = fit.total in
    let all : FitsSigned w128 (pos 1000 *ℤ ((c.args.p *ℤ c.args.det) +ℤ (c.args.d *ℤ c.args.n))) = fit.all in
    simp to_z-of_z fit.few

pub returns : goal.returns
returns c =
    let fit : AreFitting c.args.p c.args.d c.args.n c.args.det = fitting c.args.p c.args.d c.args.n c.args.det c.requires.p c.requires.d c.requires.n c.requires.det in
    let p : FitsSigned w128 c.args.p = omega (arith, ints, c.requires.p.0, c.requires.p.1) in
    let d : FitsSigned w128 c.args.d = omega (arith, ints, c.requires.d.0, c.requires.d.1) in
    let n : FitsSigned w128 c.args.n = omega (arith, ints, c.requires.n.0, c.requires.n.1) in
    let det : FitsSigned w128 c.args.det = omega (arith, ints, c.requires.det.0, c.requires.det.1) in
    let along : FitsSigned w128 (c.args.p *ℤ c.args.det) = fit.along in
    let across : FitsSigned w128 (c.args.d *ℤ c.args.n) = fit.across in
    let total : FitsSigned w128 ((c.args.p *ℤ c.args.det) +ℤ (c.args.d *ℤ c.args.n)) = fit.total in
    let all : FitsSigned w128 (pos 1000 *ℤ ((c.args.p *ℤ c.args.det) +ℤ (c.args.d *ℤ c.args.n))) = fit.all in
    let r : FitsSigned w128 c.nearest_ratio.result = search rules in
    let is : c.nearest_ratio.result ≡ crossing_at c.args.p c.args.d c.args.n c.args.det = simp to_z-of_z at c.nearest_ratio.ensures in
    simp to_z-of_z is
