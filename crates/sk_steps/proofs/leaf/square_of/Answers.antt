use Rattle.std.proofs.Common.{◌≡◌, ◌≤◌, ℤ, ◌+ℤ◌, ◌*ℤ◌, unsigned_abs, FitsSigned, refl, arith, to_z-of_z}
use Rattle.std.specs.Int.{w32, w64}
use Rattle.std.proofs.lemmas.Int.{ints, fits_signed_mul}
use Rattle.sk_interval.proofs.AroundLemmas.{size_of_bounds}
use Rattle.sk_steps.proofs.LeafLemmas.{IsSquare, square_within}
use Rattle.sk_steps.proofs.leaf.square_of.Goals as goal

pub overflow_add-result : goal.overflow_add-result
overflow_add-result c =
    let p : ℤ = c.args.ratio.p in
    let q : ℤ = c.args.ratio.q in
    let p_within = size_of_bounds p 10000 c.requires.1.0 c.requires.1.1 in
    let q_within : unsigned_abs q ≤ 10000 = omega (arith, ints, c.requires.2) in
    let p_fits_32 : FitsSigned w32 p = omega (arith, ints, p_within) in
    let q_fits_32 : FitsSigned w32 q = omega (arith, ints, q_within) in
    let p_is : c.from-p.result ≡ p = simp to_z-of_z at c.from-p.ensures in
    let q_is : c.from-q.result ≡ q = simp to_z-of_z at c.from-q.ensures in
    let p_fits : FitsSigned w64 p = omega (arith, ints, p_within) in
    let q_fits : FitsSigned w64 q = omega (arith, ints, q_within) in
    let pp_fits : FitsSigned w64 (p *ℤ p) = fits_signed_mul w64 p p 10000 10000 p_within p_within (omega arith) in
    let qq_fits : FitsSigned w64 (q *ℤ q) = fits_signed_mul w64 q q 10000 10000 q_within q_within (omega arith) in
    let is : IsSquare p q ((p *ℤ p) +ℤ (q *ℤ q)) = square_within p q c.requires.0 p_within q_within in
    let fits : FitsSigned w64 ((p *ℤ p) +ℤ (q *ℤ q)) = omega (arith, ints, is.positive, is.most) in
    rw (p_is, q_is) (simp to_z-of_z fits)

pub returns : goal.returns
returns c =
    let p : ℤ = c.args.ratio.p in
    let q : ℤ = c.args.ratio.q in
    let p_within = size_of_bounds p 10000 c.requires.1.0 c.requires.1.1 in
    let q_within : unsigned_abs q ≤ 10000 = omega (arith, ints, c.requires.2) in
    let p_fits_32 : FitsSigned w32 p = omega (arith, ints, p_within) in
    let q_fits_32 : FitsSigned w32 q = omega (arith, ints, q_within) in
    let p_is : c.from-p.result ≡ p = simp to_z-of_z at c.from-p.ensures in
    let q_is : c.from-q.result ≡ q = simp to_z-of_z at c.from-q.ensures in
    let p_fits : FitsSigned w64 p = omega (arith, ints, p_within) in
    let q_fits : FitsSigned w64 q = omega (arith, ints, q_within) in
    let pp_fits : FitsSigned w64 (p *ℤ p) = fits_signed_mul w64 p p 10000 10000 p_within p_within (omega arith) in
    let qq_fits : FitsSigned w64 (q *ℤ q) = fits_signed_mul w64 q q 10000 10000 q_within q_within (omega arith) in
    let is : IsSquare p q ((p *ℤ p) +ℤ (q *ℤ q)) = square_within p q c.requires.0 p_within q_within in
    let fits : FitsSigned w64 ((p *ℤ p) +ℤ (q *ℤ q)) = omega (arith, ints, is.positive, is.most) in
    rw (p_is, q_is) (simp to_z-of_z (record { value = refl; positive = is.positive; most = is.most; p_least = is.p_least; q_least = is.q_least }))
