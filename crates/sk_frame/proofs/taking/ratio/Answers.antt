use Rattle.std.proofs.Common.{◌≡◌, ℕ, pos, FitsSigned, Ok, refl, ◌∙◌, arith, to_z-of_z}
use Rattle.std.specs.Int.{w64, w128}
use Rattle.std.proofs.lemmas.Int.{ints}
use Rattle.sk_interval.specs.Operations.{whole}
use Rattle.sk_interval.proofs.AroundLemmas.{size_of_bounds}
use Rattle.sk_frame.specs.FrameMotions.{ratio}
use Rattle.sk_frame.proofs.Ratios.{ratio_is}
use Rattle.sk_frame.proofs.taking.ratio.Goals as goal

pub unwrap-requires : goal.unwrap-requires
unwrap-requires g c =
    let F : ℕ = g.G.Grid.BITS in
    let small = size_of_bounds c.args.n 1000000000000 c.requires.n.0 c.requires.n.1 in
    let n_fits : FitsSigned w64 c.args.n = omega (arith, ints, small) in
    let n_wide : FitsSigned w128 c.args.n = omega (arith, ints, small) in
    let d_fits : FitsSigned w64 (pos c.args.d) = omega (arith, ints, c.requires.d) in
    let n_is : c.whole.result ≡ whole F c.args.n = simp to_z-of_z at c.whole.ensures.value in
    let d_is : c.whole-2.result ≡ whole F (pos c.args.d) = simp to_z-of_z at (rw c.from.ensures at c.whole-2.ensures.value) in
    let div_is : c.div.result ≡ Ok (ratio F c.args.d c.args.n) = (rw (n_is, d_is) at c.div.ensures.value) ∙ ratio_is F c.args.n c.args.d c.requires.positive small in
    rw div_is refl

pub returns : goal.returns
returns g c =
    let F : ℕ = g.G.Grid.BITS in
    let small = size_of_bounds c.args.n 1000000000000 c.requires.n.0 c.requires.n.1 in
    let n_fits : FitsSigned w64 c.args.n = omega (arith, ints, small) in
    let n_wide : FitsSigned w128 c.args.n = omega (arith, ints, small) in
    let d_fits : FitsSigned w64 (pos c.args.d) = omega (arith, ints, c.requires.d) in
    let n_is : c.whole.result ≡ whole F c.args.n = simp to_z-of_z at c.whole.ensures.value in
    let d_is : c.whole-2.result ≡ whole F (pos c.args.d) = simp to_z-of_z at (rw c.from.ensures at c.whole-2.ensures.value) in
    let div_is : c.div.result ≡ Ok (ratio F c.args.d c.args.n) = (rw (n_is, d_is) at c.div.ensures.value) ∙ ratio_is F c.args.n c.args.d c.requires.positive small in
    cc
