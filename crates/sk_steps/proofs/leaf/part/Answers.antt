use Rattle.std.proofs.Common.{◌≡◌, ◌<◌, ◌<ℤ◌, ℕ, ℤ, pos, unsigned_abs, FitsSigned, Ok, refl, ap, ◌∙◌, arith, to_z-of_z}
use Rattle.std.specs.Int.{w64}
use Rattle.std.proofs.lemmas.Int.{ints}
use Rattle.sk_interval.specs.Operations.{root, whole}
use Rattle.sk_steps.proofs.LeafLemmas.{below_square, norm, ratio, root-ok, quotient-ok, normal-ok}
use Rattle.sk_steps.proofs.leaf.part.Goals as goal

-- a positive number is that of its size
positive_is : (z : ℤ) → pos 0 <ℤ z → z ≡ pos (unsigned_abs z)
positive_is z h = omega (arith, ints)

root_is : (F : ℕ) (z : ℤ) → pos 0 <ℤ z → root F (whole F z) ≡ Ok (norm F (unsigned_abs z))
root_is F z h = rw (positive_is z h) (root-ok F (unsigned_abs z) (omega (arith, ints)))

pub whole-requires-2 : goal.whole-requires-2
whole-requires-2 g c =
    let few = below_square (unsigned_abs c.args.n) (unsigned_abs c.args.square) c.requires.least in
    omega (arith, ints)

pub unwrap-root-requires : goal.unwrap-root-requires
unwrap-root-requires g c =
    let F : ℕ = g.G.Grid.BITS in
    let s : ℕ = unsigned_abs c.args.square in
    let square_fits : FitsSigned w64 c.args.square = omega (arith, ints, c.requires.positive, c.requires.most) in
    let whole_is : c.whole.result ≡ whole F c.args.square = simp to_z-of_z at c.whole.ensures.value in
    let sqrt_is : c.sqrt.result ≡ Ok (norm F s) = c.sqrt.ensures.value ∙ ap (root F) whole_is ∙ root_is F c.args.square c.requires.positive in
    rw sqrt_is refl

pub unwrap-requires : goal.unwrap-requires
unwrap-requires g c =
    let F : ℕ = g.G.Grid.BITS in
    let s : ℕ = unsigned_abs c.args.square in
    let square_fits : FitsSigned w64 c.args.square = omega (arith, ints, c.requires.positive, c.requires.most) in
    let whole_is : c.whole.result ≡ whole F c.args.square = simp to_z-of_z at c.whole.ensures.value in
    let sqrt_is : c.sqrt.result ≡ Ok (norm F s) = c.sqrt.ensures.value ∙ ap (root F) whole_is ∙ root_is F c.args.square c.requires.positive in
    let positive : 0 < s = omega (arith, ints, c.requires.positive) in
    let n_fits : FitsSigned w64 c.args.n = c.ranges.n in
    let n_is : c.whole-2.result ≡ whole F c.args.n = simp to_z-of_z at c.whole-2.ensures.value in
    let norm_is : c.unwrap-root.result ≡ norm F s = cc in
    let div_is : c.div.result ≡ Ok (ratio F c.args.n s) = (rw (n_is, norm_is) at c.div.ensures.value) ∙ quotient-ok F c.args.n s c.requires.least positive in
    rw div_is refl

pub unwrap-requires-2 : goal.unwrap-requires-2
unwrap-requires-2 g c =
    let F : ℕ = g.G.Grid.BITS in
    let s : ℕ = unsigned_abs c.args.square in
    let square_fits : FitsSigned w64 c.args.square = omega (arith, ints, c.requires.positive, c.requires.most) in
    let whole_is : c.whole.result ≡ whole F c.args.square = simp to_z-of_z at c.whole.ensures.value in
    let sqrt_is : c.sqrt.result ≡ Ok (norm F s) = c.sqrt.ensures.value ∙ ap (root F) whole_is ∙ root_is F c.args.square c.requires.positive in
    let positive : 0 < s = omega (arith, ints, c.requires.positive) in
    let n_fits : FitsSigned w64 c.args.n = c.ranges.n in
    let n_is : c.whole-2.result ≡ whole F c.args.n = simp to_z-of_z at c.whole-2.ensures.value in
    let norm_is : c.unwrap-root.result ≡ norm F s = cc in
    let div_is : c.div.result ≡ Ok (ratio F c.args.n s) = (rw (n_is, norm_is) at c.div.ensures.value) ∙ quotient-ok F c.args.n s c.requires.least positive in
    let ratio_is : c.unwrap.result ≡ ratio F c.args.n s = cc in
    let normal_is : c.normal_box.result ≡ Ok (ratio F c.args.n s) = (rw ratio_is at c.normal_box.ensures.value) ∙ normal-ok F c.args.n s c.requires.least positive in
    rw normal_is refl
