use Rattle.std.proofs.Common.{◌≡◌, max, unsigned_abs, FitsSigned, rules, subst, arith, to_z-of_z}
use Rattle.std.specs.Int.{w128}
use Rattle.std.proofs.lemmas.Int.{ints}
use Rattle.sk_frame.specs.Turns.{scaled_part}
use Rattle.sk_frame.proofs.Digits.{IsHighest, scaled_turns}
use Rattle.sk_frame.proofs.scaling.scaled.Goals as goal

pub returns-clause-turn : goal.returns-clause-turn
returns-clause-turn c =
    let x : FitsSigned w128 c.scaled_part.result = search rules in
    let y : FitsSigned w128 c.scaled_part-2.result = search rules in
    let v_x : FitsSigned w128 c.args.v.x = omega (arith, ints, c.requires.short.0.0, c.requires.short.0.1) in
    let v_y : FitsSigned w128 c.args.v.y = omega (arith, ints, c.requires.short.1.0, c.requires.short.1.1) in
    let digit = c.highest_digit-digit in
    let greater : c.max.result ≡ max (unsigned_abs c.args.v.x) (unsigned_abs c.args.v.y) = simp to_z-of_z at (rw (c.unsigned_abs.ensures.value, c.unsigned_abs-2.ensures.value) at c.max.ensures) in
    let is : IsHighest (max (unsigned_abs c.args.v.x) (unsigned_abs c.args.v.y)) digit.result =
    subst (λ m. IsHighest m digit.result) greater (record { below = digit.ensures.below; above = digit.ensures.above; few = digit.ensures.few }) in
    let x_is : c.scaled_part.result ≡ scaled_part digit.result c.args.v.x = simp to_z-of_z at c.scaled_part.ensures in
    let y_is : c.scaled_part-2.result ≡ scaled_part digit.result c.args.v.y = simp to_z-of_z at c.scaled_part-2.ensures in
    simp to_z-of_z (rw (x_is, y_is) (scaled_turns c.args.v digit.result is))
