use Rattle.std.proofs.Common.{sym, ◌∙◌, arith}
use Rattle.std.proofs.lemmas.Fmt.{decimal_injective}
use Rattle.sk_request.proofs.settings.number_between.Goals as goal

pub returns-in_default-clause-none : goal.returns-in_default-clause-none
returns-in_default-clause-none c number is =
    let below = c.in-Some.ensures.below in
    let same = decimal_injective number c.in-Some.number (omega (arith, is.2, c.requires)) (omega (arith, below)) (sym is.0 ∙ c.in-Some.ensures.some) in
    omega (arith, same, is.2, c.if-number-most.false)

pub returns-in_default-2-clause-none : goal.returns-in_default-2-clause-none
returns-in_default-2-clause-none c number is =
    let below = c.in-Some.ensures.below in
    let same = decimal_injective number c.in-Some.number (omega (arith, is.2, c.requires)) (omega (arith, below)) (sym is.0 ∙ c.in-Some.ensures.some) in
    omega (arith, same, is.1, c.if-number-least.false)
