use Rattle.std.proofs.Common.{◌+◌, ◌<◌, ℕ, List, sym, subst, length, arith}
use Rattle.sk_lines.specs.Lines.{lines_in}
use Rattle.sk_flips.specs.FlipReading.{ReadsFlips}
use Rattle.sk_answers.proofs.Behind.{rest_of}
use Rattle.sk_cli.proofs.FlipsAnswered.{flips_answered}
use Rattle.sk_cli.proofs.flips.flips.Goals as goal

pub read_flips-requires : goal.read_flips-requires
read_flips-requires c =
    subst (λ (rest : List ℕ). c.in-Ok.front.lines + length (lines_in rest) < 4294967295) (sym (rest_of c.in-Ok.front.used c.args.bytes.now))
    (let few = c.in-Ok.ensures.lines in let fits = c.in-Ok.ensures.reads.fits in omega (arith, few, fits))

pub returns-in-Ok-read_flips : goal.returns-in-Ok-read_flips
returns-in-Ok-read_flips c =
    flips_answered c.args.request c.args.bytes.now c.in-Ok.front c.in-Ok-read_flips.lists c.flipped.result
    (c.in-Ok.ensures.reads, subst (λ (rest : List ℕ). ReadsFlips rest c.in-Ok-read_flips.lists) (rest_of c.in-Ok.front.used c.args.bytes.now) c.in-Ok-read_flips.ensures.reads)
    c.flipped.ensures
