use Rattle.std.proofs.Common.{◌+◌, ◌<◌, ℕ, List, sym, subst, length, arith}
use Rattle.sk_lines.specs.Lines.{lines_in}
use Rattle.sk_answers.proofs.Behind.{rest_of}
use Rattle.sk_answers.proofs.claims.claimed.Goals as goal

pub read_claim-requires : goal.read_claim-requires
read_claim-requires c =
    subst (λ (rest : List ℕ). c.in-Ok.front.lines + length (lines_in rest) < 4294967295) (sym (rest_of c.in-Ok.front.used c.args.bytes.now))
    (let few = c.in-Ok.ensures.lines in let fits = c.in-Ok.ensures.reads.fits in omega (arith, few, fits))
