use Rattle.std.proofs.Common.{◌≤◌, arith}
use Rattle.std.proofs.lemmas.Bool.Decides.{nat_tests}
use Rattle.sk_measure.specs.Items.{normal}
use Rattle.sk_measure.proofs.Widening.{holds_more}
use Rattle.sk_measure.proofs.holding.meets_normal.Goals as goal

pub returns : goal.returns
returns c = (
  λ is. (let least = c.own_least_of_normal.result in let le : least ≤ c.args.w = grind (arith, nat_tests) in holds_more c.args.p.now (normal c.args.line) least c.args.w le c.own_least_of_normal.ensures.holds),
  λ holds. (let le : c.own_least_of_normal.result ≤ c.args.w = c.own_least_of_normal.ensures.least c.args.w holds in grind (arith, nat_tests)),
)
