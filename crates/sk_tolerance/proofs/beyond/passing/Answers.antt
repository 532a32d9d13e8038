use Rattle.std.proofs.Common.{◌≤◌, ◌<◌, arith}
use Rattle.std.proofs.lemmas.Bool.Decides.{nat_tests}
use Rattle.sk_tolerance.proofs.Passings.{all_one, beyond_one}
use Rattle.sk_tolerance.proofs.beyond.passing.Goals as goal

pub returns-then-least-limit : goal.returns-then-least-limit
returns-then-least-limit c = λ p item own named. (let above : c.args.limit < c.args.least = grind (arith, nat_tests) in beyond_one p c.args.limit item c.args.at c.args.least own named above)

pub returns-else-least-limit : goal.returns-else-least-limit
returns-else-least-limit c = λ p item own named. (let within : c.args.least ≤ c.args.limit = grind (arith, nat_tests) in all_one p c.args.limit item c.args.least own within)
