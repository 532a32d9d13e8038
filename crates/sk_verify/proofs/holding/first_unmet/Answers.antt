use Rattle.sk_tolerance.specs.Tolerances.{normals, constraints}
use Rattle.sk_verify.proofs.Measuring.{measured_behind}
use Rattle.sk_verify.proofs.holding.first_unmet.Goals as goal

pub returns-in-None : goal.returns-in-None
returns-in-None c = measured_behind c.args.claim.now (normals c.args.g.now.nodes) (constraints c.args.g.now) c.constraint_off.result c.in-None.ensures c.constraint_off.ensures
