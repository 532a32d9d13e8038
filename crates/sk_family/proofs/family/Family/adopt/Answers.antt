use Rattle.sk_family.specs.Body.{edge_start}
use Rattle.sk_family.proofs.GraphStarts.{edge_rises}
use Rattle.sk_family.proofs.Starting.{when_put}
use Rattle.sk_family.proofs.family.Family.adopt.Goals as goal

pub put_start-requires-clause-start : goal.put_start-requires-clause-start
put_start-requires-clause-start c = (edge_start c.args.edge.now, c.in_ok-start.ensures, edge_rises c.args.edge.now, c.requires.free)

pub returns-clause-ok : goal.returns-clause-ok
returns-clause-ok c = when_put c.put_start.result (edge_start c.args.edge.now) _ _ _ c.in_ok-start.ensures c.put_start.ensures.ok
