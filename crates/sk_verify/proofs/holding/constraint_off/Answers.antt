use Rattle.sk_tolerance.specs.Tolerances.{rigid, between, constraints}
use Rattle.sk_tolerance.proofs.Merging.{merged_constraints}
use Rattle.sk_verify.proofs.Measuring.{measured_merged}
use Rattle.sk_verify.proofs.holding.constraint_off.Goals as goal

pub returns : goal.returns
returns c =
    let g = c.args.g.now in
    rw c.earlier.ensures
    (measured_merged c.args.claim.now (rigid g.blocks) (between g.edges) (constraints g) (merged_constraints g c.requires.sound) c.block_off.result c.edge_off.result
    c.block_off.ensures c.edge_off.ensures)
