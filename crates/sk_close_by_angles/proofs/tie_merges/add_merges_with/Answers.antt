use Rattle.sk_family.proofs.Outcomes.{both_on_ok}
use Rattle.sk_close_by_angles.proofs.Finding.{found_read}
use Rattle.sk_close_by_angles.proofs.tie_merges.add_merges_with.Goals as goal

pub returns-clause-found : goal.returns-clause-found
returns-clause-found c =
    let graph = c.args.graph.now in
    let family = c.args.family.now in
    both_on_ok c.add_merges_of.result c.add_merges_of.ensures.found c.add_merges_of.ensures.found (λ finds again.
    found_read graph family c.requires.sound c.args.cluster.now c.as_slice.result.now c.as_slice.ensures c.in_ok-points.points c.in_ok-points.ensures c.as_slice-2.result.now c.as_slice-2.ensures
    c.in_ok-others.others.items (c.in_ok-others.ensures.exactly graph family c.requires.follows) c.as_slice-3.result.now c.as_slice-3.ensures.value c.args.found.now c.add_merges_of.new.found
    (finds graph c.requires.classes))
