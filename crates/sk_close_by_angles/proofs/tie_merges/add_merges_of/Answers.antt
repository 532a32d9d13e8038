use Rattle.sk_family.proofs.Outcomes.{both_on_ok}
use Rattle.sk_close_by_angles.proofs.Finding.{row_finds, row_in_order}
use Rattle.sk_close_by_angles.proofs.tie_merges.add_merges_of.Goals as goal

pub returns-clause-found : goal.returns-clause-found
returns-clause-found c =
    both_on_ok c.push_all.result c.push_all.ensures c.push_all.ensures (λ appended again g are.
    row_finds g c.args.family.now c.args.cluster.now c.args.others.now c.in_ok-tied.tied.items c.args.found.now c.push_all.new.self appended (c.in_ok-tied.ensures.exactly g are))

pub returns-clause-in_order : goal.returns-clause-in_order
returns-clause-in_order c =
    let (g, are) = c.requires.classes in
    both_on_ok c.push_all.result c.push_all.ensures c.push_all.ensures (λ appended again rise.
    row_in_order g c.args.family.now c.args.cluster.now c.args.others.now c.in_ok-tied.tied.items c.args.found.now c.push_all.new.self appended (c.in_ok-tied.ensures.in_order rise))
