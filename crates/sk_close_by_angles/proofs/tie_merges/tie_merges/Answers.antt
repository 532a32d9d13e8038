use Rattle.std.proofs.Common.{◌≡◌, ◌<◌, ◌≤◌, List, subst, length, get_or}
use Rattle.sk_family.specs.declared.Cluster.{Cluster}
use Rattle.sk_close_by_angles.proofs.Finding.{found_next, all_below, found_by_all, all_found}
use Rattle.sk_close_by_angles.proofs.tie_merges.tie_merges.Goals as goal

pub loop-cluster-preserved : goal.loop-cluster-preserved
loop-cluster-preserved c =
    let live = c.args.family.now.live in
    let i = c.loop-cluster.cluster-index in
    let here = c.cluster-item.result in
    let all = c.clusters-cluster-items.ensures.live in
    let i_in : i < length live = subst (λ (cs : List Cluster). i < length cs) all c.loop-cluster-test.true in
    let here_is : here ≡ get_or live i here = subst (λ (cs : List Cluster). here ≡ get_or cs i here) all c.cluster-item.is in
    let so_far = c.loop-cluster.invariant in
    let graph = c.args.graph.now in
    let family = c.args.family.now in
    let sound = c.clusters-cluster-items.ensures.sound in
    let mid = c.loop-cluster.found in
    let new = c.add_merges_with.new.found in
    record {
      found = found_next graph family live i here i_in here_is mid new so_far.found c.in_ok-add_merges_with.ensures.found;
      in_order = c.in_ok-add_merges_with.ensures.in_order so_far.in_order (all_below graph family live i here i_in here_is mid new so_far.found sound.names_rise);
    }

pub returns-clause-merges : goal.returns-clause-merges
returns-clause-merges c =
    let live = c.args.family.now.live in
    let i = c.loop-cluster.cluster-index in
    let over : length live ≤ i = subst (λ (cs : List Cluster). length cs ≤ i) c.clusters-cluster-items.ensures.live c.loop-cluster-test.false in
    all_found c.args.graph.now c.args.family.now c.clusters-cluster-items.ensures.sound c.loop-cluster.found c.loop-cluster.invariant.in_order
    (found_by_all c.args.graph.now c.args.family.now live i over c.loop-cluster.found c.loop-cluster.invariant.found)
