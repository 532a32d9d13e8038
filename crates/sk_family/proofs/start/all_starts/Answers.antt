use Rattle.std.proofs.Common.{◌≡◌, ◌++◌, List, ap, sym, subst, ◌∙◌}
use Rattle.std.specs.Prelude.{AllPairs, map}
use Rattle.std.specs.List.Sorted.{IsPermutation}
use Rattle.sk_base.specs.declared.Block.{Block}
use Rattle.sk_base.specs.declared.Edge.{Edge}
use Rattle.sk_family.specs.declared.cluster.Cluster.{Cluster}
use Rattle.sk_family.specs.Body.{block_start}
use Rattle.sk_family.specs.Clusters.{start_of}
use Rattle.sk_family.proofs.Sorting.{HaveOtherNames}
use Rattle.sk_family.proofs.InOrder.{edge_cluster, made, made_differ, made_sorted}
use Rattle.sk_family.proofs.start.all_starts.Goals as goal
use Rattle.sk_family.proofs.start.all_starts.Goals.{In_ok-push_blocks}

all_made : (c : In_ok-push_blocks) → c.push_blocks.new.all.items ≡ made c.args.graph.now
all_made c =
    c.in_ok-push_blocks.ensures
    ∙ ap (λ (bs : List Block). c.in_ok-all.all.items ++ map (λ (b : Block). start_of (block_start b)) bs) c.as_slice-2.ensures
    ∙ ap (λ (cs : List Cluster). cs ++ map (λ (b : Block). start_of (block_start b)) c.args.graph.now.blocks)
    (c.in_ok-all.ensures ∙ ap (λ (es : List Edge). map edge_cluster es) c.as_slice.ensures)

pub put_in_order-requires : goal.put_in_order-requires
put_in_order-requires c =
    subst (AllPairs HaveOtherNames) (sym (all_made (goal.at.put_in_order-requires c).In_ok-push_blocks)) (made_differ c.args.graph.now c.requires)

pub returns : goal.returns
returns c =
    made_sorted c.args.graph.now c.requires c.put_in_order.new.clusters.items
    (subst (λ (cs : List Cluster). IsPermutation cs c.put_in_order.new.clusters.items) (all_made (goal.at.returns c).In_ok-push_blocks) c.put_in_order.ensures.same) c.put_in_order.ensures.rise
