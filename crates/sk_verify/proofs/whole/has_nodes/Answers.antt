use Rattle.std.proofs.Common.{List, get_or, refl, subst, rules}
use Rattle.std.specs.Prelude.{Contains}
use Rattle.std.proofs.lemmas.List.Elements.{Contains-get_or}
use Rattle.sk_base.specs.declared.Node.{Node}
use Rattle.sk_measure.proofs.Placings.{any_node}
use Rattle.sk_verify.proofs.Fronts.{all_more, all_there}
use Rattle.sk_verify.proofs.whole.has_nodes.Goals as goal

pub returns-then-not-has_elem : goal.returns-then-not-has_elem
returns-then-not-has_elem c = (
  λ never. absurd (cc),
  λ all. (let is = c.has_elem.ensures.1 (let n : Node = get_or c.as_slice-node-items.result.now c.loop-node.node-index any_node in all n (subst (λ (ns : List Node). Contains ns n) c.as_slice-node-items.ensures (Contains-get_or c.as_slice-node-items.result.now c.loop-node.node-index any_node c.loop-node-test.true))) in absurd (cc)),
)

pub loop-node-preserved : goal.loop-node-preserved
loop-node-preserved c =
    all_more (λ (n : Node). Contains c.args.cluster.now.elements n.elem) c.as_slice-node-items.result.now c.loop-node.node-index any_node c.loop-node-test.true c.loop-node.invariant (c.has_elem.ensures.0 (search rules))

pub returns : goal.returns
returns c = (
  λ is n n_in. all_there (λ (m : Node). Contains c.args.cluster.now.elements m.elem) c.as_slice-node-items.result.now c.loop-node.node-index c.loop-node-test.false c.loop-node.invariant n (rw c.as_slice-node-items.ensures n_in),
  λ all. refl,
)
