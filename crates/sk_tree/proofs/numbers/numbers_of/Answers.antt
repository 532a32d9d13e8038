use Rattle.std.proofs.Common.{◌≡◌, List, subst}
use Rattle.std.specs.Prelude.{IfOk}
use Rattle.sk_base.specs.declared.ConId.{ConId}
use Rattle.sk_tree.proofs.OwnedNumbers.{owned_numbers}
use Rattle.sk_tree.proofs.numbers.numbers_of.Goals as goal

pub returns : goal.returns
returns c =
    subst (λ (ks : List ConId). IfOk c.owned_by.result (λ owned. owned ≡ ks))
    (owned_numbers c.args.graph.now c.in_ok-family.family c.clusters.result.now c.in_ok-family.ensures.clusters c.clusters.ensures.live)
    c.owned_by.ensures
