use Rattle.std.proofs.Common.{◌≡◌, [], ◌∷◌, subst, arith}
use Rattle.sk_family.specs.declared.Cluster.{Cluster}
use Rattle.sk_tree.specs.LegalPlan.{HasNodes}
use Rattle.sk_verify.proofs.Fronts.{one_alone}
use Rattle.sk_verify.proofs.whole.is_all_in_one.Goals as goal

pub returns-in-len1 : goal.returns-in-len1
returns-in-len1 c =
    let alone : c.args.clusters.now ≡ c.only-item.result ∷ [] = one_alone c.args.clusters.now c.only-item.result (omega arith) c.only-item.is in (
      λ is. (c.only-item.result, alone, c.has_nodes.ensures.0 is),
      λ h. c.has_nodes.ensures.1 (let same : h.0 ≡ c.only-item.result = (let both = h.1 in cc) in subst (λ (x : Cluster). HasNodes c.args.g.now x) same h.2),
    )
