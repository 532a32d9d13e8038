use Rattle.std.specs.Prelude.{take}
use Rattle.sk_base.specs.declared.Name.{Name}
use Rattle.sk_family.specs.declared.Cluster.{Cluster}
use Rattle.sk_family.specs.Clusters.{IsNamed}
use Rattle.sk_tree.specs.LegalPlan.{IsPreferred}
use Rattle.sk_verify.proofs.Fronts.{AllOf}
use Rattle.sk_verify.proofs.keeping.is_preferred_to_all.Given as goal

-- the cluster is preferred to those named so far
abbrev pub invariant-loop-name : goal.invariant-loop-name
invariant-loop-name l = AllOf (λ (n : Name). (b : Cluster) → IsNamed l.family n b → IsPreferred l.cluster b) (take l.name-index l.names)
