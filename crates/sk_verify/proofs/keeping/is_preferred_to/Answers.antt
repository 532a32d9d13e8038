use Rattle.std.proofs.Common.{subst}
use Rattle.sk_family.specs.declared.Cluster.{Cluster}
use Rattle.sk_family.proofs.Naming.{one_of_name}
use Rattle.sk_tree.specs.LegalPlan.{IsPreferred}
use Rattle.sk_verify.proofs.keeping.is_preferred_to.Goals as goal

pub returns-in-Some : goal.returns-in-Some
returns-in-Some c = (
  λ is b b_is. subst (λ (x : Cluster). IsPreferred c.args.cluster.now x)
      (one_of_name c.args.family.now c.in-Some.ensures.sound c.args.name c.in-Some.other.now b c.in-Some.ensures.some b_is) (c.is_preferred.ensures.0 is),
  λ all. c.is_preferred.ensures.1 (all c.in-Some.other.now c.in-Some.ensures.some),
)
