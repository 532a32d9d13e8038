use Rattle.std.proofs.Common.{refl, rules}
use Rattle.std.proofs.lemmas.List.Elements.{Contains-get_or}
use Rattle.sk_base.specs.declared.Name.{Name}
use Rattle.sk_base.specs.declared.Name.TheVariants.{Con}
use Rattle.sk_family.specs.declared.Cluster.{Cluster}
use Rattle.sk_family.specs.Clusters.{IsNamed}
use Rattle.sk_tree.specs.LegalPlan.{IsPreferred}
use Rattle.sk_verify.proofs.Fronts.{all_more, all_there}
use Rattle.sk_verify.proofs.keeping.is_preferred_to_all.Goals as goal

pub returns-then-not-is_preferred_to : goal.returns-then-not-is_preferred_to
returns-then-not-is_preferred_to c = (
  λ never. absurd (cc),
  λ all. (let is = c.is_preferred_to.ensures.1 (λ b b_is. all _ b (Contains-get_or c.args.names.now c.loop-name.name-index (Con 0) c.loop-name-test.true) b_is) in absurd (cc)),
)

pub loop-name-preserved : goal.loop-name-preserved
loop-name-preserved c =
    all_more (λ (n : Name). (b : Cluster) → IsNamed c.args.family.now n b → IsPreferred c.args.cluster.now b) c.args.names.now c.loop-name.name-index (Con 0) c.loop-name-test.true c.loop-name.invariant (c.is_preferred_to.ensures.0 (search rules))

pub returns : goal.returns
returns c = (
  λ is n b n_in b_is. all_there (λ (m : Name). (d : Cluster) → IsNamed c.args.family.now m d → IsPreferred c.args.cluster.now d) c.args.names.now c.loop-name.name-index c.loop-name-test.false c.loop-name.invariant n n_in b b_is,
  λ all. refl,
)
