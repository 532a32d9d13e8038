-- A sound graph has one judgement, that on each of its normal families.
use Rattle.std.proofs.Common.{◌≡◌, ◌≢◌, List, subst}
use Rattle.sk_base.specs.declared.Graph.{Graph}
use Rattle.sk_base.specs.SoundGraph.{IsSoundGraph}
use Rattle.sk_family.specs.Body.{Body}
use Rattle.sk_rules.specs.Reach.{IsNormal}
use Rattle.sk_rules.proofs.NormalForm.{normal_same}
use Rattle.sk_verdict.specs.declared.Judgement.{Judgement}
use Rattle.sk_verdict.specs.declared.Verdict.TheVariants.{Well}
use Rattle.sk_verdict.specs.Judging.{IsJudgement}
use Rattle.sk_verdict.proofs.Judgements.{judgement_moves, same_judgement}
use Rattle.sk_plan.specs.Judged.{IsTheJudgement, IsWell}

-- that on one normal family is that on each
pub the_judgement : (g : Graph) (f : List Body) (j : Judgement) → IsSoundGraph g → IsNormal g f → IsJudgement g f j → IsTheJudgement g j
the_judgement g f j sound normal judged = record {
  normal = f;
  is_normal = normal;
  every = λ other other_is. judgement_moves g f other j (normal_same g f other sound.edges_rise normal other_is) judged;
}

pub one_judgement : (g : Graph) (j k : Judgement) → IsTheJudgement g j → IsTheJudgement g k → j ≡ k
one_judgement g j k first second =
    same_judgement g first.normal first.normal j k (λ x. ((λ h. h), (λ h. h))) (first.every first.normal first.is_normal) (second.every first.normal first.is_normal)

-- so where the verdict is well, no judgement says otherwise
pub well_alone : (g : Graph) (j : Judgement) → IsWell g → IsTheJudgement g j → j.verdict ≢ Well → ⊥
well_alone g j (k, told, well) judged not_well = not_well (subst (λ (z : Judgement). z.verdict ≡ Well) (one_judgement g k j told judged) well)
