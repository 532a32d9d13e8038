-- The judgement on a graph: that on each of its normal families, which all hold the same bodies.
use Rattle.std.specs.Prelude.{◌≡◌, ◌≢◌, ◌*◌, ◌-◌, List, length}
use Rattle.sk_base.specs.declared.Graph.{Graph}
use Rattle.sk_family.specs.Body.{Body}
use Rattle.sk_rules.specs.Excess.{weight_of}
use Rattle.sk_rules.specs.Reach.{IsNormal}
use Rattle.sk_tree.specs.LegalPlan.{numbers_of}
use Rattle.sk_verdict.specs.declared.Judgement.{Judgement}
use Rattle.sk_verdict.specs.declared.Verdict.TheVariants.{Well}
use Rattle.sk_verdict.specs.Judging.{IsJudgement}
use Rattle.sk_plan.specs.declared.error.PlanError.{PlanError}
use Rattle.sk_plan.specs.declared.error.PlanError.TheVariants.{NotWell, NoMemory}

-- the judgement on a normal family of the graph, and so on every one
pub record IsTheJudgement (g : Graph) (j : Judgement) : Type 0 where
  pub normal : List Body
  pub is_normal : IsNormal g normal
  pub every : (f : List Body) → IsNormal g f → IsJudgement g f j

-- the verdict on the graph is well
abbrev pub IsWell : Graph → Type 0
IsWell g = (j : Judgement) × IsTheJudgement g j × (j.verdict ≡ Well)

-- all constraints together weigh just what is due for all elements: 2n - 3 for n of them, nothing for one
abbrev pub HoldsWhatIsDue : Graph → Type 0
HoldsWhatIsDue g = weight_of g (numbers_of g) ≡ 2 * length g.nodes - 3

-- where there is no plan, but memory, the judgement on the graph is told, and its verdict isn't well
abbrev pub TellsWhy : Graph → PlanError → Type 0
TellsWhy g (NotWell j) = IsTheJudgement g j × (j.verdict ≢ Well)
TellsWhy g NoMemory = Unit {0}
