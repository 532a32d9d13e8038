-- A sketch has one verdict.
use Rattle.std.proofs.Common.{◌≡◌, ◌≢◌, ap, sym, ◌∙◌}
use Rattle.sk_base.specs.declared.Graph.{Graph}
use Rattle.sk_verdict.specs.declared.Judgement.{Judgement}
use Rattle.sk_verdict.specs.declared.Verdict.{Verdict}
use Rattle.sk_verdict.specs.declared.Verdict.TheVariants.{Well, Over, Several}
use Rattle.sk_plan.specs.Judged.{IsTheJudgement, IsWell}
use Rattle.sk_plan.proofs.TheJudgement.{one_judgement, well_alone}
use Rattle.sk_complete.specs.Completions.{HasVerdict}

pub one_verdict : (g : Graph) (j : Judgement) (verdict : Verdict) → IsTheJudgement g j → HasVerdict g verdict → j.verdict ≡ verdict
one_verdict g j verdict judged (k, told, is) = ap (λ (z : Judgement). z.verdict) (one_judgement g j k judged told) ∙ is

pub over_not_well : (g : Graph) (j : Judgement) → IsTheJudgement g j → j.verdict ≡ Over → ¬ IsWell g
over_not_well g j judged is well = well_alone g j well judged (λ same. (let never : Over ≡ Well = sym is ∙ same in absurd (cc)))

pub several_not_well : (g : Graph) (j : Judgement) → IsTheJudgement g j → j.verdict ≡ Several → ¬ IsWell g
several_not_well g j judged is well = well_alone g j well judged (λ same. (let never : Several ≡ Well = sym is ∙ same in absurd (cc)))

pub never_over : (g : Graph) (j : Judgement) (verdict : Verdict) → IsTheJudgement g j → j.verdict ≡ verdict → verdict ≢ Over → ¬ HasVerdict g Over
never_over g j verdict judged is other over = other (sym is ∙ one_verdict g j Over judged over)

pub over_not_several : (g : Graph) (j : Judgement) → IsTheJudgement g j → j.verdict ≡ Over → ¬ HasVerdict g Several
over_not_several g j judged is several = (let never : Over ≡ Several = sym is ∙ one_verdict g j Several judged several in absurd (cc))

pub well_not_several : (g : Graph) (j : Judgement) → IsTheJudgement g j → j.verdict ≡ Well → ¬ HasVerdict g Several
well_not_several g j judged is several = (let never : Well ≡ Several = sym is ∙ one_verdict g j Several judged several in absurd (cc))
