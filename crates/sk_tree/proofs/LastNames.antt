-- The last name of a plan by cases.
use Rattle.std.proofs.Common.{◌≡◌, ◌⊎◌, inl, inr, ◌+◌, ◌-◌, List, [], ◌∷◌, ◌++◌, length, length-append, get_or, Option, Some, None, refl, ap, ◌∙◌, arith}
use Rattle.std.specs.List.{slice_get}
use Rattle.std.specs.Option.{option_map, option_or}
use Rattle.std.proofs.Math.Seq.{get_or-append_seam}
use Rattle.std.proofs.lemmas.Option.{slice_get-get_or}
use Rattle.sk_base.specs.declared.ConId.{ConId}
use Rattle.sk_base.specs.declared.Name.{Name}
use Rattle.sk_base.specs.declared.Name.TheVariants.{Con}
use Rattle.sk_base.proofs.Splits.{last_or_none}
use Rattle.sk_tree.specs.declared.plan.Plan.{Plan}
use Rattle.sk_tree.specs.declared.plan.PlanStep.{PlanStep}
use Rattle.sk_tree.specs.LastName.{last_name}

-- the last step's name; where there is none, that of the first constraint; and else nothing
abbrev pub IsLastName : Plan → Option Name → Type 0
IsLastName p (Some n) =
    ((before : List PlanStep) × (last : PlanStep) × (p.steps ≡ before ++ last ∷ []) × (n ≡ last.step))
    ⊎ ((k : ConId) × (rest : List ConId) × (p.steps ≡ []) × (p.leaves ≡ k ∷ rest) × (n ≡ Con k.0))
IsLastName p None = (p.steps ≡ []) × (p.leaves ≡ [])

last_cases : (p : Plan) (steps : List PlanStep) → p.steps ≡ steps → (leaves : List ConId) → p.leaves ≡ leaves
    → ((steps ≡ []) ⊎ ((before : List PlanStep) × (last : PlanStep) × (steps ≡ before ++ last ∷ [])))
    → IsLastName p (option_or (option_map (λ (s : PlanStep). s.step) (slice_get steps (length steps - 1))) (option_map (λ (k : ConId). Con k.0) (slice_get leaves 0)))
last_cases p steps is [] are (inl none) = rw none (is ∙ none, are)
last_cases p steps is (k ∷ ks) are (inl none) = rw none (inr (k, ks, is ∙ none, are, refl))
last_cases p steps is leaves are (inr (before, last, split)) =
    let size : length steps ≡ length before + 1 = ap (λ (xs : List PlanStep). length xs) split ∙ length-append before (last ∷ []) in
    let place : length steps - 1 ≡ length before = omega (arith, size) in
    let there : slice_get steps (length steps - 1) ≡ Some last =
    ap (slice_get steps) place
    ∙ slice_get-get_or steps (length before) last (omega (arith, size))
    ∙ ap (λ (xs : List PlanStep). Some (get_or xs (length before) last)) split
    ∙ ap Some (get_or-append_seam before last [] last) in
    rw there (inl (before, last, is ∙ split, refl))

pub last_named : (p : Plan) → IsLastName p (last_name p)
last_named p = last_cases p p.steps refl p.leaves refl (last_or_none p.steps)
