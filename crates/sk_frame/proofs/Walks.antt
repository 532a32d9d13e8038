-- One step further back along the kept children.
use Rattle.std.proofs.Common.{◌≡◌, ℕ, ◌+◌, ◌-◌, ◌<◌, ◌≤◌, List, [], ◌∷◌, length, get_or, drop, refl, subst, arith}
use Rattle.std.proofs.lemmas.List.{at_drop_more}
use Rattle.sk_base.specs.declared.Name.{Name}
use Rattle.sk_tree.specs.declared.PlanStep.{PlanStep}
use Rattle.sk_frame.specs.Bases.{kept_by, kept_from}

pub kept_at_end : (steps : List PlanStep) (n : Name) → kept_from (drop (length steps) steps) n ≡ n
kept_at_end [] n = refl
kept_at_end (s ∷ steps) n = kept_at_end steps n

pub kept_earlier : (steps : List PlanStep) (i : ℕ) (d : PlanStep) (n : Name) → 0 < i → i ≤ length steps
    → kept_from (drop (i - 1) steps) n ≡ kept_by (get_or steps (i - 1) d) (kept_from (drop i steps) n)
kept_earlier steps i d n some inside =
    let back : i - 1 + 1 ≡ i = omega (arith, some) in
    subst (λ (k : ℕ). kept_from (drop (i - 1) steps) n ≡ kept_by (get_or steps (i - 1) d) (kept_from (drop k steps) n)) back
    (at_drop_more (λ (xs : List PlanStep). kept_from xs n) steps (i - 1) d (omega (arith, some, inside)))
