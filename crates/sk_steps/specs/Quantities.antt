-- Lists of named quantities, and what they give.
use Rattle.std.specs.Prelude.{ℕ, List, [], ◌∷◌, ◌++◌, Result, Ok, Err}
use Rattle.sk_interval.specs.declared.Cause.{Cause}
use Rattle.sk_interval.specs.Interval.{Interval}
use Rattle.sk_steps.specs.Expressions.{Expression, value}

-- a cause, with the name of its quantity
abbrev pub named : {N X : Type 0} → N → Result X Cause → Result X (N × Cause)
named name (Ok x) = Ok x
named name (Err c) = Err (name, c)

abbrev pub then_list : {N : Type 0} → Result Interval (N × Cause) → (Interval → Result (List Interval) (N × Cause)) → Result (List Interval) (N × Cause)
then_list (Ok x) f = f x
then_list (Err c) f = Err c

-- the quantities of a list in its order, after those that are found, or the first that has a cause
abbrev pub evaluate_after : {N : Type 0} → List Interval → ℕ → List Interval → List (N × Expression) → Result (List Interval) (N × Cause)
evaluate_after found F inputs [] = Ok found
evaluate_after found F inputs (quantity ∷ others) = then_list (named quantity.0 (value F inputs found quantity.1)) (λ x. evaluate_after (found ++ x ∷ []) F inputs others)

abbrev pub evaluate : {N : Type 0} → ℕ → List Interval → List (N × Expression) → Result (List Interval) (N × Cause)
evaluate F inputs quantities = evaluate_after [] F inputs quantities
