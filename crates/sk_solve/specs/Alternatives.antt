-- What comes of turning the choices of some steps.
use Rattle.std.specs.Prelude.{◌≡◌, ⊤, ℕ, ℤ, List, [], ◌∷◌, map, Some, None}
use Rattle.sk_base.specs.declared.Name.{Name}
use Rattle.sk_base.specs.declared.Placed.{Placed}
use Rattle.sk_base.specs.declared.Sketch.{Sketch}
use Rattle.sk_tree.specs.declared.Plan.{Plan}
use Rattle.sk_tree.specs.declared.PlanStep.{PlanStep}
use Rattle.sk_tree.specs.ByNumber.{by_number}
use Rattle.sk_place.specs.declared.Layout.{Layout}
use Rattle.sk_tolerance.specs.declared.Turned.{Turned as SignThere}
use Rattle.sk_tolerance.specs.declared.Wanted.TheVariants.{Chosen}
use Rattle.sk_tolerance.specs.Turns.{choices}
use Rattle.sk_solve.specs.declared.alternative.Alternative.{Alternative}
use Rattle.sk_solve.specs.declared.alternative.Alternative.TheVariants.{Found, NoChoice, Fault, Uncarried, Passed, Turned}
use Rattle.sk_solve.specs.declared.placing.Placement.{Placement}
use Rattle.sk_solve.specs.declared.placing.Placement.TheVariants as placed
use Rattle.sk_flips.specs.Flipping.{first_without_choice, flipped}
use Rattle.sk_solve.specs.Placements.{IsPlacement}

-- what comes of a turned plan that is placed so
abbrev pub alternative_of : Placement → Alternative
alternative_of (placed.Fault f) = Fault f
alternative_of (placed.Uncarried f) = Uncarried f
alternative_of (placed.Beyond b) = Passed b
alternative_of (placed.Turned t) = Turned t
alternative_of (placed.Holds at tol) = Found at tol

-- each of the names has a choice, and the plan with these choices turned over is placed so, with the signs that it chooses
abbrev pub IsTurnedPlacement : Type 0 → Layout → ℕ → ℕ → Sketch → Plan → List Name → Placement → Type 0
IsTurnedPlacement G placing F limit s p names placement = (first_without_choice p names ≡ None) × IsPlacement Chosen G placing F limit s (flipped names p) placement

-- the first of the names without a choice; else what comes of the turned plan
abbrev pub IsAlternative : Type 0 → Layout → ℕ → ℕ → Sketch → Plan → List Name → Alternative → Type 0
IsAlternative G placing F limit s p names (NoChoice n) = first_without_choice p names ≡ Some n
IsAlternative G placing F limit s p names (Fault f) = IsTurnedPlacement G placing F limit s p names (placed.Fault f)
IsAlternative G placing F limit s p names (Uncarried f) = IsTurnedPlacement G placing F limit s p names (placed.Uncarried f)
IsAlternative G placing F limit s p names (Passed b) = IsTurnedPlacement G placing F limit s p names (placed.Beyond b)
IsAlternative G placing F limit s p names (Turned t) = IsTurnedPlacement G placing F limit s p names (placed.Turned t)
IsAlternative G placing F limit s p names (Found at tol) = IsTurnedPlacement G placing F limit s p names (placed.Holds at tol)

-- one for each list, in order
abbrev pub AreAlternatives : Type 0 → Layout → ℕ → ℕ → Sketch → Plan → List (List Name) → List Alternative → Type 0
AreAlternatives G placing F limit s p [] [] = ⊤
AreAlternatives G placing F limit s p [] (a ∷ alternatives) = ⊥
AreAlternatives G placing F limit s p (names ∷ lists) [] = ⊥
AreAlternatives G placing F limit s p (names ∷ lists) (a ∷ alternatives) = IsAlternative G placing F limit s p names a × AreAlternatives G placing F limit s p lists alternatives

-- the sign of the step as it is placed, if it leaves something open
abbrev pub placed_signs : Sketch → Placed → PlanStep → List ℤ
placed_signs s at step = map (λ (sign : SignThere). sign.placed) (choices s at step.step (by_number step.a step.b step.c))
