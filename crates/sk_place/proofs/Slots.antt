-- What is live, when others are taken out.
use Rattle.std.proofs.Common.{◌≡◌, ℕ, List, Option, IsSome, Result, Ok, Err, sym, subst}
use Rattle.sk_base.specs.declared.Graph.{Graph}
use Rattle.sk_base.specs.declared.Name.{Name}
use Rattle.sk_base.specs.declared.Name.TheVariants.{Con, Step}
use Rattle.sk_place.specs.declared.boxes.BoxAt.{BoxAt}
use Rattle.sk_place.specs.declared.settling.PlaceBy.{PlaceBy}
use Rattle.sk_tree.specs.declared.PlanStep.{PlanStep}
use Rattle.sk_place.specs.declared.fault.PlaceError.{PlaceError}
use Rattle.sk_place.specs.declared.fault.PlaceError.TheVariants.{Fault, NoMemory}
use Rattle.sk_place.specs.Carrying.{Answers}
use Rattle.sk_place.specs.Steps.{joined}
use Rattle.sk_place.specs.Running.{held, IsThere, AreHeld, IsStepOf}

pub there_along : {G : Type 0} (F : ℕ) (g : Graph) (old new : List (Option (List (BoxAt G)))) (n : Name) → held F g new n ≡ held F g old n → IsThere g old n → IsThere g new n
there_along F g old new (Con k) same there = there
there_along F g old new (Step k) same there = subst IsSome (sym same) there

pub answered : {G : Type 0} (placing : PlaceBy) (F : ℕ) (g : Graph) (live : List (Option (List (BoxAt G)))) (s : PlanStep) (x y z : List (BoxAt G)) → AreHeld F g live s x y z
    → (r : Result (List (BoxAt G)) PlaceError) → Answers r (joined placing F s x y z) → IsStepOf placing F g live s r
answered placing F g live s x y z are (Ok bs) is = record { one = x; two = y; three = z; are = are; is = is }
answered placing F g live s x y z are (Err (Fault f)) is = record { one = x; two = y; three = z; are = are; is = is }
answered placing F g live s x y z are (Err NoMemory) is = tt
