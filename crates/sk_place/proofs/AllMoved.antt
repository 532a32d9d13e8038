-- All boxes, carried by one motion.
use Rattle.std.proofs.Common.{◌≡◌, ℕ, ◌+◌, List, Result, Ok, Err, subst}
use Rattle.std.specs.Prelude.{IfOk}
use Rattle.sk_steps.specs.declared.Motion.{Motion}
use Rattle.sk_steps.specs.MotionNesting.{IsMotionInside}
use Rattle.sk_place.specs.declared.boxes.BoxAt.{BoxAt}
use Rattle.sk_place.specs.declared.fault.BoxFault.{BoxFault}
use Rattle.sk_place.specs.declared.fault.MoveError.{MoveError}
use Rattle.sk_place.specs.declared.settling.PlaceBy.{PlaceBy}
use Rattle.sk_place.specs.declared.settling.PlaceBy.TheVariants.{Boxes}
use Rattle.sk_place.specs.Carrying.{carried_each, AnswersMove}
use Rattle.sk_place.specs.Clusters.{nodes_of}
use Rattle.sk_place.specs.Nesting.{AreInside, KeepsMoved}
use Rattle.sk_place.proofs.Results.{each_nodes}
use Rattle.sk_place.proofs.InsideSteps.{KeepsBox, each_box}

pub moved_nodes : {G : Type 0} (placing : PlaceBy) (F : ℕ) (m : Motion G) (bs : List (BoxAt G)) (r : Result (List (BoxAt G)) MoveError) → AnswersMove r (carried_each placing F m bs) → IfOk r (λ ys. nodes_of ys ≡ nodes_of bs)
moved_nodes placing F m bs (Ok ys) is = each_nodes placing F m bs ys is
moved_nodes placing F m bs (Err e) is = tt

at_boxes : {G : Type 0} (F k : ℕ) (fine m : Motion G) (inside bs : List (BoxAt G)) → IsMotionInside k fine m → AreInside k inside bs
    → (r : Result (List (BoxAt G)) MoveError) → AnswersMove r (carried_each Boxes F m bs) → KeepsMoved k (carried_each Boxes (F + k) fine inside) r
at_boxes {G} F k fine m inside bs by lies (Ok ys) is =
    subst (λ (r : Result (List (BoxAt G)) BoxFault). KeepsBox (AreInside {G = G} {H = G} k) (carried_each Boxes (F + k) fine inside) r) is (each_box G G F k fine m by inside bs lies)
at_boxes F k fine m inside bs by lies (Err e) is = tt

pub moved_inside : {G : Type 0} (placing : PlaceBy) (F : ℕ) (m : Motion G) (bs : List (BoxAt G)) (r : Result (List (BoxAt G)) MoveError) → AnswersMove r (carried_each placing F m bs)
    → placing ≡ Boxes → (k : ℕ) (fine : Motion G) (inside : List (BoxAt G)) → IsMotionInside k fine m → AreInside k inside bs → KeepsMoved k (carried_each Boxes (F + k) fine inside) r
moved_inside {G} placing F m bs r is boxes k fine inside by lies =
    at_boxes F k fine m inside bs by lies r (subst (λ (q : PlaceBy). AnswersMove r (carried_each q F m bs)) boxes is)
