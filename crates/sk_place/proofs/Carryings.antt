-- One more box carried.
use Rattle.std.proofs.Common.{◌≡◌, ℕ, ◌+◌, ◌<◌, List, [], ◌∷◌, ◌++◌, length, get_or, drop, Result, Ok, Err, refl, sym, ap, ◌∙◌, append_assoc}
use Rattle.std.proofs.lemmas.List.{at_drop_more}
use Rattle.sk_steps.specs.declared.BoxOf.{BoxOf}
use Rattle.sk_steps.specs.declared.Motion.{Motion}
use Rattle.sk_steps.specs.Carried.{carried}
use Rattle.sk_place.specs.declared.boxes.BoxAt.{BoxAt}
use Rattle.sk_place.specs.Settling.{settled_box}
use Rattle.sk_place.specs.declared.settling.PlaceBy.{PlaceBy}
use Rattle.sk_place.specs.declared.fault.BoxFault.{BoxFault}
use Rattle.sk_place.specs.Carrying.{box_faulty, and_then, carried_each}

-- what stands before the rest
pushed : {X E : Type 0} (rest : Result (List X) E) (done : List X) (x : X)
    → and_then (and_then rest (λ xs. Ok (x ∷ xs))) (λ xs. Ok (done ++ xs)) ≡ and_then rest (λ xs. Ok ((done ++ x ∷ []) ++ xs))
pushed (Ok xs) done x = ap Ok (sym (append_assoc done (x ∷ []) xs))
pushed (Err e) done x = refl

pub carried_more : {G : Type 0} (placing : PlaceBy) (F : ℕ) (m : Motion G) (boxes : List (BoxAt G)) (i : ℕ) (b : BoxAt G) (at : BoxOf G) (done : List (BoxAt G))
    → i < length boxes → b ≡ get_or boxes i b → box_faulty b.elem (settled_box placing F (carried F m b.at)) ≡ Ok at
    → and_then (carried_each placing F m (drop i boxes)) (λ rest. Ok (done ++ rest))
    ≡ and_then (carried_each placing F m (drop (i + 1) boxes)) (λ rest. Ok ((done ++ record { elem = b.elem; at = at } ∷ []) ++ rest))
carried_more {G} placing F m boxes i b at done inside is carries =
    let each : List (BoxAt G) → Result (List (BoxAt G)) BoxFault = λ xs. carried_each placing F m xs in
    let head : each (drop i boxes) ≡ each (b ∷ drop (i + 1) boxes) =
    at_drop_more each boxes i b inside ∙ ap (λ (x : BoxAt G). each (x ∷ drop (i + 1) boxes)) (sym is) in
    let one : each (b ∷ drop (i + 1) boxes) ≡ and_then (each (drop (i + 1) boxes)) (λ rest. Ok (record { elem = b.elem; at = at } ∷ rest)) =
    ap (λ (r : Result (BoxOf G) BoxFault). and_then r (λ a. and_then (each (drop (i + 1) boxes)) (λ rest. Ok (record { elem = b.elem; at = a } ∷ rest)))) carries in
    ap (λ (r : Result (List (BoxAt G)) BoxFault). and_then r (λ rest. Ok (done ++ rest))) (head ∙ one) ∙ pushed (each (drop (i + 1) boxes)) done (record { elem = b.elem; at = at })
