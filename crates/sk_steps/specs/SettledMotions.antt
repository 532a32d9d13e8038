-- Motions that are settled: the turn's cosine and sine are brought to length 1.
use Rattle.std.specs.Prelude.{ℕ, List, [], ◌∷◌, Result, Ok, Err}
use Rattle.sk_interval.specs.declared.Cause.{Cause}
use Rattle.sk_interval.specs.Interval.{Interval}
use Rattle.sk_steps.specs.declared.what.What.{What}
use Rattle.sk_steps.specs.declared.what.What.TheVariants.{Size, Cos, Sin}
use Rattle.sk_steps.specs.Expressions.{Expression, input, earlier, ◌⊕◌, ◌⊗◌, ◌⊘◌, square_root}
use Rattle.sk_steps.specs.Quantities.{evaluate}
use Rattle.sk_steps.specs.Boxes.{from_end}
use Rattle.sk_steps.specs.declared.frames.Motion.{Motion}

-- a turn, which is given by its cosine and its sine, at length 1
unfoldable pub unit_turn : List (What × Expression)
unit_turn =
    let cos = input 0 in let sin = input 1 in
    let size = earlier 0 in
    (Size, square_root (cos ⊗ cos ⊕ sin ⊗ sin))
    ∷ (Cos, cos ⊘ size)
    ∷ (Sin, sin ⊘ size)
    ∷ []

-- the motion with this turn, whose parts are the last quantities
abbrev pub turned : {G N : Type 0} → Motion G → Result (List Interval) N → Result (Motion G) N
turned m (Ok found) = Ok (record { cos = from_end found 2; sin = from_end found 1; fx = m.fx; fy = m.fy; tx = m.tx; ty = m.ty })
turned m (Err fault) = Err fault

-- the motion, settled, or the first quantity that has a cause, with that
abbrev pub settled_motion : {G : Type 0} → ℕ → Motion G → Result (Motion G) (What × Cause)
settled_motion F m = turned m (evaluate F (m.cos ∷ m.sin ∷ []) unit_turn)
