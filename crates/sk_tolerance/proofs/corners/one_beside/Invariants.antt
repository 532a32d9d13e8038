use Rattle.std.specs.Prelude.{◌≡◌, drop, find}
use Rattle.sk_tolerance.specs.BlockTurns.{turn_given, is_turn}
use Rattle.sk_tolerance.proofs.corners.one_beside.Given as goal

-- the first is among the rest
abbrev pub invariant-loop-c : goal.invariant-loop-c
invariant-loop-c l = find (λ c. is_turn (turn_given (l.a, l.b, c))) l.pins ≡ find (λ c. is_turn (turn_given (l.a, l.b, c))) (drop l.c-index l.pins)
