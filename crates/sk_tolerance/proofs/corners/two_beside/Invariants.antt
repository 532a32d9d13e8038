use Rattle.std.specs.Prelude.{◌≡◌, drop, find}
use Rattle.sk_tolerance.specs.BlockTurns.{twos, turn_given, is_turn}
use Rattle.sk_tolerance.proofs.corners.two_beside.Given as goal

-- the first two are among the rest
abbrev pub invariant-loop-i : goal.invariant-loop-i
invariant-loop-i l = find (λ two. is_turn (turn_given (l.a, two.0, two.1))) (twos l.pins) ≡ find (λ two. is_turn (turn_given (l.a, two.0, two.1))) (twos (drop l.i l.pins))
