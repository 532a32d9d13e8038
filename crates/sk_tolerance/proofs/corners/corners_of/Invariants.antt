use Rattle.std.specs.Prelude.{◌≡◌, drop}
use Rattle.sk_tolerance.specs.BlockTurns.{corners}
use Rattle.sk_tolerance.proofs.corners.corners_of.Given as goal

-- the first three are among the rest
abbrev pub invariant-loop-i : goal.invariant-loop-i
invariant-loop-i l = corners l.pins ≡ corners (drop l.i l.pins)
