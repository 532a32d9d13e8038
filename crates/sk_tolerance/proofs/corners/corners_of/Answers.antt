use Rattle.std.proofs.Common.{sym, arith}
use Rattle.sk_tolerance.specs.BlockTurns.{turn_given, is_turn}
use Rattle.sk_measure.proofs.Placings.{any_pin}
use Rattle.sk_tolerance.proofs.Threes.{slice_behind, three_found, three_further}
use Rattle.sk_tolerance.proofs.corners.corners_of.Goals as goal

pub returns-in-Some : goal.returns-in-Some
returns-in-Some c =
    sym (three_found c.args.pins.now c.loop-i.i any_pin (omega arith) (λ three. is_turn (turn_given three)) c.loop-i.invariant (c.in-Some.b, c.in-Some.c) (rw slice_behind at (sym c.in-Some.ensures)))

pub loop-i-preserved : goal.loop-i-preserved
loop-i-preserved c =
    three_further c.args.pins.now c.loop-i.i any_pin (omega arith) (λ three. is_turn (turn_given three)) c.loop-i.invariant (rw slice_behind at (sym c.in_default.ensures))
