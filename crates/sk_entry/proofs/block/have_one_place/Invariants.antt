use Rattle.std.proofs.Common.{◌≡◌, length}
use Rattle.sk_entry.specs.PinCodes.{share_place}
use Rattle.sk_entry.specs.PinLines.{some_two}
use Rattle.sk_entry.proofs.block.have_one_place.Given as goal

abbrev pub invariant-loop-pin : goal.invariant-loop-pin
invariant-loop-pin l = some_two share_place l.pins ≡ some_two share_place l.rest

abbrev pub decreases-loop-pin : goal.decreases-loop-pin
decreases-loop-pin l = length l.rest
