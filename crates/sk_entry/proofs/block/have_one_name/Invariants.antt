use Rattle.std.proofs.Common.{◌≡◌, length}
use Rattle.sk_entry.specs.PinCodes.{share_name}
use Rattle.sk_entry.specs.PinLines.{some_two}
use Rattle.sk_entry.proofs.block.have_one_name.Given as goal

abbrev pub invariant-loop-pin : goal.invariant-loop-pin
invariant-loop-pin l = some_two share_name l.said ≡ some_two share_name l.rest

abbrev pub decreases-loop-pin : goal.decreases-loop-pin
decreases-loop-pin l = length l.rest
