use Rattle.std.proofs.Common.{◌≡◌, ◌++◌, take}
use Rattle.std.specs.List.{flat_map}
use Rattle.sk_entry.proofs.BlockLines.{pin_text}
use Rattle.sk_entry.proofs.write.put_block.Given as goal

abbrev pub invariant-loop-pin : goal.invariant-loop-pin
invariant-loop-pin l = l.text ≡ l.initial.text ++ flat_map (pin_text l.s) (take l.pin-index l.pins)
