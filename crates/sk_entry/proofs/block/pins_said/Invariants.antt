use Rattle.std.proofs.Common.{◌≡◌, ℕ, ◌++◌, length, map}
use Rattle.std.specs.List.{list_any}
use Rattle.sk_lines.specs.Words.{bytes_of, StandInOrder}
use Rattle.sk_entry.specs.PinCodes.{said_by, lacks_name}
use Rattle.sk_entry.specs.PinLines.{pins_in}
use Rattle.sk_entry.proofs.block.pins_said.Given as goal

abbrev pub invariant-loop-name : goal.invariant-loop-name
invariant-loop-name l = record {
  from : ℕ;
  order : StandInOrder from l.rest (length l.line);
  named : list_any lacks_name (pins_in (map (bytes_of l.line) l.words)) ≡ list_any lacks_name (pins_in (map (bytes_of l.line) l.rest));
  told : map said_by (pins_in (map (bytes_of l.line) l.words)) ≡ l.said ++ map said_by (pins_in (map (bytes_of l.line) l.rest));
}

abbrev pub decreases-loop-name : goal.decreases-loop-name
decreases-loop-name l = length l.rest
