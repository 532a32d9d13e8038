use Rattle.std.proofs.Common.{◌≡◌, false, map, take}
use Rattle.std.specs.List.{list_any}
use Rattle.sk_entry.specs.PinCodes.{lacks_place, pin_told}
use Rattle.sk_entry.proofs.block.pins_of.Given as goal

abbrev pub invariant-loop-pin : goal.invariant-loop-pin
invariant-loop-pin g l = record {
  placed : list_any lacks_place (take l.pin-index l.said) ≡ false;
  told : l.pins ≡ map (pin_told (g.S.Scope.so_far l.s)) (take l.pin-index l.said);
}
