use Rattle.std.proofs.Common.{◌≡◌, drop, []}
use Rattle.sk_base.specs.Numbering.{elem_number}
use Rattle.sk_base.specs.Pins.{elements_of}
use Rattle.sk_base.specs.Rising.{IsRising, union}
use Rattle.sk_family.proofs.start.elements_of.Given as goal

-- the pins from here on have their elements
abbrev pub invariant-loop-i : goal.invariant-loop-i
invariant-loop-i l = record {
  so_far : l.elements ≡ union elem_number (elements_of (drop l.i l.pins)) [];
  rises : IsRising elem_number l.elements;
}
