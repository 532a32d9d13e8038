-- The lines on how far given places are off.
use Rattle.std.specs.Prelude.{ℕ, List, ◌∷◌, ◌++◌, codes}
use Rattle.sk_base.specs.declared.ConId.{ConId}
use Rattle.sk_base.specs.declared.Elem.{Elem}
use Rattle.sk_base.specs.declared.Sketch.{Sketch}
use Rattle.sk_base.specs.ElementNames.{name_of}
use Rattle.sk_tolerance.specs.declared.OffBy.{OffBy}
use Rattle.sk_report.specs.ExcessReport.{line_of_off}

-- the constraint, by how much it is off, and its sign where that is turned over
abbrev pub measured_line : Sketch → ConId → OffBy → List ℕ
measured_line s k off = line_of_off s (codes " off") k off

-- the element that has no place, or another radius than its own
abbrev pub unplaced_line : Sketch → Elem → List ℕ
unplaced_line s e = (codes "measure fails element" ++ 32 ∷ name_of s e) ++ codes "\n"
