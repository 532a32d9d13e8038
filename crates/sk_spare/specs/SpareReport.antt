-- The report of spare constraints.
use Rattle.std.specs.Prelude.{ℕ, List, ◌++◌, length, codes}
use Rattle.std.specs.List.{flat_map}
use Rattle.std.specs.Fmt.{decimal}
use Rattle.sk_base.specs.declared.ConId.{ConId}
use Rattle.sk_base.specs.declared.Sketch.{Sketch}
use Rattle.sk_entry.specs.NumberedConstraint.{constraint_words}

abbrev pub spare_line : Sketch → ConId → List ℕ
spare_line s k = codes "c" ++ (decimal k.0 ++ (codes " : " ++ (constraint_words s k ++ codes "\n")))

-- how many there are, and a line for each
abbrev pub spare_report : Sketch → List ConId → List ℕ
spare_report s spares = (codes "spare " ++ (decimal (length spares) ++ codes "\n")) ++ flat_map (spare_line s) spares
