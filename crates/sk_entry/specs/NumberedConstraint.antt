-- A constraint by its number, and its canonical line.
use Rattle.std.specs.Prelude.{ℕ, ◌==◌, List, [], Option, find, unwrap_or}
use Rattle.std.specs.Option.{option_map}
use Rattle.sk_base.specs.declared.ConId.{ConId}
use Rattle.sk_base.specs.declared.Constraint.{Constraint}
use Rattle.sk_base.specs.declared.Sketch.{Sketch}
use Rattle.sk_entry.specs.CanonicalLines.{constraint_line}

-- the constraint of that number
abbrev pub constraint_of : Sketch → ConId → Option Constraint
constraint_of s k = find (λ (x : Constraint). x.number.0 == k.0) s.constraints

-- its canonical line, or nothing where no constraint has the number
abbrev pub constraint_words : Sketch → ConId → List ℕ
constraint_words s k = unwrap_or (option_map (constraint_line s) (constraint_of s k)) []
