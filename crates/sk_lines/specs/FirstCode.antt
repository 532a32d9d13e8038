-- The first code of a table.
use Rattle.std.specs.Prelude.{Bool, List, [], ◌∷◌, Option, Some, None, Result, Ok, Err, if◌then◌else◌}
use Rattle.sk_lines.specs.declared.code.Code.{Code}

-- the first code whose condition holds
abbrev pub first_code : List (Bool × Code) → Option Code
first_code [] = None
first_code (row ∷ rows) = if row.0 then Some row.1 else first_code rows

-- the code where the condition holds
abbrev pub coded : Bool → Code → Option Code
coded condition code = if condition then Some code else None

-- the code if there is one, else the value
abbrev pub unless : {X : Type 0} → Option Code → X → Result X Code
unless None x = Ok x
unless (Some code) x = Err code
