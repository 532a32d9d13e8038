-- The canonical texts of a sketch.
use Rattle.std.specs.Prelude.{ℕ, List, [], ◌∷◌, ◌++◌, map, codes}
use Rattle.sk_base.specs.declared.Sketch.{Sketch}
use Rattle.sk_lines.specs.declared.Version.{Version}
use Rattle.sk_lines.specs.declared.Version.TheVariants.{One, Two}
use Rattle.sk_lang.specs.Blocks.{version_for}
use Rattle.sk_lines.specs.Lines.{ended_lines}
use Rattle.sk_entry.specs.CanonicalLines.{element_line, constraint_line}

abbrev pub header : Version → List ℕ
header One = codes "sketch 1"
header Two = codes "sketch 2"

-- the text under the header of a version
abbrev pub text_under : Version → Sketch → List ℕ
text_under v s = ended_lines (header v ∷ map element_line s.elements ++ map (constraint_line s) s.constraints ++ codes "end" ∷ [])

-- under the header of version 1 exactly where the sketch has no block
abbrev pub canonical : Sketch → List ℕ
canonical s = text_under (version_for s) s

abbrev pub canonical_2 : Sketch → List ℕ
canonical_2 s = text_under Two s
