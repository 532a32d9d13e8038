-- What is written of the parts that are over, one behind another.
use Rattle.std.specs.Prelude.{◌≡◌, ◌⊎◌, ◌+◌, ℕ, List, [], ◌∷◌, ◌++◌, length, filter, nat_lt}
use Rattle.sk_base.specs.declared.Sketch.{Sketch}
use Rattle.sk_verdict.specs.declared.Part.{Part}
use Rattle.sk_verdict.specs.Judging.{IsOver}
use Rattle.sk_parts.specs.OwnSketch.{part_sketch}
use Rattle.sk_report.specs.CheckReport.{part_line}

-- of a part that is over its line and what is written of its own sketch, of another part nothing
abbrev pub StandsForOver : (Sketch → List ℕ → Type 0) → Sketch → ℕ → Part → List ℕ → Type 0
StandsForOver IsWritten s number p text =
    (IsOver p × ((below : List ℕ) × IsWritten (part_sketch s p.elements) below × (text ≡ part_line s number p ++ below)))
    ⊎ ((¬ IsOver p) × (text ≡ []))

-- so of each of the parts, with numbers from this one on, one behind another
abbrev pub EachOverStands : (Sketch → List ℕ → Type 0) → Sketch → ℕ → List Part → List ℕ → Type 0
EachOverStands IsWritten s number [] text = text ≡ []
EachOverStands IsWritten s number (p ∷ parts) text =
    (here : List ℕ) × (more : List ℕ) × StandsForOver IsWritten s number p here × EachOverStands IsWritten s (number + 1) parts more × (text ≡ here ++ more)

-- how many of the parts are over
abbrev pub over_count : List Part → ℕ
over_count parts = length (filter (λ (p : Part). nat_lt p.due p.held) parts)
