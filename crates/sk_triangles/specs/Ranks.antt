-- Which of two elements is the higher one.
use Rattle.std.specs.Prelude.{◌≡◌, ◌<◌, ◌⊎◌, ℕ, List, Option, None, Some, slice_get}
use Rattle.sk_base.specs.declared.Elem.{Elem}
use Rattle.sk_triangles.specs.declared.ends.End.{End}

-- how many clusters hold the element, as was counted
abbrev pub counted : Option ℕ → ℕ
counted None = 0
counted (Some count) = count

abbrev pub count_in : List ℕ → Elem → ℕ
count_in counts e = counted (slice_get counts e.0)

-- fewer clusters hold the element, or as many and its number is less
abbrev pub IsLower : List ℕ → Elem → Elem → Type 0
IsLower counts e c = (count_in counts e < count_in counts c) ⊎ ((count_in counts e ≡ count_in counts c) × (e.0 < c.0))

-- the end is at a higher element than its corner, and it is that one
abbrev pub IsHigh : List ℕ → End → Type 0
IsHigh counts x = IsLower counts x.corner x.elem

abbrev pub IsHighOf : List ℕ → End → End → Type 0
IsHighOf counts end x = (x ≡ end) × IsHigh counts end
