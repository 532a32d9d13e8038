-- The elements that clusters have beside a corner.
use Rattle.std.specs.Prelude.{◌≡◌, ℕ, List}
use Rattle.sk_base.specs.declared.Elem.{Elem}
use Rattle.sk_base.specs.declared.Name.{Name}
use Rattle.sk_triangles.specs.declared.ends.End.{End}
use Rattle.sk_triangles.specs.Growing.{FromSome}

-- the numbers by which ends are sorted
abbrev pub corner_number : End → ℕ
corner_number x = x.corner.0

abbrev pub end_number : End → ℕ
end_number x = x.elem.0

-- the end at d of the cluster of that name, seen from c
abbrev pub end_of : Name → Elem → Elem → End
end_of n c d = record { corner = c; elem = d; name = n }

-- the ends at some of these, seen from c
abbrev pub EndsAmong : Name → Elem → List Elem → End → Type 0
EndsAmong n c = FromSome (λ d x. x ≡ end_of n c d)
