-- What a constraint starts with.
use Rattle.std.specs.Prelude.{◌≡◌, List, Contains}
use Rattle.sk_base.specs.declared.ConId.{ConId}
use Rattle.sk_base.specs.declared.Elem.{Elem}
use Rattle.sk_base.specs.declared.Graph.{Graph}
use Rattle.sk_family.specs.Body.{Start, starts}

-- these are the elements of the constraint of that number
abbrev pub StartsWith : Graph → ConId → List Elem → Type 0
StartsWith g k elements = (s : Start) × Contains (starts g) s × (s.number ≡ k) × (s.elements ≡ elements)
