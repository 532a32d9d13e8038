-- The own sketch of a part.
use Rattle.std.specs.Prelude.{◌≡◌, Bool, List, Contains, filter, map}
use Rattle.std.specs.List.{list_all}
use Rattle.sk_base.specs.declared.Elem.{Elem}
use Rattle.sk_base.specs.declared.Element.{Element}
use Rattle.sk_base.specs.declared.Constraint.{Constraint}
use Rattle.sk_base.specs.declared.Sketch.{Sketch}
use Rattle.sk_base.specs.Numbering.{is_elem}
use Rattle.sk_graph.specs.Naming.{named_by}
use Rattle.sk_verdict.specs.declared.Part.{Part}

-- the element is one of these
abbrev pub has_element : List Elem → Element → Bool
has_element xs x = is_elem xs x.number

-- the constraint names these elements alone
abbrev pub lies_among : List Elem → Constraint → Bool
lies_among xs c = list_all (is_elem xs) (named_by c.rule)

-- the elements of the sketch that the part has, and the constraints that name these alone, as they are in the sketch
abbrev pub part_sketch : Sketch → List Elem → Sketch
part_sketch s xs = record {
  elements = filter (has_element xs) s.elements;
  constraints = filter (lies_among xs) s.constraints;
}

-- the part of these elements has the constraint in its own sketch
abbrev pub HasInOwn : Sketch → List Elem → Constraint → Type 0
HasInOwn s xs c = Contains (part_sketch s xs).constraints c

-- just one of the parts has the constraint in its own sketch
abbrev pub IsInJustOne : Sketch → List Part → Constraint → Type 0
IsInJustOne s parts c = (p : Part) × Contains parts p × HasInOwn s p.elements c × ((q : Part) → Contains parts q → HasInOwn s q.elements c → q ≡ p)

-- the numbers of the elements of a sketch, in their order
abbrev pub numbers_in : Sketch → List Elem
numbers_in s = map (λ (x : Element). x.number) s.elements
