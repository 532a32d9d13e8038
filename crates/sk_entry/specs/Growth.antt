-- How a sketch grows: from the one without elements and constraints, by one more at the end.
use Rattle.std.specs.Prelude.{[], ◌∷◌, ◌++◌}
use Rattle.sk_base.specs.declared.Element.{Element}
use Rattle.sk_base.specs.declared.Constraint.{Constraint}
use Rattle.sk_base.specs.declared.Sketch.{Sketch}

abbrev pub empty_sketch : Sketch
empty_sketch = record { elements = []; constraints = [] }

abbrev pub with_element : Sketch → Element → Sketch
with_element s e = record s { elements = s.elements ++ e ∷ [] }

abbrev pub with_constraint : Sketch → Constraint → Sketch
with_constraint s c = record s { constraints = s.constraints ++ c ∷ [] }
