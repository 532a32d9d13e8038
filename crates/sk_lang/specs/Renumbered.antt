-- A sketch whose elements and constraints are numbered anew.
use Rattle.std.specs.Prelude.{ℕ, ◌+◌, ◌==◌, List, [], ◌∷◌, map}
use Rattle.std.specs.List.{position_or_len}
use Rattle.sk_base.specs.declared.Elem.{Elem}
use Rattle.sk_base.specs.declared.Element.{Element}
use Rattle.sk_base.specs.declared.Rule.{Rule}
use Rattle.sk_base.specs.declared.Rule.TheVariants.{Distance, On, Tangent, Outside, Inside, Angle, Block}
use Rattle.sk_base.specs.declared.Pin.{Pin}
use Rattle.sk_base.specs.declared.Constraint.{Constraint}
use Rattle.sk_base.specs.declared.Sketch.{Sketch}

-- the elements in their order, numbered from here on
abbrev pub elements_from : ℕ → List Element → List Element
elements_from n [] = []
elements_from n (e ∷ es) = record e { number = record { 0 = n } } ∷ elements_from (n + 1) es

-- the new number of an element: its place, from 1
abbrev pub place_of : Sketch → Elem → Elem
place_of s u = record { 0 = 1 + position_or_len (λ (x : Element). x.number.0 == u.0) s.elements }

abbrev pub pin_renumbered : Sketch → Pin → Pin
pin_renumbered s pin = record pin { elem = place_of s pin.elem }

abbrev pub rule_renumbered : Sketch → Rule → Rule
rule_renumbered s (Distance u v len) = Distance (place_of s u) (place_of s v) len
rule_renumbered s (On u v) = On (place_of s u) (place_of s v)
rule_renumbered s (Tangent u v) = Tangent (place_of s u) (place_of s v)
rule_renumbered s (Outside u v) = Outside (place_of s u) (place_of s v)
rule_renumbered s (Inside u v) = Inside (place_of s u) (place_of s v)
rule_renumbered s (Angle l m ratio) = Angle (place_of s l) (place_of s m) ratio
rule_renumbered s (Block pins) = Block (map (pin_renumbered s) pins)

-- the constraints in their order, numbered from here on, by the new numbers of their elements
abbrev pub constraints_from : Sketch → ℕ → List Constraint → List Constraint
constraints_from s n [] = []
constraints_from s n (c ∷ cs) = record { number = record { 0 = n }; rule = rule_renumbered s c.rule } ∷ constraints_from s (n + 1) cs

-- both lists numbered from 1 in their order, with the same references
abbrev pub renumbered : Sketch → Sketch
renumbered s = record { elements = elements_from 1 s.elements; constraints = constraints_from s 1 s.constraints }
