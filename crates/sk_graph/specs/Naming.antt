-- The elements that a constraint names.
use Rattle.std.specs.Prelude.{◌≡◌, ◌⊎◌, List, [], ◌∷◌}
use Rattle.sk_base.specs.declared.numbered.Elem.{Elem}
use Rattle.sk_base.specs.declared.sketch.Rule.{Rule}
use Rattle.sk_base.specs.declared.sketch.Rule.TheVariants.{Distance, On, Tangent, Outside, Inside, Angle, Block}
use Rattle.sk_base.specs.declared.graph.Edge.{Edge}
use Rattle.sk_base.specs.Pins.{elements_of}

-- the elements that a rule names, in its order
abbrev pub named_by : Rule → List Elem
named_by (Distance u v len) = u ∷ v ∷ []
named_by (On u v) = u ∷ v ∷ []
named_by (Tangent u v) = u ∷ v ∷ []
named_by (Outside u v) = u ∷ v ∷ []
named_by (Inside u v) = u ∷ v ∷ []
named_by (Angle l m ratio) = l ∷ m ∷ []
named_by (Block pins) = elements_of pins

-- these two are the edge's ends, in either order
abbrev pub IsBetween : List Elem → Edge → Type 0
IsBetween names e = (names ≡ e.u ∷ e.v ∷ []) ⊎ (names ≡ e.v ∷ e.u ∷ [])
