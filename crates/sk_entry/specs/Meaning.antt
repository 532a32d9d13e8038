-- What a line without a code says.
use Rattle.std.specs.Prelude.{ℕ, List, [], ◌∷◌, map, Option, Some, None, if◌then◌else◌}
use Rattle.sk_base.specs.declared.Elem.{Elem}
use Rattle.sk_base.specs.declared.ConId.{ConId}
use Rattle.sk_base.specs.declared.Shape.{Shape}
use Rattle.sk_base.specs.declared.Shape.TheVariants as shape
use Rattle.sk_base.specs.declared.Rule.{Rule}
use Rattle.sk_base.specs.declared.Rule.TheVariants as rule
use Rattle.sk_base.specs.declared.Pin.{Pin}
use Rattle.sk_base.specs.declared.Sketch.{Sketch}
use Rattle.sk_lines.specs.declared.Keyword.{Keyword}
use Rattle.sk_lines.specs.declared.Keyword.TheVariants.{Point, Line, Circle, Distance, On, Tangent, Outside, Inside, Angle, Block}
use Rattle.sk_entry.specs.declared.entry.Entry.{Entry}
use Rattle.sk_entry.specs.declared.entry.Entry.TheVariants as entry
use Rattle.sk_lines.specs.Keywords.{declares}
use Rattle.sk_entry.specs.Growth.{with_element, with_constraint}
use Rattle.sk_entry.specs.Named.{number_named}
use Rattle.sk_entry.specs.PinLines.{PinWords, pins_in}
use Rattle.sk_lines.specs.Quantities.{um, ratio}

-- the shape that a line with a new name draws, by the words behind the name
abbrev pub shape_drawn : Keyword → List (List ℕ) → Option Shape
shape_drawn Point (x ∷ y ∷ []) = Some (shape.Point (um x) (um y))
shape_drawn Line (x1 ∷ y1 ∷ x2 ∷ y2 ∷ []) = Some (shape.Line (um x1) (um y1) (um x2) (um y2))
shape_drawn Circle (x ∷ y ∷ r ∷ []) = Some (shape.Circle (um x) (um y) (um r))
shape_drawn _ _ = None

abbrev pub pin_asked : Sketch → PinWords → Pin
pin_asked s pin = record { elem = number_named s pin.name; x = um pin.x; y = um pin.y }

-- the rule of a line with used names, by all words behind the first
abbrev pub rule_asked : Sketch → Keyword → List (List ℕ) → Option Rule
rule_asked s Distance (u ∷ v ∷ len ∷ []) = Some (rule.Distance (number_named s u) (number_named s v) (um len))
rule_asked s On (u ∷ v ∷ []) = Some (rule.On (number_named s u) (number_named s v))
rule_asked s Tangent (u ∷ v ∷ []) = Some (rule.Tangent (number_named s u) (number_named s v))
rule_asked s Outside (u ∷ v ∷ []) = Some (rule.Outside (number_named s u) (number_named s v))
rule_asked s Inside (u ∷ v ∷ []) = Some (rule.Inside (number_named s u) (number_named s v))
rule_asked s Angle (l ∷ m ∷ word ∷ []) = Some (rule.Angle (number_named s l) (number_named s m) (ratio word))
rule_asked s Block words = Some (rule.Block (map (pin_asked s) (pins_in words)))
rule_asked s _ _ = None

-- what a line without a code declares, by its first word and the words behind it
abbrev pub element_with : Elem → List ℕ → Option Shape → Option Entry
element_with number name None = None
element_with number name (Some shape) = Some (entry.Element (record { number = number; label = name; shape = shape }))

abbrev pub constraint_with : ConId → Option Rule → Option Entry
constraint_with number None = None
constraint_with number (Some rule) = Some (entry.Constraint (record { number = number; rule = rule }))

abbrev pub entry_made : Sketch → Keyword → List (List ℕ) → Elem → ConId → Option Entry
entry_made s k [] elem con = None
entry_made s k (first ∷ rest) elem con =
    if declares k then element_with elem first (shape_drawn k rest) else constraint_with con (rule_asked s k (first ∷ rest))

-- the sketch with what a line declares at its end
abbrev pub added : Sketch → Option Entry → Sketch
added s (Some (entry.Element e)) = with_element s e
added s (Some (entry.Constraint c)) = with_constraint s c
added s _ = s
