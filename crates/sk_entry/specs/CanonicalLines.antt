-- The canonical lines of elements and constraints.
use Rattle.std.specs.Prelude.{ℕ, List, [], ◌∷◌, ◌++◌, codes}
use Rattle.sk_base.specs.declared.Ratio.{Ratio}
use Rattle.sk_base.specs.declared.Shape.{Shape}
use Rattle.sk_base.specs.declared.Shape.TheVariants.{Point, Line, Circle}
use Rattle.sk_base.specs.declared.Rule.{Rule}
use Rattle.sk_base.specs.declared.Rule.TheVariants.{Distance, On, Tangent, Outside, Inside, Angle, Block}
use Rattle.sk_base.specs.declared.Element.{Element}
use Rattle.sk_base.specs.declared.Constraint.{Constraint}
use Rattle.sk_base.specs.declared.Sketch.{Sketch}
use Rattle.sk_base.specs.ElementNames.{name_of}
use Rattle.sk_base.specs.Pins.{block_words}
use Rattle.sk_base.specs.Spelling.{whole_text, mm_text, spaced}

-- the words of an element's line
abbrev pub shape_words : List ℕ → Shape → List (List ℕ)
shape_words name (Point x y) = codes "point" ∷ name ∷ mm_text x.0 ∷ mm_text y.0 ∷ []
shape_words name (Line x1 y1 x2 y2) = codes "line" ∷ name ∷ mm_text x1.0 ∷ mm_text y1.0 ∷ mm_text x2.0 ∷ mm_text y2.0 ∷ []
shape_words name (Circle x y r) = codes "circle" ∷ name ∷ mm_text x.0 ∷ mm_text y.0 ∷ mm_text r.0 ∷ []

abbrev pub ratio_text : Ratio → List ℕ
ratio_text ratio = whole_text ratio.p ++ 47 ∷ whole_text ratio.q

-- the words of a constraint's line
abbrev pub rule_words : Sketch → Rule → List (List ℕ)
rule_words s (Distance u v len) = codes "distance" ∷ name_of s u ∷ name_of s v ∷ mm_text len.0 ∷ []
rule_words s (On u v) = codes "on" ∷ name_of s u ∷ name_of s v ∷ []
rule_words s (Tangent u v) = codes "tangent" ∷ name_of s u ∷ name_of s v ∷ []
rule_words s (Outside u v) = codes "outside" ∷ name_of s u ∷ name_of s v ∷ []
rule_words s (Inside u v) = codes "inside" ∷ name_of s u ∷ name_of s v ∷ []
rule_words s (Angle l m ratio) = codes "angle" ∷ name_of s l ∷ name_of s m ∷ ratio_text ratio ∷ []
rule_words s (Block pins) = block_words s pins

abbrev pub element_line : Element → List ℕ
element_line element = spaced (shape_words element.label element.shape)

abbrev pub constraint_line : Sketch → Constraint → List ℕ
constraint_line s constraint = spaced (rule_words s constraint.rule)
