-- What every sketch that was read keeps to.
use Rattle.std.specs.Prelude.{◌≡◌, ◌≢◌, ◌≤◌, ◌⊎◌, pos, Option, Some, None, List, length, All, AllPairs, IsTrue}
use Rattle.sk_base.specs.declared.numbered.Elem.{Elem}
use Rattle.sk_base.specs.declared.measure.Um.{Um}
use Rattle.sk_base.specs.declared.measure.Ratio.{Ratio}
use Rattle.sk_base.specs.declared.sketch.Element.{Element}
use Rattle.sk_base.specs.declared.sketch.Constraint.{Constraint}
use Rattle.sk_base.specs.declared.sketch.Pin.{Pin}
use Rattle.sk_base.specs.declared.sketch.Rule.{Rule}
use Rattle.sk_base.specs.declared.sketch.Rule.TheVariants.{Distance, On, Tangent, Outside, Inside, Angle, Block}
use Rattle.sk_base.specs.declared.sketch.Shape.{Shape}
use Rattle.sk_base.specs.declared.sketch.Shape.TheVariants.{Point, Line, Circle}
use Rattle.sk_base.specs.declared.sketch.Sketch.{Sketch}
use Rattle.sk_base.specs.Bounds.{IsWithin, IsFromTo, IsCoordinate}
use Rattle.sk_base.specs.Drawn.{shape_of, IsPoint, IsLine, IsCircle, HasCentre}
use Rattle.sk_base.specs.Labels.{is_name}
use Rattle.sk_base.specs.Pins.{AreSoundPins, block_words}
use Rattle.sk_base.specs.Rising.{IsRising}
use Rattle.sk_base.specs.Spelling.{spaced}

-- a length or a radius: above 0, and at most 1,000,000 millimetres
abbrev pub IsLength : Um → Type 0
IsLength um = IsFromTo 1 1000000000 um.0

-- a tangent that isn't 0, with p and q at most 10,000 in absolute value and q not negative
abbrev pub IsSoundRatio : Ratio → Type 0
IsSoundRatio ratio = (ratio.p ≢ pos 0) × IsWithin 10000 ratio.p × IsFromTo 0 10000 ratio.q

-- a line has two different places, a circle a radius
abbrev pub IsSoundShape : Shape → Type 0
IsSoundShape (Point x y) = IsCoordinate x × IsCoordinate y
IsSoundShape (Line x1 y1 x2 y2) = IsCoordinate x1 × IsCoordinate y1 × IsCoordinate x2 × IsCoordinate y2 × ¬ ((x1 ≡ x2) × (y1 ≡ y2))
IsSoundShape (Circle x y r) = IsCoordinate x × IsCoordinate y × IsLength r

-- what two shapes a rule may name: one has a centre
abbrev pub MayBeApart : Shape → Shape → Type 0
MayBeApart u v = HasCentre u ⊎ HasCentre v

-- a point or centre on a line, or a point on a circle
abbrev pub MayLieOn : Shape → Shape → Type 0
MayLieOn u v = (HasCentre u × IsLine v) ⊎ (IsPoint u × IsCircle v)

-- a line and a circle, in either order
abbrev pub MayBeTangent : Shape → Shape → Type 0
MayBeTangent u v = (IsLine u × IsCircle v) ⊎ (IsCircle u × IsLine v)

abbrev pub AreCircles : Shape → Shape → Type 0
AreCircles u v = IsCircle u × IsCircle v

abbrev pub AreLines : Shape → Shape → Type 0
AreLines u v = IsLine u × IsLine v

-- a circle of another radius
abbrev pub HasOtherRadius : Um → Shape → Type 0
HasOtherRadius r (Point x y) = ⊥
HasOtherRadius r (Line x1 y1 x2 y2) = ⊥
HasOtherRadius r (Circle x y q) = r ≢ q

-- two circles of different radii
abbrev pub MayNest : Shape → Shape → Type 0
MayNest (Point x y) v = ⊥
MayNest (Line x1 y1 x2 y2) v = ⊥
MayNest (Circle x y r) v = HasOtherRadius r v

-- both are drawn, and their shapes fit
abbrev pub BothFit : (Shape → Shape → Type 0) → Option Shape → Option Shape → Type 0
BothFit fits None v = ⊥
BothFit fits (Some u) None = ⊥
BothFit fits (Some u) (Some v) = fits u v

-- two different elements whose shapes fit
abbrev pub MayJoin : Sketch → (Shape → Shape → Type 0) → Elem → Elem → Type 0
MayJoin s fits u v = (u ≢ v) × BothFit fits (shape_of s u) (shape_of s v)

-- the element is drawn, as a point or a circle
abbrev pub IsCentred : Option Shape → Type 0
IsCentred None = ⊥
IsCentred (Some shape) = HasCentre shape

-- the pins are sound, their elements are points or circles, and the line that says them has at most 200 bytes
pub record IsSoundBlock (s : Sketch) (pins : List Pin) : Type 0 where
  pub sound : AreSoundPins pins
  pub centred : All (λ (pin : Pin). IsCentred (shape_of s pin.elem)) pins
  pub fits : length (spaced (block_words s pins)) ≤ 200

-- the rule fits the elements that it names
abbrev pub IsSoundRule : Sketch → Rule → Type 0
IsSoundRule s (Distance u v len) = MayJoin s MayBeApart u v × IsLength len
IsSoundRule s (On u v) = MayJoin s MayLieOn u v
IsSoundRule s (Tangent u v) = MayJoin s MayBeTangent u v
IsSoundRule s (Outside u v) = MayJoin s AreCircles u v
IsSoundRule s (Inside u v) = MayJoin s MayNest u v
IsSoundRule s (Angle l m ratio) = MayJoin s AreLines l m × IsSoundRatio ratio
IsSoundRule s (Block pins) = IsSoundBlock s pins

-- numbers rise along both lists, labels are names and differ, and each element and each constraint is
-- one that the language can declare
pub record IsSoundSketch (s : Sketch) : Type 0 where
  pub elements_rise : IsRising (λ (x : Element). x.number.0) s.elements
  pub constraints_rise : IsRising (λ (x : Constraint). x.number.0) s.constraints
  pub labels_are_names : All (λ (x : Element). IsTrue (is_name x.label)) s.elements
  pub labels_differ : AllPairs (λ (x y : Element). x.label ≢ y.label) s.elements
  pub few_elements : length s.elements ≤ 2000
  pub few_constraints : length s.constraints ≤ 4000
  pub shapes_sound : All (λ (x : Element). IsSoundShape x.shape) s.elements
  pub rules_sound : All (λ (x : Constraint). IsSoundRule s x.rule) s.constraints
