-- The text of a claim: a line for each step, each place, and the tolerances; and of places alone.
use Rattle.std.specs.Prelude.{◌≡◌, ℕ, ℤ, List, [], ◌∷◌, ◌++◌, map, codes, Contains}
use Rattle.std.specs.List.{flat_map}
use Rattle.std.specs.Fmt.{decimal}
use Rattle.sk_base.specs.declared.At.{At}
use Rattle.sk_base.specs.declared.At.TheVariants as at
use Rattle.sk_base.specs.declared.Elem.{Elem}
use Rattle.sk_base.specs.declared.Element.{Element}
use Rattle.sk_base.specs.declared.Placed.{Placed}
use Rattle.sk_base.specs.declared.Shape.{Shape}
use Rattle.sk_base.specs.declared.Shape.TheVariants.{Point, Line, Circle}
use Rattle.sk_base.specs.declared.Sign.TheVariants.{Plus, Minus}
use Rattle.sk_base.specs.declared.Sketch.{Sketch}
use Rattle.sk_base.specs.declared.Spot.{Spot}
use Rattle.sk_base.specs.ElementNames.{name_of}
use Rattle.sk_base.specs.Spelling.{spaced, whole_text}
use Rattle.sk_graph.specs.SketchGraph.{drawn_as}
use Rattle.sk_lines.specs.Lines.{ended_lines}
use Rattle.sk_text.specs.ClusterName.{cluster_name}
use Rattle.sk_tree.specs.declared.Choice.{Choice}
use Rattle.sk_tree.specs.declared.Choice.TheVariants.{Turn, Advance, Nothing}
use Rattle.sk_tree.specs.declared.PlanStep.{PlanStep}
use Rattle.sk_claims.specs.Claims.{radius_nm}
use Rattle.sk_claims.specs.declared.claim.Claim.{Claim}
use Rattle.sk_claims.specs.declared.claim.Radius.{Radius}
use Rattle.sk_claims.specs.Printed.{HasPlainNumber}

-- what is chosen
abbrev pub choice_words : Choice → List (List ℕ)
choice_words (Turn Plus) = codes "turn" ∷ codes "+" ∷ []
choice_words (Turn Minus) = codes "turn" ∷ codes "-" ∷ []
choice_words (Advance Plus) = codes "advance" ∷ codes "+" ∷ []
choice_words (Advance Minus) = codes "advance" ∷ codes "-" ∷ []
choice_words Nothing = codes "none" ∷ []

-- the clusters that a step joins, the elements at which it joins them, the cluster that it keeps and what is chosen
abbrev pub step_words : Sketch → PlanStep → List (List ℕ)
step_words s x =
    codes "step" ∷ cluster_name x.step ∷ codes "joins" ∷ cluster_name x.one ∷ cluster_name x.two ∷ cluster_name x.three
    ∷ codes "at" ∷ name_of s x.a ∷ name_of s x.b ∷ name_of s x.c ∷ codes "keeps" ∷ cluster_name x.keeps ∷ choice_words x.choice

-- a place is that of a point, or of the centre of a circle
abbrev pub centre_words : List ℕ → Shape → ℤ → ℤ → List (List ℕ)
centre_words name (Point u v) x y = codes "point" ∷ name ∷ whole_text x ∷ whole_text y ∷ []
centre_words name (Line u v w z) x y = codes "point" ∷ name ∷ whole_text x ∷ whole_text y ∷ []
centre_words name (Circle u v r) x y = codes "circle" ∷ name ∷ whole_text x ∷ whole_text y ∷ whole_text (radius_nm r.0) ∷ []

abbrev pub lying_words : List ℕ → Shape → At → List (List ℕ)
lying_words name shape (at.Point x y) = centre_words name shape x y
lying_words name shape (at.Line a b c) = codes "line" ∷ name ∷ whole_text a ∷ whole_text b ∷ whole_text c ∷ []

-- where an element lies
abbrev pub spot_words : Sketch → Spot → List (List ℕ)
spot_words s spot = lying_words (name_of s spot.elem) (drawn_as s spot.elem) spot.at

abbrev pub tolerance_words : ℕ → ℕ → List (List ℕ)
tolerance_words t w = codes "tolerance" ∷ decimal t ∷ decimal w ∷ []

-- the words of all lines
abbrev pub claim_words : Sketch → Claim → List (List (List ℕ))
claim_words s c = map (step_words s) c.steps ++ (map (spot_words s) c.at.spots ++ tolerance_words c.t c.w ∷ [])

abbrev pub claim_text : Sketch → Claim → List ℕ
claim_text s c = ended_lines (map spaced (claim_words s c))

-- the words of all lines of places, up to their end
abbrev pub place_words : Sketch → Placed → List (List (List ℕ))
place_words s p = map (spot_words s) p.spots ++ (codes "end" ∷ []) ∷ []

abbrev pub places_text : Sketch → Placed → List ℕ
places_text s p = ended_lines (map spaced (place_words s p))

-- the radius that is drawn, of a circle
abbrev pub radius_drawn : Elem → Shape → List Radius
radius_drawn e (Point x y) = []
radius_drawn e (Line x1 y1 x2 y2) = []
radius_drawn e (Circle x y r) = record { elem = e; nm = radius_nm r.0 } ∷ []

-- those of all circles that have a place
abbrev pub radii_drawn : Sketch → List Spot → List Radius
radii_drawn s spots = flat_map (λ (spot : Spot). radius_drawn spot.elem (drawn_as s spot.elem)) spots

-- these places with the radii that are drawn, as a claim without steps and within no tolerance
abbrev pub places_drawn : Sketch → Placed → Claim
places_drawn s p = record { steps = []; at = p; radii = radii_drawn s p.spots; t = 0; w = 0 }

-- the sketch declares the element
abbrev pub IsDeclared : Sketch → Elem → Type 0
IsDeclared s e = (x : Element) × Contains s.elements x × (x.number ≡ e)

-- the names and the elements of the step have words in a claim
pub record CanBeSaid (s : Sketch) (x : PlanStep) : Type 0 where
  pub step : HasPlainNumber x.step
  pub one : HasPlainNumber x.one
  pub two : HasPlainNumber x.two
  pub three : HasPlainNumber x.three
  pub keeps : HasPlainNumber x.keeps
  pub a : IsDeclared s x.a
  pub b : IsDeclared s x.b
  pub c : IsDeclared s x.c
