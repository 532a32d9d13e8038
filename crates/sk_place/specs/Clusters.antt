-- The boxes of a cluster, in rising order of their elements' numbers.
use Rattle.std.specs.Prelude.{◌≡◌, ◌==◌, ◌<◌, ◌≤◌, ℕ, length, slice_index_or, Bool, true, false, ◌||◌, not, nat_lt, List, map, filter, find, Option, Some, None, Contains}
use Rattle.sk_base.specs.declared.Elem.{Elem}
use Rattle.sk_base.specs.declared.Node.{Node}
use Rattle.sk_base.specs.declared.Kind.{Kind}
use Rattle.sk_base.specs.Rising.{IsRising, put, union}
use Rattle.sk_steps.specs.declared.BoxOf.{BoxOf}
use Rattle.sk_steps.specs.declared.BoxOf.TheVariants.{Point}
use Rattle.sk_steps.specs.Boxes.{zero, kind_of}
use Rattle.sk_place.specs.declared.boxes.BoxAt.{BoxAt}

abbrev pub number_of : {G : Type 0} → BoxAt G → ℕ
number_of b = b.elem.0

-- each element's number is below those of all later ones
abbrev pub Rise : {G : Type 0} → List (BoxAt G) → Type 0
Rise bs = IsRising number_of bs

abbrev pub elements_of : {G : Type 0} → List (BoxAt G) → List Elem
elements_of bs = map (λ b. b.elem) bs

-- the elements with the kinds that their boxes have
abbrev pub nodes_of : {G : Type 0} → List (BoxAt G) → List Node
nodes_of bs = map (λ b. record { elem = b.elem; kind = kind_of b.at }) bs

abbrev pub Holds : {G : Type 0} → List (BoxAt G) → Elem → Type 0
Holds bs e = Contains (elements_of bs) e

-- what was found; where nothing was, a point at the origin
abbrev pub found_box : {G : Type 0} → Option (BoxAt G) → BoxOf G
found_box (Some b) = b.at
found_box None = Point zero zero

-- the box of an element
abbrev pub box_of : {G : Type 0} → List (BoxAt G) → Elem → BoxOf G
box_of bs e = found_box (find (λ b. b.elem.0 == e.0) bs)

-- the boxes with one more, and with some more, each at its place by number
abbrev pub with_box : {G : Type 0} → BoxAt G → List (BoxAt G) → List (BoxAt G)
with_box b bs = put number_of b bs

abbrev pub with_boxes : {G : Type 0} → List (BoxAt G) → List (BoxAt G) → List (BoxAt G)
with_boxes more bs = union number_of more bs

-- the boxes of all elements but two
abbrev pub besides : {G : Type 0} → Elem → Elem → List (BoxAt G) → List (BoxAt G)
besides p q bs = filter (λ b. not ((b.elem.0 == p.0) || (b.elem.0 == q.0))) bs

-- a point comes before a line, and of one kind the lesser number comes first
abbrev pub precedes : Kind → Elem → Kind → Elem → Bool
precedes Kind.Point p Kind.Point q = nat_lt p.0 q.0
precedes Kind.Point p Kind.Line q = true
precedes Kind.Line p Kind.Point q = false
precedes Kind.Line p Kind.Line q = nat_lt p.0 q.0

abbrev pub comes_first : {G : Type 0} → List (BoxAt G) → Elem → Elem → Bool
comes_first bs p q = precedes (kind_of (box_of bs p)) p (kind_of (box_of bs q)) q

-- the boxes before the place are of lesser numbers, and those from there on are not
pub record IsPlaceOf {G : Type 0} (bs : List (BoxAt G)) (e : Elem) (place : ℕ) : Type 0 where
  pub within : place ≤ length bs
  pub before : (k : ℕ) (d : BoxAt G) → k < place → number_of (slice_index_or bs k d) < e.0
  pub behind : (k : ℕ) (d : BoxAt G) → place ≤ k → k < length bs → e.0 ≤ number_of (slice_index_or bs k d)

-- the box at the place is the element's
abbrev pub IsAt : {G : Type 0} → List (BoxAt G) → ℕ → Elem → Type 0
IsAt {G} bs place e = (place < length bs) × ((d : BoxAt G) → number_of (slice_index_or bs place d) ≡ e.0)
