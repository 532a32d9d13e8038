-- Where the elements of a graph are placed.
use Rattle.std.specs.Prelude.{◌≡◌, pos, List, [], ◌∷◌, All, Contains, IsSome, unwrap_or}
use Rattle.sk_base.specs.declared.Elem.{Elem}
use Rattle.sk_base.specs.declared.Kind.{Kind}
use Rattle.sk_base.specs.declared.Kind.TheVariants as kinds
use Rattle.sk_base.specs.declared.At.{At}
use Rattle.sk_base.specs.declared.At.TheVariants.{Point}
use Rattle.sk_base.specs.declared.Spot.{Spot}
use Rattle.sk_base.specs.declared.Placed.{Placed}
use Rattle.sk_base.specs.declared.Measure.{Measure}
use Rattle.sk_base.specs.declared.Measure.TheVariants.{PointPoint, PointLine, LineLine}
use Rattle.sk_base.specs.declared.Node.{Node}
use Rattle.sk_base.specs.declared.Edge.{Edge}
use Rattle.sk_base.specs.declared.Graph.{Graph}
use Rattle.sk_base.specs.declared.Pin.{Pin}
use Rattle.sk_base.specs.Bounds.{IsFromTo}
use Rattle.sk_base.specs.Pins.{IsOnSheet}
use Rattle.sk_base.specs.Places.{place_of, IsPoint, IsLine, IsBounded}
use Rattle.sk_base.specs.SoundSketch.{IsSoundRatio}

-- where an element lies that is placed
abbrev pub lies : Placed → Elem → At
lies p e = unwrap_or (place_of p e) (Point (pos 0) (pos 0))

abbrev pub HasKind : Kind → At → Type 0
HasKind kinds.Point at = IsPoint at
HasKind kinds.Line at = IsLine at

-- the element is placed, at one place, which is of that kind and within the bounds
pub record IsPlacedAs (p : Placed) (e : Elem) (kind : Kind) : Type 0 where
  pub placed : IsSome (place_of p e)
  pub once : (spot : Spot) → Contains p.spots spot → spot.elem ≡ e → spot.at ≡ lies p e
  pub has_kind : HasKind kind (lies p e)
  pub bounded : IsBounded (lies p e)

-- the spot is that of the node, of its kind and within the bounds
pub record IsSpotOf (n : Node) (spot : Spot) : Type 0 where
  pub elem : n.elem ≡ spot.elem
  pub has_kind : HasKind n.kind spot.at
  pub bounded : IsBounded spot.at

-- just the nodes of the graph are placed, each with its kind
pub record PlacesExactly (g : Graph) (p : Placed) : Type 0 where
  pub nodes : (n : Node) → Contains g.nodes n → IsPlacedAs p n.elem n.kind
  pub no_others : (spot : Spot) → Contains p.spots spot → (n : Node) × Contains g.nodes n × (n.elem ≡ spot.elem)

-- the spots are those of the nodes, one by one in order, each of its kind and within the bounds
abbrev pub AreSpotsOf : List Node → List Spot → Type 0
AreSpotsOf [] [] = Unit {0}
AreSpotsOf [] (spot ∷ spots) = ⊥
AreSpotsOf (n ∷ nodes) [] = ⊥
AreSpotsOf (n ∷ nodes) (spot ∷ spots) = IsSpotOf n spot × AreSpotsOf nodes spots

-- both ends are placed with the kinds that the measure asks
abbrev pub EndsArePlaced : Placed → Elem → Elem → Measure → Type 0
EndsArePlaced p u v (PointPoint len) = IsPlacedAs p u kinds.Point × IsPlacedAs p v kinds.Point
EndsArePlaced p u v (PointLine len side) = IsPlacedAs p u kinds.Point × IsPlacedAs p v kinds.Line
EndsArePlaced p u v (LineLine ratio sense) = IsPlacedAs p u kinds.Line × IsPlacedAs p v kinds.Line

-- the numbers of the measure are within the limits of a graph
abbrev pub IsModerate : Measure → Type 0
IsModerate (PointPoint len) = IsFromTo 1 2000000000 len.0
IsModerate (PointLine len side) = IsFromTo 0 1000000000 len.0
IsModerate (LineLine ratio sense) = IsSoundRatio ratio

-- the constraint has numbers within the limits, between ends that are placed
pub record IsMeasurable (p : Placed) (e : Edge) : Type 0 where
  pub moderate : IsModerate e.measure
  pub ends : EndsArePlaced p e.u e.v e.measure

-- the pin's element is placed as a point
abbrev pub IsPinPlaced : Placed → Pin → Type 0
IsPinPlaced p pin = IsPlacedAs p pin.elem kinds.Point

-- the pins have places within the sheet, and elements that are placed as points
pub record AreMeasurable (p : Placed) (pins : List Pin) : Type 0 where
  pub on_sheet : All IsOnSheet pins
  pub placed : All (IsPinPlaced p) pins
