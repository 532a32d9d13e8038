-- What is claimed of a sketch, and when it fits the sketch.
use Rattle.std.specs.Prelude.{◌≡◌, ◌≢◌, true, ◌≤◌, ◌^◌, ℤ, pos, ◌*ℤ◌, AllPairs, Contains, IsSome}
use Rattle.sk_base.specs.declared.Element.{Element}
use Rattle.sk_base.specs.declared.Graph.{Graph}
use Rattle.sk_base.specs.declared.Node.{Node}
use Rattle.sk_base.specs.declared.Sketch.{Sketch}
use Rattle.sk_base.specs.declared.Spot.{Spot}
use Rattle.sk_base.specs.Places.{place_of}
use Rattle.sk_entry.specs.Kinds.{is_circle}
use Rattle.sk_measure.specs.Placing.{IsSpotOf}
use Rattle.sk_claims.specs.declared.claim.Claim.{Claim}
use Rattle.sk_claims.specs.declared.claim.Radius.{Radius}

-- each place is that of a node, of its kind and within the bounds, and nothing is told twice
pub record IsFitting (g : Graph) (c : Claim) : Type 0 where
  pub spots : (spot : Spot) → Contains c.at.spots spot → (n : Node) × Contains g.nodes n × IsSpotOf n spot
  pub spots_differ : AllPairs (λ (x y : Spot). x.elem ≢ y.elem) c.at.spots
  pub radii_differ : AllPairs (λ (x y : Radius). x.elem ≢ y.elem) c.radii
  pub t : c.t ≤ 2 ^ 62
  pub w : c.w ≤ 2 ^ 62

-- the radii are those of just the circles that are placed
pub record TellsCircles (s : Sketch) (c : Claim) : Type 0 where
  pub of_circles : (r : Radius) → Contains c.radii r → (x : Element) × Contains s.elements x × (x.number ≡ r.elem) × (is_circle x.shape ≡ true) × IsSome (place_of c.at x.number)
  pub each : (x : Element) → Contains s.elements x → is_circle x.shape ≡ true → IsSome (place_of c.at x.number) → (r : Radius) × Contains c.radii r × (r.elem ≡ x.number)

-- a radius in nanometres, of one in micrometres
abbrev pub radius_nm : ℤ → ℤ
radius_nm um = pos 1000 *ℤ um
