-- Spots for the nodes one by one, in order, place just the nodes.
use Rattle.std.proofs.Common.{◌≡◌, ◌==◌, inl, inr, ◌<◌, List, [], ◌∷◌, ◌++◌, pos, refl, sym, ap, subst, ◌∙◌}
use Rattle.std.specs.Prelude.{Contains, AllPairs, Option, Some, find, unwrap_or, IsSome}
use Rattle.std.specs.Option.{option_map}
use Rattle.sk_base.specs.declared.At.{At}
use Rattle.sk_base.specs.declared.At.TheVariants.{Point}
use Rattle.sk_base.specs.declared.Elem.{Elem}
use Rattle.sk_base.specs.declared.Graph.{Graph}
use Rattle.sk_base.specs.declared.Node.{Node}
use Rattle.sk_base.specs.declared.Placed.{Placed}
use Rattle.sk_base.specs.declared.Spot.{Spot}
use Rattle.sk_base.specs.Places.{IsBounded}
use Rattle.sk_base.specs.Rising.{IsRising}
use Rattle.sk_base.specs.SoundGraph.{HasRisingNodes}
use Rattle.sk_base.proofs.Finding.{found_rising}
use Rattle.sk_base.proofs.Members.{contains_none, contains_head, contains_later, contains_cases}
use Rattle.sk_base.proofs.Pairs.{pairs_none, pairs_head, pairs_tail, pairs_cons}
use Rattle.sk_measure.specs.Placing.{lies, HasKind, IsPlacedAs, PlacesExactly, IsSpotOf, AreSpotsOf}

-- each node has its spot, and each spot its node
spot_of : (nodes : List Node) (spots : List Spot) → AreSpotsOf nodes spots → (n : Node) → Contains nodes n → (spot : Spot) × Contains spots spot × IsSpotOf n spot
spot_of [] spots are n h = absurd (contains_none n h)
spot_of (m ∷ nodes) [] are n h = absurd are
spot_of (m ∷ nodes) (spot ∷ spots) are n h =
    elim (contains_cases m nodes n h) [
      | inl here ↦ (spot, contains_head spot spots, subst (λ x. IsSpotOf x spot) here are.0)
      | inr later ↦ let found = spot_of nodes spots are.1 n later in (found.0, contains_later spot spots found.0 found.1, found.2)
    ]

node_of : (nodes : List Node) (spots : List Spot) → AreSpotsOf nodes spots → (spot : Spot) → Contains spots spot → (n : Node) × Contains nodes n × (n.elem ≡ spot.elem)
node_of nodes [] are spot h = absurd (contains_none spot h)
node_of [] (s ∷ spots) are spot h = absurd are
node_of (n ∷ nodes) (s ∷ spots) are spot h =
    elim (contains_cases s spots spot h) [
      | inl here ↦ (n, contains_head n nodes, are.0.elem ∙ ap (λ (x : Spot). x.elem) here)
      | inr later ↦ let found = node_of nodes spots are.1 spot later in (found.0, contains_later n nodes found.0 found.1, found.2)
    ]

pub spots_rise : (nodes : List Node) (spots : List Spot) → AreSpotsOf nodes spots → AllPairs (λ (x y : Node). x.elem.0 < y.elem.0) nodes → IsRising (λ (x : Spot). x.elem.0) spots
spots_rise nodes [] are rise = pairs_none (λ (x y : Spot). x.elem.0 < y.elem.0)
spots_rise [] (s ∷ spots) are rise = absurd are
spots_rise (n ∷ nodes) (s ∷ spots) are rise =
    pairs_cons (λ (x y : Spot). x.elem.0 < y.elem.0) s spots (spots_rise nodes spots are.1 (pairs_tail (λ (x y : Node). x.elem.0 < y.elem.0) n nodes rise)) (λ later h.
    (let of = node_of nodes spots are.1 later h in
    let below : n.elem.0 < of.0.elem.0 = pairs_head (λ (x y : Node). x.elem.0 < y.elem.0) n nodes rise of.0 of.1 in
    subst (λ (x : Elem). x.0 < later.elem.0) are.0.elem (subst (λ (y : Elem). n.elem.0 < y.0) of.2 below)))

module _ (g : Graph) (p : Placed) (rise : HasRisingNodes g) (are : AreSpotsOf g.nodes p.spots) where
  -- a spot is the one that is found by its number
  found_spot : (spot : Spot) → Contains p.spots spot → find (λ (x : Spot). x.elem.0 == spot.elem.0) p.spots ≡ Some spot
  found_spot spot h = found_rising (λ (x : Spot). x.elem.0) p.spots (spots_rise g.nodes p.spots are rise) spot h

  lies_there : (spot : Spot) → Contains p.spots spot → lies p spot.elem ≡ spot.at
  lies_there spot h = ap (λ (o : Option Spot). unwrap_or (option_map (λ (x : Spot). x.at) o) (Point (pos 0) (pos 0))) (found_spot spot h)

  placed_at : (n : Node) (spot : Spot) → Contains p.spots spot → IsSpotOf n spot → IsPlacedAs p spot.elem n.kind
  placed_at n spot h is = record {
    placed = subst (λ (o : Option Spot). IsSome (option_map (λ (x : Spot). x.at) o)) (sym (found_spot spot h)) refl;
    once = λ other other_in same. sym (lies_there other other_in) ∙ ap (λ (e : Elem). lies p e) same;
    has_kind = subst (λ (at : At). HasKind n.kind at) (sym (lies_there spot h)) is.has_kind;
    bounded = subst (λ (at : At). IsBounded at) (sym (lies_there spot h)) is.bounded;
  }

  pub exactly_in_order : PlacesExactly g p
  exactly_in_order = record {
    nodes = λ n h. (let found = spot_of g.nodes p.spots are n h in subst (λ (e : Elem). IsPlacedAs p e n.kind) (sym found.2.elem) (placed_at n found.0 found.1 found.2));
    no_others = node_of g.nodes p.spots are;
  }

-- one more node with its spot
pub spots_more : (nodes : List Node) (spots : List Spot) (n : Node) (spot : Spot) → AreSpotsOf nodes spots → IsSpotOf n spot → AreSpotsOf (nodes ++ n ∷ []) (spots ++ spot ∷ [])
spots_more [] [] n spot are is = (is, tt)
spots_more [] (s ∷ spots) n spot are is = absurd are
spots_more (m ∷ nodes) [] n spot are is = absurd are
spots_more (m ∷ nodes) (s ∷ spots) n spot are is = (are.0, spots_more nodes spots n spot are.1 is)
