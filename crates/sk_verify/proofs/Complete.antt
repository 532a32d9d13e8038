-- Where each element is told, just the nodes of the graph are placed.
use Rattle.std.proofs.Common.{◌≡◌, ◌≢◌, inl, inr, ◌==◌, ◌<◌, true, pos, refl, sym, subst, ap, ◌∙◌, arith}
use Rattle.std.specs.Prelude.{Contains, Option, Some, IsSome, find, unwrap_or}
use Rattle.std.specs.Option.{option_map}
use Rattle.std.proofs.lemmas.Bool.Decides.{eqb_tells}
use Rattle.sk_base.specs.declared.At.{At}
use Rattle.sk_base.specs.declared.At.TheVariants.{Point}
use Rattle.sk_base.specs.declared.Elem.{Elem}
use Rattle.sk_base.specs.declared.Graph.{Graph}
use Rattle.sk_base.specs.declared.Node.{Node}
use Rattle.sk_base.specs.declared.Sketch.{Sketch}
use Rattle.sk_base.specs.declared.Spot.{Spot}
use Rattle.sk_base.specs.Numbering.{elem_exact}
use Rattle.sk_base.specs.Places.{place_of, IsBounded}
use Rattle.sk_base.specs.SoundGraph.{IsSoundGraph}
use Rattle.sk_base.proofs.Finding.{found_in}
use Rattle.sk_base.proofs.Members.{mapped_from}
use Rattle.sk_base.proofs.Pairs.{pairs_tell}
use Rattle.sk_graph.specs.SketchGraph.{node_of, graph_of}
use Rattle.sk_measure.specs.Placing.{lies, HasKind, IsPlacedAs, IsSpotOf, PlacesExactly}
use Rattle.sk_claims.specs.declared.Claim.{Claim}
use Rattle.sk_claims.specs.Claims.{IsFitting}
use Rattle.sk_verify.specs.Failing.{AllTold}
use Rattle.sk_claims.proofs.FittingClaims.{found_spot}

module _ (g : Graph) (sound : IsSoundGraph g) (c : Claim) (fits : IsFitting g c) where
  -- two nodes of one element are the same
  same_node : (m n : Node) → Contains g.nodes m → Contains g.nodes n → m.elem ≡ n.elem → m ≡ n
  same_node m n m_in n_in same =
      let level : m.elem.0 ≡ n.elem.0 = ap (λ (e : Elem). e.0) same in
      elim (pairs_tell (λ (x y : Node). x.elem.0 < y.elem.0) g.nodes sound.nodes_rise m n m_in n_in) [
        | inl is ↦ is
        | inr (inl less) ↦ absurd (omega arith)
        | inr (inr more) ↦ absurd (omega arith)
      ]

  -- and so are two places
  same_spot : (x y : Spot) → Contains c.at.spots x → Contains c.at.spots y → x.elem ≡ y.elem → x ≡ y
  same_spot x y x_in y_in same = elim (pairs_tell (λ (p q : Spot). p.elem ≢ q.elem) c.at.spots fits.spots_differ x y x_in y_in) [
    | inl is ↦ is
    | inr (inl differ) ↦ absurd (differ same)
    | inr (inr differ) ↦ absurd (differ (sym same))
  ]

  module _ (n : Node) (n_in : Contains g.nodes n) (spot : Spot) (found : find (λ (x : Spot). x.elem.0 == n.elem.0) c.at.spots ≡ Some spot) where
    is_in : Contains c.at.spots spot × ((spot.elem.0 == n.elem.0) ≡ true)
    is_in = found_in (λ (x : Spot). x.elem.0 == n.elem.0) c.at.spots spot found

    of_node : spot.elem ≡ n.elem
    of_node = elem_exact spot.elem n.elem (elim (eqb_tells spot.elem.0 n.elem.0) [ inl same ↦ same.1 | inr other ↦ absurd (let is = is_in.1 in let not = other.0 in cc) ])

    lies_there : lies c.at n.elem ≡ spot.at
    lies_there = ap (λ (o : Option Spot). unwrap_or (option_map (λ (x : Spot). x.at) o) (Point (pos 0) (pos 0))) found

    its_node : IsSpotOf n spot
    its_node =
        let known = fits.spots spot is_in.0 in
        subst (λ (m : Node). IsSpotOf m spot) (same_node known.0 n known.1 n_in (known.2.elem ∙ of_node)) known.2

    pub placed_there : IsPlacedAs c.at n.elem n.kind
    placed_there = record {
      placed = subst (λ (o : Option Spot). IsSome (option_map (λ (x : Spot). x.at) o)) (sym found) refl;
      once = λ other other_in same. ap (λ (x : Spot). x.at) (same_spot other spot other_in is_in.0 (same ∙ sym of_node)) ∙ sym lies_there;
      has_kind = subst (λ (at : At). HasKind n.kind at) (sym lies_there) its_node.has_kind;
      bounded = subst (λ (at : At). IsBounded at) (sym lies_there) its_node.bounded;
    }

  pub exactly : ((n : Node) → Contains g.nodes n → IsSome (place_of c.at n.elem)) → PlacesExactly g c.at
  exactly all = record {
    nodes = λ n n_in. (let there = found_spot (find (λ (x : Spot). x.elem.0 == n.elem.0) c.at.spots) (all n n_in) in placed_there n n_in there.0 there.1);
    no_others = λ spot spot_in. (let known = fits.spots spot spot_in in (known.0, known.1, known.2.elem));
  }

pub told_exactly : (s : Sketch) (g : Graph) → g ≡ graph_of s → IsSoundGraph g → (c : Claim) → IsFitting g c → AllTold c s.elements → PlacesExactly g c.at
told_exactly s g is sound c fits told = exactly g sound c fits (λ n n_in.
    (let found = mapped_from node_of s.elements n (subst (λ (h : Graph). Contains h.nodes n) is n_in) in
    subst (λ (e : Elem). IsSome (place_of c.at e)) (ap (λ (m : Node). m.elem) found.2) (told found.0 found.1).placed))
