-- Parts gathered cluster by cluster and node by node.
use Rattle.std.proofs.Common.{◌≡◌, ◌≢◌, ◌⊎◌, inl, inr, refl, true, ℕ, suc, ◌+◌, ◌-◌, ◌*◌, ◌<◌, List, [], ◌∷◌, ◌++◌, length, get_or, take, drop, drop-cons, ap, sym, subst, ◌∙◌, arith}
use Rattle.std.specs.Prelude.{Contains, AllPairs, map, ◌↔◌}
use Rattle.std.proofs.lemmas.List.{take_more}
use Rattle.std.proofs.lemmas.List.Elements.{All-contains, Contains-push_cases, Contains-push, Contains-append_left}
use Rattle.sk_base.specs.declared.Elem.{Elem}
use Rattle.sk_base.specs.declared.Node.{Node}
use Rattle.sk_base.specs.declared.Edge.{Edge}
use Rattle.sk_base.specs.declared.Pin.{Pin}
use Rattle.sk_base.specs.declared.Graph.{Graph}
use Rattle.sk_base.proofs.Members.{contains_head, contains_one, contains_mapped, mapped_from, contains_cases}
use Rattle.sk_family.specs.declared.Cluster.{Cluster}
use Rattle.sk_base.proofs.Splits.{pairs_across}
use Rattle.sk_base.specs.Pins.{elements_of}
use Rattle.sk_family.specs.Body.{Start, starts}
use Rattle.sk_family.proofs.GraphStarts.{start_comes, from_start}
use Rattle.sk_rules.specs.Excess.{weight, is_inside}
use Rattle.sk_rules.proofs.SummedWeights.{none_weigh, found_inside}
use Rattle.sk_verdict.specs.declared.part.Part.{Part}
use Rattle.sk_verdict.specs.Ordering.{AreInOrder}
use Rattle.sk_verdict.specs.Parts.{IsNamedByNone, HasNoPin, elem_of, part_with}
use Rattle.sk_verdict.specs.Building.{AreOfClusters, IsOfLone, AddsLone, HasNoSingle, owned_part}

module _ {X Y : Type 0} (f : X → Y) (xs : List X) (i : ℕ) (x : X) (i_in : i < length xs) (x_is : get_or xs i x ≡ x) where
  more : take (i + 1) xs ≡ take i xs ++ x ∷ []
  more = take_more xs i x i_in ∙ ap (λ z. take i xs ++ z ∷ []) x_is

  pub in_rest : Contains (drop i xs) x
  in_rest =
      let rest : drop i xs ≡ x ∷ drop (suc i) xs = drop-cons xs i x i_in ∙ ap (λ z. z ∷ drop (suc i) xs) x_is in
      subst (λ ys. Contains ys x) (sym rest) (contains_head x (drop (suc i) xs))

  -- what stands for one more
  pub mapped_more : (y : Y) → Contains (map f (take (i + 1) xs)) y → Contains (map f (take i xs)) y ⊎ (f x ≡ y)
  mapped_more y h =
      let found = mapped_from f (take (i + 1) xs) y h in
      elim (Contains-push_cases (take i xs) x found.0 (subst (λ ys. Contains ys found.0) more found.1)) [
        | inl early ↦ inl (subst (λ z. Contains (map f (take i xs)) z) found.2 (contains_mapped f (take i xs) found.0 early))
        | inr here ↦ inr (ap f here ∙ found.2)
      ]

  pub mapped_early : (y : Y) → Contains (map f (take i xs)) y → Contains (map f (take (i + 1) xs)) y
  mapped_early y h =
      let found = mapped_from f (take i xs) y h in
      subst (λ z. Contains (map f (take (i + 1) xs)) z) found.2
      (contains_mapped f (take (i + 1) xs) found.0 (subst (λ ys. Contains ys found.0) (sym more) (Contains-append_left (take i xs) (x ∷ []) found.0 found.1)))

  pub mapped_last : Contains (map f (take (i + 1) xs)) (f x)
  mapped_last = contains_mapped f (take (i + 1) xs) x (subst (λ ys. Contains ys x) (sym more) (Contains-push (take i xs) x))

module _ (g : Graph) (clusters : List Cluster) (i : ℕ) (c : Cluster) (i_in : i < length clusters) (c_is : get_or clusters i c ≡ c) (old : List Part) (so_far : AreOfClusters g (take i clusters) old) where
  -- no part so far has the elements of the next cluster
  pub cluster_new : AllPairs (λ (c d : Cluster). c.elements ≢ d.elements) clusters → (p : Part) → Contains old p → p.elements ≢ c.elements
  cluster_new differ p p_in same =
      let found = mapped_from (owned_part g) (take i clusters) p ((so_far.exactly p).0 p_in) in
      pairs_across (λ (c d : Cluster). c.elements ≢ d.elements) i clusters differ found.0 c found.1 (in_rest (owned_part g) clusters i c i_in c_is) (ap (λ (q : Part). q.elements) found.2 ∙ same)

  pub cluster_more : (part : Part) → part ≡ owned_part g c → (new : List Part) → AreInOrder new → ((p : Part) → Contains new p ↔ ((part ≡ p) ⊎ Contains old p))
      → AreOfClusters g (take (i + 1) clusters) new
  cluster_more part part_is new ordered has = record {
    in_order = ordered;
    exactly = λ p. (
      (λ h. elim ((has p).0 h) [
        | inl here ↦ subst (λ (q : Part). Contains (map (owned_part g) (take (i + 1) clusters)) q) (sym part_is ∙ here) (mapped_last (owned_part g) clusters i c i_in c_is)
        | inr early ↦ mapped_early (owned_part g) clusters i c i_in c_is p ((so_far.exactly p).0 early)
      ]),
      (λ h. elim (mapped_more (owned_part g) clusters i c i_in c_is p h) [
        | inl early ↦ (has p).1 (inr ((so_far.exactly p).1 early))
        | inr here ↦ (has p).1 (inl (part_is ∙ here))
      ]),
    );
  }

-- no constraint that starts with the element is there where none names it
pub named_apart : (g : Graph) (e : Elem) → IsNamedByNone g e → (s : Start) → Contains (starts g) s → ¬ Contains s.elements e
named_apart g e none s s_in e_in =
    elim (start_comes g s s_in) [
      | inl (b, b_in, is) ↦ (
          let pin = mapped_from (λ (pin : Pin). pin.elem) b.pins e (from_start (elements_of b.pins) e (subst (λ (t : Start). Contains t.elements e) (sym is) e_in)) in
          All-contains (λ (q : Pin). q.elem ≢ e) b.pins pin.0 (All-contains (HasNoPin e) g.blocks b none.1 b_in) pin.1 pin.2)
      | inr (d, d_in, is) ↦ (
          let apart = All-contains (λ (x : Edge). (x.u ≢ e) × (x.v ≢ e)) g.edges d none.0 d_in in
          elim (contains_cases d.u (d.v ∷ []) e (from_start (d.u ∷ d.v ∷ []) e (subst (λ (t : Start). Contains t.elements e) (sym is) e_in))) [
            | inl first ↦ apart.0 first
            | inr second ↦ apart.1 (contains_one d.v e second)
          ])
    ]

-- a lone element holds nothing, and nothing is due
pub lone_part_is : (g : Graph) (e : Elem) → IsNamedByNone g e → record { elements = e ∷ []; held = 0; due = 0 } ≡ part_with g (e ∷ [])
lone_part_is g e none = ap (λ (n : ℕ). record { elements = e ∷ []; held = n; due = 0 }) (sym (none_weigh (is_inside (e ∷ [])) (starts g) light))
  where
    light : (s : Start) → Contains (starts g) s → is_inside (e ∷ []) s ≡ true → weight s ≡ 0
    light s s_in passes = told s.elements (λ d d_in. contains_one e d (found_inside (e ∷ []) s passes d d_in)) (named_apart g e none s s_in)
      where
        told : (es : List Elem) → ((d : Elem) → Contains es d → e ≡ d) → ¬ Contains es e → 2 * length es - 3 ≡ 0
        told [] same not = refl
        told (d ∷ es) same not = absurd (not (subst (λ z. Contains (d ∷ es) z) (sym (same d (contains_head d es))) (contains_head d es)))

module _ (g : Graph) (nodes : List Node) (i : ℕ) (n : Node) (i_in : i < length nodes) (n_is : get_or nodes i n ≡ n) (old now : List Part) (so_far : AddsLone g (take i nodes) old now) where
  -- no part so far has the next node alone
  pub node_new : AllPairs (λ (x y : Node). x.elem.0 < y.elem.0) nodes → HasNoSingle old → (p : Part) → Contains now p → p.elements ≢ n.elem ∷ []
  node_new rise none p p_in same =
      elim ((so_far.exactly p).0 p_in) [
        | inl was ↦ none p n.elem was same
        | inr (e, e_in, by_none, is) ↦ (
            let found = mapped_from elem_of (take i nodes) e e_in in
            let below : found.0.elem.0 < n.elem.0 = pairs_across (λ (x y : Node). x.elem.0 < y.elem.0) i nodes rise found.0 n found.1 (in_rest elem_of nodes i n i_in n_is) in
            let level : e.0 ≡ n.elem.0 = first_same e n.elem (ap (λ (q : Part). q.elements) is ∙ same) in
            let number : found.0.elem.0 ≡ e.0 = ap (λ (x : Elem). x.0) found.2 in
            absurd (omega arith))
      ]
    where
      first_same : (x y : Elem) → x ∷ [] ≡ y ∷ [] → x.0 ≡ y.0
      first_same x y h = (let same : x ≡ y = cc in ap (λ (z : Elem). z.0) same)

  pub node_more : IsNamedByNone g n.elem → (part : Part) → part ≡ part_with g (n.elem ∷ []) → (new : List Part) → AreInOrder new → ((p : Part) → Contains new p ↔ ((part ≡ p) ⊎ Contains now p))
      → AddsLone g (take (i + 1) nodes) old new
  node_more by_none part part_is new ordered has = record {
    in_order = ordered;
    exactly = λ p. (
      (λ h. elim ((has p).0 h) [
        | inl here ↦ inr (n.elem, mapped_last elem_of nodes i n i_in n_is, by_none, sym part_is ∙ here)
        | inr early ↦ later p ((so_far.exactly p).0 early)
      ]),
      (λ h. elim h [
        | inl was ↦ (has p).1 (inr ((so_far.exactly p).1 (inl was)))
        | inr (e, e_in, e_none, is) ↦ elim (mapped_more elem_of nodes i n i_in n_is e e_in) [
          | inl early ↦ (has p).1 (inr ((so_far.exactly p).1 (inr (e, early, e_none, is))))
          | inr here ↦ (has p).1 (inl (part_is ∙ ap (λ (x : Elem). part_with g (x ∷ [])) here ∙ is))
        ]
      ]),
    );
  }
    where
      later : (p : Part) → Contains old p ⊎ IsOfLone g (take i nodes) p → Contains old p ⊎ IsOfLone g (take (i + 1) nodes) p
      later p (inl was) = inl was
      later p (inr (e, e_in, e_none, is)) = inr (e, mapped_early elem_of nodes i n i_in n_is e e_in, e_none, is)

  pub node_passed : ¬ IsNamedByNone g n.elem → AddsLone g (take (i + 1) nodes) old now
  node_passed named = record {
    in_order = so_far.in_order;
    exactly = λ p. (
      (λ h. elim ((so_far.exactly p).0 h) [
        | inl was ↦ inl was
        | inr (e, e_in, e_none, is) ↦ inr (e, mapped_early elem_of nodes i n i_in n_is e e_in, e_none, is)
      ]),
      (λ h. elim h [
        | inl was ↦ (so_far.exactly p).1 (inl was)
        | inr (e, e_in, e_none, is) ↦ elim (mapped_more elem_of nodes i n i_in n_is e e_in) [
          | inl early ↦ (so_far.exactly p).1 (inr (e, early, e_none, is))
          | inr here ↦ absurd (named (subst (λ (x : Elem). IsNamedByNone g x) (sym here) e_none))
        ]
      ]),
    );
  }
