-- What is left after all steps.
use Rattle.std.proofs.Common.{◌≡◌, inl, inr, ℕ, ◌+◌, ◌<◌, List, [], ◌∷◌, ◌++◌, length, get_or, Option, Some, None, refl, ap, sym, subst, ◌∙◌, arith, length-append, pos, Result, Err}
use Rattle.std.specs.Prelude.{Contains, map}
use Rattle.std.proofs.lemmas.List.{drop_all}
use Rattle.std.proofs.Math.Seq.{get_or-append_seam}
use Rattle.sk_base.specs.declared.ConId.{ConId}
use Rattle.sk_base.specs.declared.Elem.{Elem}
use Rattle.sk_base.specs.declared.Graph.{Graph}
use Rattle.sk_base.specs.declared.Kind.{Kind}
use Rattle.sk_base.specs.declared.Name.{Name}
use Rattle.sk_base.specs.declared.Name.TheVariants.{Con, Step}
use Rattle.sk_base.specs.declared.Node.{Node}
use Rattle.sk_base.specs.SoundGraph.{HasNode, IsSoundGraph}
use Rattle.sk_base.proofs.Members.{contains_head, contains_one, contains_mapped, mapped_from, nothing_mapped}
use Rattle.sk_base.proofs.Pairs.{pairs_map, pairs_same}
use Rattle.sk_family.specs.declared.Cluster.{Cluster}
use Rattle.sk_family.specs.Body.{Start, starts}
use Rattle.sk_family.specs.Clusters.{Clusters, initial_clusters, start_of}
use Rattle.sk_family.proofs.GraphStarts.{no_starts}
use Rattle.sk_steps.specs.Boxes.{kind_of}
use Rattle.sk_tree.specs.declared.Plan.{Plan}
use Rattle.sk_tree.specs.declared.PlanStep.{PlanStep}
use Rattle.sk_tree.specs.declared.Tree.{Tree}
use Rattle.sk_tree.specs.LegalPlan.{HasNodes, IsWhole, AreLegalSteps, IsLegalPlan}
use Rattle.sk_place.specs.declared.boxes.BoxAt.{BoxAt}
use Rattle.sk_place.specs.declared.settling.PlaceBy.TheVariants.{Boxes}
use Rattle.sk_place.specs.declared.settling.PlaceBy.{PlaceBy}
use Rattle.sk_place.specs.Clusters.{Rise, Holds, nodes_of}
use Rattle.sk_interval.proofs.FinerSums.{whole-IsInside}
use Rattle.sk_steps.specs.Nesting.{IsBoxInside}
use Rattle.sk_place.specs.declared.fault.PlaceError.{PlaceError}
use Rattle.sk_place.specs.declared.fault.PlaceError.TheVariants.{Fault, NoMemory}
use Rattle.sk_place.specs.Nesting.{AreInside, IsKept}
use Rattle.std.proofs.lemmas.List.Elements.{Contains-get_or}
use Rattle.std.proofs.lemmas.Int.{ints}
use Rattle.sk_interval.specs.Operations.{whole as whole_number}
use Rattle.sk_interval.proofs.PowerLemmas.{power_below}
use Rattle.sk_place.specs.Rounding.{IsWithin, IsBoundedBox, AreBounded}
use Rattle.sk_place.specs.Trees.{HasBoxes}
use Rattle.sk_tree.specs.PlanTree.{IsPlanTree}
use Rattle.sk_tree.specs.LastName.{last_name}
use Rattle.sk_tree.proofs.LastNames.{IsLastName, last_named as name_by_cases}
use Rattle.sk_place.specs.Placing.{lone_box, lone_boxes}
use Rattle.sk_place.specs.Running.{held, HasTree, IsThere, ArePlaced, IsAfter, IsRun}
use Rattle.sk_place.proofs.Lookups.{held_box}
use Rattle.sk_place.proofs.Fitting.{rise_of, one_kind}
use Rattle.sk_place.proofs.PlanSteps.{named_at}
use Rattle.sk_place.proofs.Failing.{no_starts_no_steps}

-- ---- the last name

pub last_is : (p : Plan) (o : Option Name) → o ≡ last_name p → IsLastName p o
last_is p o is = subst (λ (n : Option Name). IsLastName p n) (sym is) (name_by_cases p)

module _ (g : Graph) (p : Plan) (legal : IsLegalPlan g p) where
  -- the last step is named by how many there are
  last_named : (before : List PlanStep) (last : PlanStep) → p.steps ≡ before ++ last ∷ [] → last.step ≡ Step (length p.steps)
  last_named before last is =
      let size : length p.steps ≡ 1 + length before = ap (λ (ss : List PlanStep). length ss) is ∙ length-append before (last ∷ []) ∙ omega arith in
      let there : get_or p.steps (length before) last ≡ last = ap (λ (ss : List PlanStep). get_or ss (length before) last) is ∙ get_or-append_seam before last [] last in
      ap (λ (s : PlanStep). s.step) (sym there) ∙ named_at g p legal (length before) last (omega arith) ∙ ap Step (sym size)

  some_steps : (before : List PlanStep) (last : PlanStep) → p.steps ≡ before ++ last ∷ [] → 0 < length p.steps
  some_steps before last is = (let size = ap (λ (ss : List PlanStep). length ss) is in omega (arith, length-append before (last ∷ [])))

  none_is : p.steps ≡ [] → length p.steps ≡ 0
  none_is is = ap (λ (ss : List PlanStep). length ss) is

  first_inside : (j k : ConId) (js ks : List ConId) → j ∷ js ≡ k ∷ ks → j ≡ k
  first_inside j k js ks e = cc

  -- each tree of the plan is one of the last name
  pub tree_named : (n : Name) → IsLastName p (Some n) → (t : Tree) → IsPlanTree p t → HasTree p n t
  tree_named n (inl (before, last, is, n_is)) t (inl (front, end, are, tree)) =
      subst (λ (m : Name). HasTree p m t) (last_named front end are ∙ sym (last_named before last is) ∙ sym n_is) tree
  tree_named n (inl (before, last, is, n_is)) t (inr (k, none, leaves_are, t_is)) =
      (let some = some_steps before last is in let zero_long = none_is none in absurd (omega arith))
  tree_named n (inr (k, rest, none, leaves_are, n_is)) t (inl (front, end, are, tree)) =
      (let some = some_steps front end are in let zero_long = none_is none in absurd (omega arith))
  tree_named n (inr (k, rest, none, leaves_are, n_is)) t (inr (j, nothing, only, t_is)) =
      let same : k ≡ j = first_inside k j rest [] (sym leaves_are ∙ only) in
      subst (λ (u : Tree). HasTree p n u) (sym t_is) (n_is ∙ ap (λ (c : ConId). Con c.0) same)

  pub no_tree : IsLastName p None → (t : Tree) → IsPlanTree p t → ⊥
  no_tree is t (inl (front, end, are, tree)) = (let some = some_steps front end are in let zero_long = none_is is.0 in absurd (omega arith))
  no_tree is t (inr (k, none, leaves_are, t_is)) = (let never : [] ≡ k ∷ [] = sym is.1 ∙ leaves_are in absurd (cc))

  pub leaf_there : (n : Name) → IsLastName p (Some n) → ¬ (p.leaves ≡ [])
  leaf_there n (inl (before, last, is, n_is)) none =
      no_starts_no_steps g p.steps legal.steps (some_steps before last is) (nothing_mapped (λ (s : Start). s.number) (starts g) (sym legal.leaves ∙ none))
  leaf_there n (inr (k, rest, none, leaves_are, n_is)) empty = (let never : [] ≡ k ∷ rest = sym empty ∙ leaves_are in absurd (cc))

-- ---- the cluster that is left

pub record IsLeft (g : Graph) (f : Clusters) (n : Name) (c : Cluster) : Type 0 where
  pub lives : Contains f.live c
  pub named : c.name ≡ n
  pub nodes : HasNodes g c

module _ {G : Type 0} (placing : PlaceBy) (F : ℕ) (g : Graph) (p : Plan) (sound : IsSoundGraph g) (legal : IsLegalPlan g p) (live : List (Option (List (BoxAt G)))) (after : IsAfter placing F g p (length p.steps) live)
    (n : Name) (n_is : IsLastName p (Some n)) where
  whole : IsWhole g after.family
  whole = subst (λ (ss : List PlanStep). AreLegalSteps g after.family ss) (drop_all (length p.steps) p.steps (omega arith)) after.legal

  left_named : (c : Cluster) → after.family.live ≡ c ∷ [] → IsLastName p (Some n) → c.name ≡ n
  left_named c alone (inl (before, last, is, n_is)) =
      let latest = after.latest (some_steps g p legal before last is) in
      let same : c ≡ latest.0 = contains_one c latest.0 (subst (λ (cs : List Cluster). Contains cs latest.0) alone latest.1.lives) in
      ap (λ (d : Cluster). d.name) same ∙ latest.1.has_name ∙ sym (last_named g p legal before last is) ∙ sym n_is
  left_named c alone (inr (k, rest, none, leaves_are, n_is)) =
      let start : after.family ≡ initial_clusters g = after.first (none_is g p legal none) in
      let clusters_are : map start_of (starts g) ≡ c ∷ [] = ap (λ (f : Clusters). f.live) (sym start) ∙ alone in
      told (starts g) clusters_are (sym legal.leaves ∙ leaves_are)
    where
      told : (ss : List Start) → map start_of ss ≡ c ∷ [] → map (λ (s : Start). s.number) ss ≡ k ∷ rest → c.name ≡ n
      told [] a b = cc
      told (s ∷ ss) a b = (
          let c_is : start_of s ≡ c = cc in
          let k_is : s.number ≡ k = cc in
          ap (λ (d : Cluster). d.name) (sym c_is) ∙ ap (λ (j : ConId). Con j.0) k_is ∙ sym n_is)

  pub left : (c : Cluster) × IsLeft g after.family n c
  left = elim whole [
    | inl (c, alone, nodes) ↦ (c, record { lives = subst (λ (cs : List Cluster). Contains cs c) (sym alone) (contains_head c []); named = left_named c alone n_is; nodes = nodes })
    | inr (one, no_edges, no_blocks) ↦ absurd (leaf_there g p legal n n_is (legal.leaves ∙ ap (map (λ (s : Start). s.number)) (no_starts g no_edges no_blocks)))
  ]

  pub left_there : IsThere g live n
  left_there = subst (λ (m : Name). IsThere g live m) left.1.named (after.there left.0 left.1.lives)

  module _ (bs : List (BoxAt G)) (is : held F g live n ≡ Some bs) where
    left_placed : ArePlaced placing F g p left.0 bs
    left_placed = after.placed left.0 left.1.lives bs (subst (λ (m : Name). held F g live m ≡ Some bs) (sym left.1.named) is)

    pub left_boxes : (t : Tree) → IsPlanTree p t → HasBoxes placing F g p.steps t bs
    left_boxes t h = left_placed.trees t (subst (λ (m : Name). HasTree p m t) (sym left.1.named) (tree_named g p legal n n_is t h))

    pub left_bounded : AreBounded F bs
    left_bounded = left_placed.bounded

    left_rises : Rise bs
    left_rises = rise_of bs left.0.elements left_placed.elements (after.sound.bodies_rise left.0 left.1.lives).elements

    pub left_nodes : nodes_of bs ≡ g.nodes
    left_nodes =
        let node : BoxAt G → Node = λ b. record { elem = b.elem; kind = kind_of b.at } in
        let R : Node → Node → Type 0 = λ x y. x.elem.0 < y.elem.0 in
        pairs_same R (λ x h. absurd (omega arith)) (λ x y h k. absurd (omega arith)) (nodes_of bs) g.nodes (pairs_map R node bs left_rises) sound.nodes_rise
        (λ n h. let from = mapped_from node bs n h in subst (λ (m : Node). Contains g.nodes m) from.2 (left_placed.kinds from.0 from.1))
        (λ m m_in.
        let there : Holds bs m.elem = subst (λ (es : List Elem). Contains es m.elem) (sym left_placed.elements) (left.1.nodes m m_in) in
        let found = held_box bs m.elem there in
        let has : HasNode g m.elem (kind_of found.0.at) = subst (λ (e : Elem). HasNode g e (kind_of found.0.at)) found.1.is (left_placed.kinds found.0 found.1.there) in
        let kind : kind_of found.0.at ≡ m.kind = one_kind g sound m.elem (kind_of found.0.at) m.kind has m_in in
        subst (λ (x : Node). Contains (nodes_of bs) x)
        (ap (λ (e : Elem). record { elem = e; kind = kind_of found.0.at }) found.1.is ∙ ap (λ (k : Kind). record { elem = m.elem; kind = k }) kind)
        (contains_mapped node bs found.0 found.1.there))

-- ---- an element alone

lone_kind : (G : Type 0) (F : ℕ) (kind : Kind) → kind_of {G = G} (lone_box F kind) ≡ kind
lone_kind G F Kind.Point = refl
lone_kind G F Kind.Line = refl

lone_each : (G : Type 0) (F : ℕ) (ns : List Node) → nodes_of {G = G} (map (λ (n : Node). record { elem = n.elem; at = lone_box F n.kind }) ns) ≡ ns
lone_each G F [] = refl
lone_each G F (n ∷ ns) =
    ap (λ (k : Kind). record { elem = n.elem; kind = k } ∷ nodes_of {G = G} (map (λ (m : Node). record { elem = m.elem; at = lone_box F m.kind }) ns)) (lone_kind G F n.kind)
    ∙ ap (λ (ms : List Node). n ∷ ms) (lone_each G F ns)

pub lone_nodes : {G : Type 0} (F : ℕ) (g : Graph) (bs : List (BoxAt G)) → bs ≡ lone_boxes F g → nodes_of bs ≡ g.nodes
lone_nodes {G} F g bs is = ap nodes_of is ∙ lone_each G F g.nodes

lone_inside : (G H : Type 0) (F k : ℕ) (kind : Kind) → IsBoxInside {G = G} {H = H} k (lone_box (F + k) kind) (lone_box F kind)
lone_inside G H F k Kind.Point = (whole-IsInside F k (pos 0), whole-IsInside F k (pos 0))
lone_inside G H F k Kind.Line = (whole-IsInside F k (pos 0), whole-IsInside F k (pos 1), whole-IsInside F k (pos 0))

lone_each_inside : (G H : Type 0) (F k : ℕ) (ns : List Node)
    → AreInside {G = G} {H = H} k (map (λ (n : Node). record { elem = n.elem; at = lone_box (F + k) n.kind }) ns) (map (λ (n : Node). record { elem = n.elem; at = lone_box F n.kind }) ns)
lone_each_inside G H F k [] = tt
lone_each_inside G H F k (n ∷ ns) = (refl, lone_inside G H F k n.kind, lone_each_inside G H F k ns)

pub lone_kept : (H : Type 0) {G : Type 0} (F k : ℕ) (g : Graph) (bs : List (BoxAt G)) → bs ≡ lone_boxes F g → AreInside {G = H} k (lone_boxes (F + k) g) bs
lone_kept H {G} F k g bs is = subst (λ (xs : List (BoxAt G)). AreInside {G = H} k (lone_boxes (F + k) g) xs) (sym is) (lone_each_inside H G F k g.nodes)

pub kept_of : (G : Type 0) (placing : PlaceBy) (F : ℕ) (g : Graph) (p : Plan) (e : PlaceError) → (let refused : Result (List (Option (List (BoxAt G)))) PlaceError = Err e in IsRun placing F g p refused)
    → placing ≡ Boxes → (k : ℕ) → (let refused : Result (List (BoxAt G)) PlaceError = Err e in IsKept F k g p refused)
kept_of G placing F g p (Fault f) h by k = h.1 by k
kept_of G placing F g p NoMemory h by k = tt

-- ---- an element alone is within its limits

whole_within : (k F : ℕ) → IsWithin k F (whole_number F (pos 0))
whole_within k F = (omega (arith, ints), omega (arith, ints))

one_within : (F : ℕ) → IsWithin 1 F (whole_number F (pos 1))
one_within F = (let wide = power_below F (1 + F) (omega arith) in (omega (arith, ints, wide), omega (arith, ints, wide)))

lone_box_bounded : (G : Type 0) (F : ℕ) (kind : Kind) → IsBoundedBox {G = G} F (lone_box F kind)
lone_box_bounded G F Kind.Point = (whole_within 40 F, whole_within 40 F)
lone_box_bounded G F Kind.Line = (whole_within 1 F, one_within F, whole_within 40 F)

pub lone_bounded : {G : Type 0} (F : ℕ) (g : Graph) (bs : List (BoxAt G)) → bs ≡ lone_boxes F g → AreBounded F bs
lone_bounded {G} F g bs is = subst (λ (xs : List (BoxAt G)). AreBounded F xs) (sym is)
    (λ k d below. (let make : Node → BoxAt G = λ n. record { elem = n.elem; at = lone_box F n.kind } in
    let there = mapped_from make g.nodes (get_or (map make g.nodes) k d) (Contains-get_or (map make g.nodes) k d below) in
    subst (λ (b : BoxAt G). IsBoundedBox F b.at) there.2 (lone_box_bounded G F there.0.kind)))
