-- Where the verdict is well, one cluster with all nodes is left that isn't over, or there is one node,
-- no constraint and no block.
use Rattle.std.proofs.Common.{◌≡◌, ◌⊎◌, inl, inr, refl, ℕ, ◌+◌, ◌-◌, ◌*◌, ◌≤◌, ◌<◌, Bool, true, false, List, [], ◌∷◌, length, get_or, ap, sym, subst, ◌∙◌, arith}
use Rattle.std.proofs.lemmas.List.Elements.{Contains-get_or}
use Rattle.std.specs.Prelude.{Contains, AllPairs, map, nat_lt, if◌then◌else◌, ◌||◌}
use Rattle.std.specs.List.{list_any}
use Rattle.std.proofs.lemmas.Bool.Decides.{nat_tests}
use Rattle.sk_base.specs.declared.Elem.{Elem}
use Rattle.sk_base.specs.declared.Pin.{Pin}
use Rattle.sk_base.specs.declared.Node.{Node}
use Rattle.sk_base.specs.declared.Graph.{Graph}
use Rattle.sk_base.specs.ClusterNames.{IsBelow}
use Rattle.sk_base.specs.SoundGraph.{IsSoundGraph, HasRisingNodes}
use Rattle.sk_base.proofs.Pairs.{pairs_head}
use Rattle.sk_base.proofs.Members.{contains_none, contains_head, contains_later, contains_one, contains_cases, contains_mapped}
use Rattle.sk_base.specs.Pins.{elements_of}
use Rattle.sk_family.specs.declared.Cluster.{Cluster}
use Rattle.sk_family.specs.Body.{Body, Start, edge_start, block_start, starts, starting, initial_bodies}
use Rattle.sk_family.specs.Clusters.{Clusters, body_of, bodies, IsSound}
use Rattle.sk_base.proofs.Deciding.{elem_settles}
use Rattle.sk_family.proofs.GraphStarts.{edge_starts, block_starts, among_start}
use Rattle.sk_family.proofs.Naming.{below_differs, one_of_body}
use Rattle.sk_rules.specs.Excess.{held}
use Rattle.sk_rules.specs.Reach.{IsNormal}
use Rattle.sk_rules.proofs.NormalForm.{reach_covers}
use Rattle.sk_rules.proofs.Keeping.{contains_settles}
use Rattle.sk_tree.specs.LegalPlan.{IsWhole}
use Rattle.sk_verdict.specs.declared.Judgement.{Judgement}
use Rattle.sk_verdict.specs.declared.Part.{Part}
use Rattle.sk_verdict.specs.declared.Verdict.TheVariants.{Well, Over, Several}
use Rattle.sk_verdict.specs.Judging.{IsJudgement, some_over}
use Rattle.sk_verdict.specs.Parts.{IsNamedByNone, IsLone, elem_of, part_with}
use Rattle.sk_verdict.proofs.Normals.{more_than_one, has_two, same_elements}
use Rattle.sk_plan.specs.Sparse.{HoldsNoneTooMany}

-- a list with at most one item
pub few_same : {X : Type 0} (xs : List X) (x y : X) → length xs ≤ 1 → Contains xs x → Contains xs y → x ≡ y
few_same [] x y few x_in y_in = absurd (contains_none x x_in)
few_same (z ∷ []) x y few x_in y_in = sym (contains_one z x x_in) ∙ contains_one z y y_in
few_same (z ∷ w ∷ xs) x y few x_in y_in = absurd (omega arith)

pub well_told : (over several : Bool) → (if over then Over else (if several then Several else Well)) ≡ Well → (over ≡ false) × (several ≡ false)
well_told true several is = absurd (cc)
well_told false true is = absurd (cc)
well_told false false is = (refl, refl)

pub none_any : {X : Type 0} (p : X → Bool) (xs : List X) → list_any p xs ≡ false → (x : X) → Contains xs x → p x ≡ false
none_any p [] none x x_in = absurd (contains_none x x_in)
none_any p (y ∷ xs) none x x_in =
    let both = neither (p y) (list_any p xs) none in
    elim (contains_cases y xs x x_in) [
      | inl here ↦ subst (λ z. p z ≡ false) here both.0
      | inr later ↦ none_any p xs both.1 x later
    ]
  where
    neither : (a b : Bool) → (a || b) ≡ false → (a ≡ false) × (b ≡ false)
    neither false b is = (refl, is)
    neither true b is = absurd (cc)

-- one of some constraints names the element, or none
named_by : (ss : List Start) (e : Elem) → ((s : Start) × Contains ss s × Contains s.elements e) ⊎ ((s : Start) → Contains ss s → ¬ Contains s.elements e)
named_by [] e = inr (λ s s_in. absurd (contains_none s s_in))
named_by (s ∷ ss) e =
    elim (contains_settles elem_settles s.elements e) [
      | inl here ↦ inl (s, contains_head s ss, here)
      | inr not_here ↦ elim (named_by ss e) [
        | inl found ↦ inl (found.0, contains_later s ss found.0 found.1, found.2)
        | inr by_none ↦ inr (λ t t_in. elim (contains_cases s ss t t_in) [
          | inl is ↦ subst (λ (u : Start). ¬ Contains u.elements e) is not_here
          | inr later ↦ by_none t later
        ])
      ]
    ]

-- what no start has is named by none
pub by_none_named : (g : Graph) → IsSoundGraph g → (e : Elem) → ((s : Start) → Contains (starts g) s → ¬ Contains s.elements e) → IsNamedByNone g e
by_none_named g sound e none = (
  λ k d k_in. (
      let edge = get_or g.edges k d in
      let apart = none (edge_start edge) (edge_starts g edge (Contains-get_or g.edges k d k_in)) in (
        λ is. apart (subst (λ z. Contains (edge_start edge).elements z) is (among_start (edge.u ∷ edge.v ∷ []) edge.u (contains_head edge.u (edge.v ∷ [])))),
        λ is. apart (subst (λ z. Contains (edge_start edge).elements z) is (among_start (edge.u ∷ edge.v ∷ []) edge.v (contains_later edge.u (edge.v ∷ []) edge.v (contains_head edge.v [])))),
      )),
  λ k d k_in i q i_in is. (
      let block = get_or g.blocks k d in
      let pin = get_or block.pins i q in
      none (block_start block) (block_starts g sound.blocks_rise sound.blocks_apart block (Contains-get_or g.blocks k d k_in))
      (subst (λ z. Contains (block_start block).elements z) is
      (among_start (elements_of block.pins) pin.elem (contains_mapped (λ (p : Pin). p.elem) block.pins pin (Contains-get_or block.pins i q i_in))))),
)

-- a list with no item
pub no_items : {X : Type 0} (xs : List X) → ((x : X) → Contains xs x → ⊥) → xs ≡ []
no_items [] none = refl
no_items (x ∷ xs) none = absurd (none x (contains_head x xs))

module _ (g : Graph) (sound : IsSoundGraph g) (f : Clusters) (family : IsSound f) (normal : IsNormal g (bodies f)) (j : Judgement) (judged : IsJudgement g (bodies f) j) (well : j.verdict ≡ Well) where
  told : (some_over j.parts ≡ false) × (nat_lt 1 (length j.parts) ≡ false)
  told = well_told (some_over j.parts) (nat_lt 1 (length j.parts)) (sym judged.verdict ∙ well)

  few : length j.parts ≤ 1
  few = (let no = told.1 in grind (arith, nat_tests))

  body_part : (x : Body) → Contains (bodies f) x → Contains j.parts (part_with g x.elements)
  body_part x x_in = (judged.parts (part_with g x.elements)).1 (inl (x, x_in, refl), refl)

  lone_part : (e : Elem) → IsLone g e → Contains j.parts (part_with g (e ∷ []))
  lone_part e lone = (judged.parts (part_with g (e ∷ []))).1 (inr (e, lone, refl), refl)

  -- no body holds too many
  pub none_too_many : HoldsNoneTooMany g (bodies f)
  none_too_many x x_in =
      let not_over = none_any (λ (p : Part). nat_lt p.due p.held) j.parts told.0 (part_with g x.elements) (body_part x x_in) in
      few_held (held g x.elements) (length x.elements) not_over (two_or_more x x_in)
    where
      few_held : (h n : ℕ) → nat_lt (2 * n - 3) h ≡ false → 2 ≤ n → h + 3 ≤ 2 * n
      few_held h n not_over two = grind (arith, nat_tests)

      two_or_more : (x : Body) → Contains (bodies f) x → 2 ≤ length x.elements
      two_or_more x x_in = by_length x.elements refl
        where
          by_length : (es : List Elem) → x.elements ≡ es → 2 ≤ length x.elements
          by_length [] is = (let own = has_two g (bodies f) sound normal x x_in in absurd (contains_none own.0 (subst (λ zs. Contains zs own.0) is own.3)))
          by_length (e ∷ []) is = absurd (more_than_one g (bodies f) sound normal x x_in e is)
          by_length (e ∷ d ∷ es) is = (let many = ap (λ (zs : List Elem). length zs) is in omega arith)

  -- all bodies are one
  one_body : (x y : Body) → Contains (bodies f) x → Contains (bodies f) y → x ≡ y
  one_body x y x_in y_in =
      let parts = few_same j.parts (part_with g x.elements) (part_with g y.elements) few (body_part x x_in) (body_part y y_in) in
      same_elements g (bodies f) sound normal x y x_in y_in (ap (λ (p : Part). p.elements) parts)

  one_cluster : (c d : Cluster) → Contains f.live c → Contains f.live d → c ≡ d
  one_cluster c d c_in d_in = one_of_body f family c d c_in d_in (one_body (body_of c) (body_of d) (contains_mapped body_of f.live c c_in) (contains_mapped body_of f.live d d_in))

  -- each constraint lies in a body
  around : (s : Start) → Contains (starts g) s → (x : Body) × Contains (bodies f) x × ((e : Elem) → Contains s.elements e → Contains x.elements e)
  around s s_in =
      let found = reach_covers g (initial_bodies g) (bodies f) normal.reached (starting s) (contains_mapped starting (starts g) s s_in) in
      (found.0, found.1, found.2.elements)

  -- a node is in the body, or alone
  node_in : (n : Node) → Contains g.nodes n → ((x : Body) × Contains (bodies f) x × Contains x.elements n.elem) ⊎ IsLone g n.elem
  node_in n n_in = elim (named_by (starts g) n.elem) [
    | inl (s, s_in, there) ↦ (let it = around s s_in in inl (it.0, it.1, it.2 n.elem there))
    | inr by_none ↦ inr (record { is_node = contains_mapped elem_of g.nodes n n_in; named_by_none = by_none_named g sound n.elem by_none })
  ]

  -- with no body there is no constraint, and each node is alone
  nothing_starts : f.live ≡ [] → (s : Start) → ¬ Contains (starts g) s
  nothing_starts none s s_in =
      let it = around s s_in in
      contains_none it.0 (subst (λ cs. Contains (map body_of cs) it.0) none it.1)

  no_constraints : f.live ≡ [] → (g.edges ≡ []) × (g.blocks ≡ [])
  no_constraints none = (
    no_items g.edges (λ e e_in. nothing_starts none (edge_start e) (edge_starts g e e_in)),
    no_items g.blocks (λ b b_in. nothing_starts none (block_start b) (block_starts g sound.blocks_rise sound.blocks_apart b b_in)),
  )

  alone_if_none : f.live ≡ [] → (n : Node) → Contains g.nodes n → IsLone g n.elem
  alone_if_none none n n_in = elim (node_in n n_in) [
    | inl it ↦ absurd (contains_none it.0 (subst (λ cs. Contains (map body_of cs) it.0) none it.1))
    | inr lone ↦ lone
  ]

  -- two nodes that are alone are one
  one_alone : (m n : Node) → IsLone g m.elem → IsLone g n.elem → m.elem ≡ n.elem
  one_alone m n m_lone n_lone =
      let parts = few_same j.parts (part_with g (m.elem ∷ [])) (part_with g (n.elem ∷ [])) few (lone_part m.elem m_lone) (lone_part n.elem n_lone) in
      let lists : m.elem ∷ [] ≡ n.elem ∷ [] = ap (λ (p : Part). p.elements) parts in
      cc

  one_node : f.live ≡ [] → 0 < length g.nodes → (ns : List Node) → g.nodes ≡ ns → length g.nodes ≡ 1
  one_node none some [] is = (let no = ap (λ (ns : List Node). length ns) is in absurd (omega arith))
  one_node none some (n ∷ []) is = ap (λ (ns : List Node). length ns) is
  one_node none some (m ∷ n ∷ ns) is =
      let rise : HasRisingNodes (record { nodes = m ∷ n ∷ ns; edges = g.edges; blocks = g.blocks }) = subst (λ (ps : List Node). HasRisingNodes (record { nodes = ps; edges = g.edges; blocks = g.blocks })) is sound.nodes_rise in
      let below = pairs_head (λ (x y : Node). x.elem.0 < y.elem.0) m (n ∷ ns) rise n (contains_head n ns) in
      let m_in : Contains g.nodes m = subst (λ ps. Contains ps m) (sym is) (contains_head m (n ∷ ns)) in
      let n_in : Contains g.nodes n = subst (λ ps. Contains ps n) (sym is) (contains_later m (n ∷ ns) n (contains_head n ns)) in
      let level = ap (λ (e : Elem). e.0) (one_alone m n (alone_if_none none m m_in) (alone_if_none none n n_in)) in
      absurd (omega arith)

  -- a lone node's part is not that of a body
  not_alone : (x : Body) → Contains (bodies f) x → (e : Elem) → ¬ IsLone g e
  not_alone x x_in e lone =
      let parts = few_same j.parts (part_with g x.elements) (part_with g (e ∷ [])) few (body_part x x_in) (lone_part e lone) in
      more_than_one g (bodies f) sound normal x x_in e (ap (λ (p : Part). p.elements) parts)

  pub whole : 0 < length g.nodes → IsWhole g f
  whole some = by_live f.live refl
    where
      by_live : (cs : List Cluster) → f.live ≡ cs → IsWhole g f
      by_live [] is = (let none = no_constraints is in inr (one_node is some g.nodes refl, none.0, none.1))
      by_live (c ∷ []) is =
          let c_in : Contains f.live c = subst (λ ds. Contains ds c) (sym is) (contains_head c []) in
          let x_in = contains_mapped body_of f.live c c_in in
          inl (
            c,
            is,
            λ n n_in. elim (node_in n n_in) [
              | inl it ↦ subst (λ (x : Body). Contains x.elements n.elem) (one_body it.0 (body_of c) it.1 x_in) it.2
              | inr lone ↦ absurd (not_alone (body_of c) x_in n.elem lone)
            ],
          )
      by_live (c ∷ d ∷ ds) is =
          let c_in : Contains f.live c = subst (λ es. Contains es c) (sym is) (contains_head c (d ∷ ds)) in
          let d_in : Contains f.live d = subst (λ es. Contains es d) (sym is) (contains_later c (d ∷ ds) d (contains_head d ds)) in
          let rise = subst (λ (es : List Cluster). AllPairs (λ (a b : Cluster). IsBelow a.name b.name) es) is family.names_rise in
          let below = pairs_head (λ (a b : Cluster). IsBelow a.name b.name) c (d ∷ ds) rise d (contains_head d ds) in
          absurd (below_differs c.name d.name below (ap (λ (a : Cluster). a.name) (one_cluster c d c_in d_in)))
