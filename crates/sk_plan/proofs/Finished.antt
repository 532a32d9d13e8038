-- What a legal plan tells of its graph: how many steps it has, that no constraint is too many anywhere,
-- and that the leaves of its tree are all constraints.
use Rattle.std.proofs.Common.{◌≡◌, ◌≢◌, inl, inr, ℕ, ◌+◌, ◌-◌, ◌*◌, ◌<◌, ◌≤◌, List, [], ◌∷◌, ◌++◌, length, ap, sym, subst, ◌∙◌, refl, arith}
use Rattle.std.specs.Prelude.{Contains, map}
use Rattle.std.proofs.lemmas.List.{length-map}
use Rattle.std.proofs.lemmas.List.Elements.{Contains-push, All-contains}
use Rattle.sk_base.specs.declared.Elem.{Elem}
use Rattle.sk_base.specs.declared.ConId.{ConId}
use Rattle.sk_base.specs.declared.Edge.{Edge}
use Rattle.sk_base.specs.declared.Pin.{Pin}
use Rattle.sk_base.specs.declared.Kind.TheVariants.{Point}
use Rattle.sk_base.specs.declared.Graph.{Graph}
use Rattle.sk_base.specs.declared.Measure.{Measure}
use Rattle.sk_base.specs.declared.Measure.TheVariants.{PointPoint, PointLine, LineLine}
use Rattle.sk_base.specs.declared.Name.TheVariants.{Step as StepName}
use Rattle.sk_base.specs.Numbering.{elem_number, is_elem}
use Rattle.sk_base.specs.SoundGraph.{IsSoundGraph, HasNode, Measures}
use Rattle.sk_base.proofs.Members.{contains_none, contains_cases, contains_head, contains_later, contains_one, contains_mapped, mapped_from}
use Rattle.sk_base.proofs.Distinct.{no_longer}
use Rattle.sk_base.proofs.Pairs.{pairs_none, pairs_cons, pairs_map}
use Rattle.sk_family.specs.declared.Cluster.{Cluster}
use Rattle.sk_family.specs.Body.{Body, Start, starts, IsRisingBody, starting, initial_bodies}
use Rattle.sk_family.specs.Clusters.{Clusters, body_of, bodies, start_of, initial_clusters, unnamed, whole_from}
use Rattle.sk_family.proofs.Bodies.{Within, whole_within, same_within}
use Rattle.sk_family.proofs.GraphStarts.{start_comes, starts_rise, starts_many, no_starts, from_start}
use Rattle.sk_family.proofs.Soundness.{sound_initial}
use Rattle.sk_rules.specs.declared.Taken.{Taken}
use Rattle.sk_family.specs.Merges.{names_of}
use Rattle.sk_rules.specs.Merges.{merged}
use Rattle.sk_rules.specs.Reach.{AreAmong, Step, Reach, IsClosed, IsNormal}
use Rattle.sk_rules.specs.Excess.{weight_of, weight_where, is_inside, is_owned, held, OwnsEnough, AreConstraints}
use Rattle.sk_rules.proofs.SummedWeights.{found_inside}
use Rattle.sk_rules.proofs.WeighedGraphs.{sound_two_each, owned_count}
use Rattle.sk_rules.specs.Taking.{Leads}
use Rattle.sk_rules.proofs.Families.{kept_along}
use Rattle.sk_rules.proofs.NormalForm.{reach_covers}
use Rattle.sk_rules.proofs.Counting.{IsTight, owned_is_held, reached_tight}
use Rattle.sk_base.proofs.Numbers.{found_elem}
use Rattle.sk_base.specs.Pins.{elements_of}
use Rattle.sk_tree.specs.declared.Tree.{Tree}
use Rattle.sk_tree.specs.Trees.{IsTreeOf}
use Rattle.sk_tree.specs.LegalPlan.{numbers_of, HasNodes}
use Rattle.sk_verdict.specs.Parts.{elem_of}
use Rattle.sk_plan.specs.Sparse.{weight_within, weight_among, EachMeetsOnce, IsSparse, HasFewAngles, AreDistinct}
use Rattle.sk_plan.specs.Judged.{HoldsWhatIsDue}
use Rattle.sk_plan.specs.Runs.{EachTakesOnce}
use Rattle.sk_plan.specs.Leaves.{HasLeaves}
use Rattle.sk_plan.proofs.Counts.{count_all, whole_weight}
use Rattle.sk_plan.proofs.Joined.{run_once, joins_lessen}
use Rattle.sk_plan.proofs.Grown.{IsGrown, initial_grown, grown_end}
use Rattle.sk_plan.proofs.Sparsity.{sparse_all, few_angles_all}

-- what is held among some elements weighs no more than all that is there
held_among : (g : Graph) (xs : List Elem) → held g xs ≤ weight_among g xs
held_among g xs = whole_weight (is_inside xs) (weight_within xs) (starts g) (λ s s_in passes. (
    let all = count_all (is_elem xs) s.elements (λ e e_in. found_elem xs e (found_inside xs s passes e e_in)) in omega arith))

-- all elements and all constraints of the graph
abbrev pub everything : Graph → Body
everything g = record { elements = map elem_of g.nodes; owned = numbers_of g }

module _ (g : Graph) (sound : IsSoundGraph g) where
  everything_rises : IsRisingBody (everything g)
  everything_rises = record {
    elements = pairs_map (λ (x y : Elem). x.0 < y.0) elem_of g.nodes sound.nodes_rise;
    owned = pairs_map (λ (j k : ConId). j.0 < k.0) (λ (s : Start). s.number) (starts g) (starts_rise g sound.edges_rise);
  }

  pub numbers_are_constraints : AreConstraints g (numbers_of g)
  numbers_are_constraints = record {
    rise = everything_rises.owned;
    few = (let count = length-map (starts g) (λ (s : Start). s.number) in let all = starts_many g sound in let few = sound.few_constraints in omega arith);
    there = λ k h. mapped_from (λ (s : Start). s.number) (starts g) k h;
  }

  ends_are_nodes : (e : Edge) (m : Measure) → Measures g e.u e.v m → Contains (map elem_of g.nodes) e.u × Contains (map elem_of g.nodes) e.v
  ends_are_nodes e (PointPoint len) (u_in, v_in, most) = (contains_mapped elem_of g.nodes _ u_in, contains_mapped elem_of g.nodes _ v_in)
  ends_are_nodes e (PointLine len side) (u_in, v_in, most) = (contains_mapped elem_of g.nodes _ u_in, contains_mapped elem_of g.nodes _ v_in)
  ends_are_nodes e (LineLine ratio sense) (u_in, v_in, is_sound) = (contains_mapped elem_of g.nodes _ u_in, contains_mapped elem_of g.nodes _ v_in)

  elements_are_nodes : (s : Start) → Contains (starts g) s → (x : Elem) → Contains s.elements x → Contains (map elem_of g.nodes) x
  elements_are_nodes s s_in x x_in =
      elim (start_comes g s s_in) [
        | inr (e, e_in, is) ↦ (
            let ends = ends_are_nodes e e.measure (sound.edges_measure e e_in) in
            elim (contains_cases e.u (e.v ∷ []) x (from_start (e.u ∷ e.v ∷ []) x (subst (λ (t : Start). Contains t.elements x) (sym is) x_in))) [
              | inl left ↦ subst (λ y. Contains (map elem_of g.nodes) y) left ends.0
              | inr right ↦ subst (λ y. Contains (map elem_of g.nodes) y) (contains_one e.v x right) ends.1
            ])
        | inl (b, b_in, is) ↦ (
            let pin = mapped_from (λ (pin : Pin). pin.elem) b.pins x (from_start (elements_of b.pins) x (subst (λ (t : Start). Contains t.elements x) (sym is) x_in)) in
            let point = All-contains (λ (q : Pin). HasNode g q.elem Point) b.pins pin.0 (sound.blocks_sound b b_in).at_points pin.1 in
            subst (λ y. Contains (map elem_of g.nodes) y) pin.2 (contains_mapped elem_of g.nodes _ point))
      ]

  starts_within : (s : Start) → Contains (starts g) s → Within (starting s) (everything g)
  starts_within s s_in = record {
    elements = elements_are_nodes s s_in;
    owned = λ k h. subst (λ j. Contains (numbers_of g) j) (contains_one s.number k h) (contains_mapped (λ (t : Start). t.number) (starts g) s s_in);
  }

  abbrev AllWithin : List Body → Type 0
  AllWithin f = (x : Body) → Contains f x → Within x (everything g)

  all_start : AllWithin (initial_bodies g)
  all_start x x_in = (let found = mapped_from starting (starts g) x x_in in subst (λ (y : Body). Within y (everything g)) found.2 (starts_within found.0 found.1))

  all_step : (old new : List Body) → Step g old new → AllWithin old → AllWithin new
  all_step old new one inside x x_in =
      elim ((one.replaces x).0 x_in) [
        | inl is ↦ subst (λ (y : Body). Within y (everything g)) (sym is) (whole_within one.merged (λ y y_in. inside y (one.among y y_in)))
        | inr stayed ↦ inside x stayed.0
      ]

  -- what merging leads to lies in the graph
  pub reached_within : (f : List Body) → Reach g (initial_bodies g) f → (x : Body) → Contains f x → Within x (everything g)
  reached_within f reached = kept_along g AllWithin all_step (initial_bodies g) f reached all_start

-- the last merge's step names a cluster of the last family
pub last_lives : (g : Graph) (f end : Clusters) (before : List Taken) (last : Taken) → Leads g f (before ++ last ∷ []) end → (c : Cluster) × Contains end.live c × (c.name ≡ last.step)
last_lives g f end [] last (taken, is) =
    let whole = whole_from (StepName f.next_step) (names_of last.merge) f.live in
    (whole, subst (λ (e : Clusters). Contains e.live whole) is (Contains-push (unnamed (names_of last.merge) f.live) whole), sym taken.is_next)
last_lives g f end (t ∷ before) last (taken, rest) = last_lives g (merged f t.merge) end before last rest

module _ (g : Graph) (sound : IsSoundGraph g) (ts : List Taken) (end : Clusters) (leads : Leads g (initial_clusters g) ts end) (each : EachTakesOnce g (initial_clusters g) ts) where
  way : (w : Reach g (initial_bodies g) (bodies end)) × EachMeetsOnce w
  way = run_once g ts end sound leads each

  pub grown : IsGrown ts end
  grown = grown_end g [] (initial_clusters g) end ts (sound_initial g sound) (initial_grown g) leads each

  -- each merge leaves two clusters fewer
  pub clusters_left : length end.live + 2 * length ts ≡ length (starts g)
  clusters_left =
      let lessen = joins_lessen g (initial_clusters g) end ts (sound_initial g sound) leads each in
      let start = length-map (starts g) start_of in
      omega arith

  module _ (c : Cluster) (alone : end.live ≡ c ∷ []) where
    body_in : Contains (bodies end) (body_of c)
    body_in = contains_mapped body_of end.live c (subst (λ cs. Contains cs c) (sym alone) (contains_head c []))

    only_body : (x : Body) → Contains (bodies end) x → x ≡ body_of c
    only_body x x_in = (let found = mapped_from body_of end.live x x_in in
        sym found.2 ∙ ap body_of (sym (contains_one c found.0 (subst (λ cs. Contains cs found.0) alone found.1))))

    tight : IsTight g (bodies end)
    tight = reached_tight g (bodies end) sound.edges_rise way.0

    -- the one cluster owns all constraints
    owns_all : (s : Start) → Contains (starts g) s → Contains c.owned s.number
    owns_all s s_in =
        let around = reach_covers g (initial_bodies g) (bodies end) way.0 (starting s) (contains_mapped starting (starts g) s s_in) in
        subst (λ (y : Body). Contains y.owned s.number) (only_body around.0 around.1) (around.2.owned s.number (contains_head s.number []))

    pub one_sparse : IsSparse g
    one_sparse = sparse_all g sound.edges_rise (bodies end) way.0 way.1 (body_of c) body_in owns_all

    pub one_few_angles : HasFewAngles g
    one_few_angles = few_angles_all g sound.edges_rise (bodies end) way.0 way.1 (body_of c) body_in owns_all (sound_two_each g sound)

    same_two : (a b : Body) (rest : List Body) → AreAmong (a ∷ b ∷ rest) (bodies end) → a ≡ b
    same_two a b rest among =
        only_body a (among a (contains_head a (b ∷ rest))) ∙ sym (only_body b (among b (contains_later a (b ∷ rest) b (contains_head b rest))))

    -- one cluster can't merge
    one_closed : IsClosed g (bodies end)
    one_closed [] among can = can
    one_closed (a ∷ []) among can = can
    one_closed (a ∷ b ∷ []) among can = can.0 (same_two a b [] among)
    one_closed (a ∷ b ∷ d ∷ []) among can = can.0 (same_two a b (d ∷ []) among)
    one_closed (a ∷ b ∷ d ∷ e ∷ rest) among can = can

    pub one_normal : IsNormal g (bodies end)
    one_normal = record { reached = way.0; closed = one_closed }

    rises : IsRisingBody (body_of c)
    rises = tight.family.rising (body_of c) body_in

    distinct : AreDistinct c.elements
    distinct i j d i_j j_len same = (let below = rises.elements i j d i_j j_len in let level = ap elem_number same in absurd (omega arith))

    two_elements : 2 ≤ length c.elements
    two_elements =
        let own = tight.family.owns (body_of c) body_in in
        let (s, s_in, is, within) = tight.inside (body_of c) body_in own.0 own.1 in
        let (a, b, differ, a_in, b_in) = sound_two_each g sound s s_in in
        no_longer (a ∷ b ∷ []) c.elements (pairs_cons (λ (d e : Elem). d ≢ e) a (b ∷ []) (pairs_cons (λ (d e : Elem). d ≢ e) b [] (pairs_none (λ (d e : Elem). d ≢ e)) (λ y h. absurd (contains_none y h)))
        (λ y h same. differ (same ∙ sym (contains_one b y h))))
        (λ e h. elim (contains_cases a (b ∷ []) e h) [
          | inl here ↦ subst (λ z. Contains c.elements z) here (within a a_in)
          | inr later ↦ subst (λ z. Contains c.elements z) (contains_one b e later) (within b b_in)
        ])

    pub one_not_over : held g c.elements + 3 ≤ 2 * length c.elements
    one_not_over =
        let few = one_sparse c.elements distinct two_elements in
        let all = held_among g c.elements in
        omega arith

    -- it owns just enough
    just_enough : weight_of g c.owned + 3 ≡ 2 * length c.elements
    just_enough =
        let enough : OwnsEnough g (body_of c) = tight.enough (body_of c) body_in in
        let all = owned_is_held g (bodies end) sound.edges_rise (sound_two_each g sound) one_normal (body_of c) body_in in
        sizes (length c.elements) (weight_of g c.owned) (held g c.elements) enough all one_not_over
      where
        sizes : (n o h : ℕ) → 2 * n ≤ o + 3 → o ≡ h → h + 3 ≤ 2 * n → o + 3 ≡ 2 * n
        sizes n o h p q r = omega arith

    -- with all nodes it is the whole graph
    module _ (nodes : HasNodes g c) where
      pub is_everything : body_of c ≡ everything g
      is_everything = same_within (body_of c) (everything g) rises (everything_rises g sound) (reached_within g sound (bodies end) way.0 (body_of c) body_in) (record {
        elements = λ x h. (let found = mapped_from elem_of g.nodes x h in subst (λ y. Contains c.elements y) found.2 (nodes found.0 found.1));
        owned = λ k h. (let found = mapped_from (λ (s : Start). s.number) (starts g) k h in subst (λ j. Contains c.owned j) found.2 (owns_all found.0 found.1));
      })

      pub owned_are_numbers : c.owned ≡ numbers_of g
      owned_are_numbers = ap (λ (x : Body). x.owned) is_everything

      -- two steps fewer than nodes, where all constraints are between two elements
      pub one_steps : g.blocks ≡ [] → length ts + 2 ≡ length g.nodes
      one_steps none =
          let nodes_are = ap (λ (x : Body). length x.elements) is_everything in
          let edges_are = ap (λ (x : Body). length x.owned) is_everything in
          sizes (length ts) (length end.live) (length (starts g)) (weight_of g c.owned) (length c.elements) (length g.nodes)
          clusters_left (ap (λ (cs : List Cluster). length cs) alone)
          (owned_count g sound none (bodies end) way.0 (body_of c) body_in ∙ edges_are ∙ length-map (starts g) (λ (s : Start). s.number)) just_enough
          (nodes_are ∙ length-map g.nodes elem_of)
        where
          sizes : (steps last edges owned n nodes : ℕ) → last + 2 * steps ≡ edges → last ≡ 1 → owned ≡ edges → owned + 3 ≡ 2 * n → n ≡ nodes → steps + 2 ≡ nodes
          sizes steps last edges owned n nodes p q r s t = omega arith

      -- all constraints weigh what is due for all nodes
      pub one_due : HoldsWhatIsDue g
      one_due =
          let nodes_are = ap (λ (x : Body). length x.elements) is_everything ∙ length-map g.nodes elem_of in
          due (weight_of g c.owned) (length c.elements) (length g.nodes) (weight_of g (numbers_of g)) just_enough nodes_are (ap (λ ks. weight_of g ks) owned_are_numbers)
        where
          due : (owned n nodes all : ℕ) → owned + 3 ≡ 2 * n → n ≡ nodes → owned ≡ all → all ≡ 2 * nodes - 3
          due owned n nodes all p q r = omega arith

      -- the leaves of the last step's tree are all constraints
      pub last_leaves : (before : List Taken) (last : Taken) → ts ≡ before ++ last ∷ [] → (t : Tree) → IsTreeOf ts last.step t → HasLeaves t (numbers_of g)
      last_leaves before last is t tree =
          let lives = last_lives g (initial_clusters g) end before last (subst (λ (us : List Taken). Leads g (initial_clusters g) us end) is leads) in
          let same : c ≡ lives.0 = contains_one c lives.0 (subst (λ cs. Contains cs lives.0) alone lives.1) in
          let name : last.step ≡ c.name = sym lives.2 ∙ ap (λ (d : Cluster). d.name) (sym same) in
          subst (λ ks. HasLeaves t ks) owned_are_numbers
          (grown.leaves c (subst (λ cs. Contains cs c) (sym alone) (contains_head c [])) t (subst (λ n. IsTreeOf ts n t) name tree))

-- where there is no constraint, nothing is due for one node
pub none_due : (g : Graph) → length g.nodes ≡ 1 → g.edges ≡ [] → g.blocks ≡ [] → HoldsWhatIsDue g
none_due g one none no_blocks =
    let nothing : weight_of g (numbers_of g) ≡ 0 = ap (λ (ss : List Start). weight_where (is_owned (numbers_of g)) ss) (no_starts g none no_blocks) in
    omega arith

-- where there is no constraint there is no step
pub no_steps : (g : Graph) (sound : IsSoundGraph g) (ts : List Taken) (end : Clusters) → Leads g (initial_clusters g) ts end → EachTakesOnce g (initial_clusters g) ts → g.edges ≡ [] → g.blocks ≡ [] → ts ≡ []
no_steps g sound [] end leads each none no_blocks = refl
no_steps g sound (t ∷ ts) end leads each none no_blocks =
    let left = clusters_left g sound (t ∷ ts) end leads each in
    let edges : length (starts g) ≡ 0 = ap (λ (ss : List Start). length ss) (no_starts g none no_blocks) in
    absurd (omega arith)
