-- What is left out of a segment that is settled at once, and of its halves.
use Rattle.std.proofs.Common.{◌≡◌, ◌≢◌, ◌⊎◌, inl, inr, refl, ℕ, ◌+◌, ◌*◌, ◌<◌, ◌≤◌, ◌==◌, Bool, true, false, cond, List, [], ◌∷◌, ◌++◌, length, take, drop, ap, sym, subst, ◌∙◌, arith}
use Rattle.std.specs.Prelude.{Contains, map, filter, not, sum_by, AllPairs, ◌&&◌}
use Rattle.std.proofs.lemmas.Bool.{and_parts, and_from, false_from_ne_true}
use Rattle.std.proofs.lemmas.Bool.Decides.{nat_tests}
use Rattle.std.proofs.lemmas.List.{length-map, take-append-drop}
use Rattle.std.proofs.lemmas.List.Filters.{length-filter_both}
use Rattle.std.proofs.lemmas.List.Folds.{Any-from_list_any, list_any-from_Any}
use Rattle.sk_base.specs.declared.Elem.{Elem}
use Rattle.sk_base.specs.declared.ConId.{ConId}
use Rattle.sk_base.specs.declared.Graph.{Graph}
use Rattle.sk_base.specs.SoundGraph.{IsSoundGraph}
use Rattle.sk_base.specs.Numbering.{elem_number, con_number}
use Rattle.sk_base.specs.Rising.{IsRising}
use Rattle.sk_base.proofs.Deciding.{elem_settles, con_settles}
use Rattle.sk_base.proofs.Distinct.{no_longer}
use Rattle.sk_base.proofs.Members.{contains_none, contains_head, contains_later, contains_cases, contains_one, contains_mapped, mapped_from, contains_filtered, filtered_from}
use Rattle.sk_base.proofs.Pairs.{pairs_filter, pairs_cons}
use Rattle.sk_base.proofs.Splits.{in_take, in_drop, in_either, pairs_take, pairs_drop, pairs_across}
use Rattle.sk_family.specs.declared.Cluster.{Cluster}
use Rattle.sk_family.specs.Body.{Body, Start, starts, starting, initial_bodies, nothing, edge_start, block_start}
use Rattle.sk_family.specs.Clusters.{Clusters, bodies, body_of}
use Rattle.sk_family.proofs.GraphStarts.{starts_few, no_starts, edge_starts, block_starts}
use Rattle.sk_rules.specs.Excess.{weight_where, weight_of, is_owned, AreConstraints}
use Rattle.sk_rules.specs.JustSome.{with_just}
use Rattle.sk_rules.specs.Reach.{Reach, IsClosed, IsNormal, stays}
use Rattle.sk_rules.proofs.Closing.{no_merge_of_one}
use Rattle.sk_rules.proofs.Counting.{reached_tight}
use Rattle.sk_rules.proofs.JustSome.{sound_part, starts_of_part, all_pass}
use Rattle.sk_rules.proofs.Keeping.{can_carry, contains_settles}
use Rattle.sk_base.proofs.Filters.{same_tests}
use Rattle.sk_rules.proofs.SummedWeights.{owned_found}
use Rattle.sk_verdict.specs.Parts.{elem_of}
use Rattle.sk_plan.proofs.Finished.{reached_within}
use Rattle.sk_spare.specs.Halving.{cluster_weight}
use Rattle.sk_spare.specs.Sparing.{IsSpare}
use Rattle.sk_spare.proofs.Deciding.{owned_constraints}
use Rattle.sk_spare.proofs.LeavingOut.{distinct}
use Rattle.sk_spare.proofs.Lighter.{weighs_the_same}
use Rattle.sk_spare.proofs.PutBack.{CanJoin}
use Rattle.sk_spare.proofs.Segments.{clusters_weigh}
use Rattle.sk_verdict.specs.OneCluster.{IsOneCluster}
use Rattle.sk_excess.specs.LeftOut.{is_kept, kept_graph, AreLeftOut}
use Rattle.sk_excess.specs.Thinning.{AreLeftOutOf, IsWithout, some_has}
use Rattle.sk_excess.proofs.SomeLess.{just_twice}
use Rattle.sk_excess.proofs.Going.{none_gone}
use Rattle.sk_excess.proofs.Halves.{there_in_all, others_normal, greater_but, less_but, all_but}
use Rattle.sk_excess.proofs.OneClusters.{one_of_holding, whole_in, all_of, whole_owns, whole_has}
use Rattle.sk_excess.proofs.Aside.{as_many_nodes, all_left, lone_left, few_left, still_one}
use Rattle.sk_excess.proofs.Choosing.{left_of_all}

-- a list of distinct items among others, which are no more, has all of these
has_all : (xs ys : List Elem) → AllPairs (λ (a b : Elem). a ≢ b) xs → ((e : Elem) → Contains xs e → Contains ys e) → length ys ≤ length xs → (e : Elem) → Contains ys e → Contains xs e
has_all xs ys apart within few e e_in =
    elim (contains_settles elem_settles xs e) [
      | inl there ↦ there
      | inr not_there ↦ absurd (
          let more = no_longer (e ∷ xs) ys
          (pairs_cons (λ (a b : Elem). a ≢ b) e xs apart (λ d d_in same. not_there (subst (λ (c : Elem). Contains xs c) (sym same) d_in)))
          (λ d h. elim (contains_cases e xs d h) [ inl here ↦ subst (λ (c : Elem). Contains ys c) here e_in | inr later ↦ within d later ]) in
          omega (arith, more, few))
    ]

same_count : (a b : ℕ) → (a == b) ≡ true → a ≡ b
same_count a b is = grind (arith, nat_tests)

count_same : (a b : ℕ) → a ≡ b → (a == b) ≡ true
count_same a b is = grind (arith, nat_tests)

-- a family of the graph has a body with all nodes just where a body has as many elements as there are nodes
module _ (g : Graph) (sound : IsSoundGraph g) (f : List Body) (normal : IsNormal g f) where
  few_elements : (y : Body) → Contains f y → length y.elements ≤ length g.nodes
  few_elements y y_in =
      let mapped : length (map elem_of g.nodes) ≡ length g.nodes = rw length-map in
      let most = no_longer y.elements (map elem_of g.nodes) (elements_apart y y_in) (reached_within g sound f normal.reached y y_in).elements in
      omega (arith, mapped, most)
    where
      elements_apart : (y : Body) → Contains f y → AllPairs (λ (a b : Elem). a ≢ b) y.elements
      elements_apart y y_in = distinct elem_number y.elements ((reached_tight g f sound.edges_rise normal.reached).family.rising y y_in).elements

  one_of_many : (y : Body) → Contains f y → length y.elements ≡ length g.nodes → IsOneCluster g
  one_of_many y y_in many =
      one_of_holding g sound f normal y y_in (λ n n_in.
      has_all y.elements (map elem_of g.nodes)
      (distinct elem_number y.elements ((reached_tight g f sound.edges_rise normal.reached).family.rising y y_in).elements)
      (reached_within g sound f normal.reached y y_in).elements
      (let mapped : length (map elem_of g.nodes) ≡ length g.nodes = rw length-map in omega (arith, mapped, many))
      n.elem (contains_mapped elem_of g.nodes n n_in))

  many_of_one : IsOneCluster g → (y : Body) × Contains f y × (length y.elements ≡ length g.nodes)
  many_of_one one =
      let here = (all_of g sound one f normal one.whole).1 (contains_head one.whole []) in
      let most = few_elements one.whole here in
      let least = as_many_nodes g sound one.whole.elements one.has_nodes in
      (one.whole, here, omega (arith, most, least))

-- the same of the clusters with these bodies
module _ (g : Graph) (sound : IsSoundGraph g) (clusters : List Cluster) (normal : IsNormal g (map body_of clusters)) where
  pub found_one : some_has (length g.nodes) clusters ≡ true → IsOneCluster g
  found_one passes =
      let (k, c, k_in, at_k, many) = Any-from_list_any (λ (c : Cluster). length c.elements == length g.nodes) clusters passes in
      one_of_many g sound (map body_of clusters) normal (body_of c) (contains_mapped body_of clusters c (k, k_in, at_k)) (same_count (length c.elements) (length g.nodes) many)

  pub found_none : some_has (length g.nodes) clusters ≡ false → ¬ IsOneCluster g
  found_none fails one =
      let (y, y_in, many) = many_of_one g sound (map body_of clusters) normal one in
      let (c, (k, k_in, at_k), is) = mapped_from body_of clusters y y_in in
      let level : length c.elements ≡ length g.nodes = ap (λ (z : Body). length z.elements) is ∙ many in
      let passes = list_any-from_Any (λ (c : Cluster). length c.elements == length g.nodes) clusters (k, c, k_in, at_k, count_same (length c.elements) (length g.nodes) level) in
      let never : false ≡ true = sym fails ∙ passes in absurd (cc)

-- constraints that pass weigh in the part what they weigh in the graph
weighs_in_part : (g : Graph) (p : ConId → Bool) → IsSoundGraph g → (owned : List ConId) → ((k : ConId) → Contains owned k → p k ≡ true) → weight_of (with_just p g) owned ≡ weight_of g owned
weighs_in_part g p sound owned pass =
    ap (λ ss. weight_where (is_owned owned) ss) (starts_of_part g p sound)
    ∙ weighs_the_same (is_owned owned) (λ s. p s.number) (starts g) (λ s s_in passes. pass s.number (owned_found owned s passes))

module _ (g : Graph) (sound : IsSoundGraph g) (p : ConId → Bool) (aside : List ConId) (rise : IsRising con_number aside) where
  abbrev all : Graph
  all = with_just p g

  all_sound : IsSoundGraph all
  all_sound = sound_part g p sound

  -- what is left out of a segment that is settled at once
  module _ (clusters : List Cluster) (w : IsWithout g p aside (map body_of clusters)) where
    pub all_go : some_has (length g.nodes) clusters ≡ true → AreLeftOutOf all aside aside
    all_go passes =
        all_left all all_sound aside rise (there_in_all g sound p aside rise (map body_of clusters) w.rest)
        (found_one (kept_graph aside all) (sound_part all (is_kept aside) all_sound) clusters (others_normal g sound p aside rise (map body_of clusters) w.rest) passes)

    pub lone_stays : length aside ≤ 1 → some_has (length g.nodes) clusters ≡ false → AreLeftOutOf all aside []
    lone_stays few fails =
        none_gone IsSpare all all_sound aside (lone_left all all_sound w.one aside few
        (found_none (kept_graph aside all) (sound_part all (is_kept aside) all_sound) clusters (others_normal g sound p aside rise (map body_of clusters) w.rest) fails))

    pub none_go : (count : ℕ) → count ≡ length g.nodes → sum_by cluster_weight clusters + weight_of g aside + 3 ≤ 2 * count → AreLeftOutOf all aside []
    none_go count many few =
        none_gone IsSpare all all_sound aside (few_left all all_sound w.one aside rise (there_in_all g sound p aside rise (map body_of clusters) w.rest) (map body_of clusters) (others_normal g sound p aside rise (map body_of clusters) w.rest)
        (let weights = weighs_in_part g p sound aside (λ k k_in. (w.rest.there k k_in).1) in
        let pieces = clusters_weigh clusters in
        omega (arith, weights, pieces, few, many)))

  -- where the segment is split
  module _ (f : List Body) (w : IsWithout g p aside f) (i : ℕ) where
    abbrev less : List ConId
    less = take i aside

    abbrev greater : List ConId
    greater = drop i aside

    pub greater_without : (m : List Body) → CanJoin g less f m → IsClosed g m → IsWithout g p greater m
    greater_without m joins closed = record { one = w.one; rest = greater_but g sound p aside rise f w.rest i m joins closed }

    pub greater_left : (m : List Body) → CanJoin g less f m → IsClosed g m → (rest : List ConId) → rest ≡ greater → (late : List ConId)
        → ((q : ConId → Bool) → IsWithout g q rest m → AreLeftOutOf (with_just q g) rest late) → AreLeftOutOf all greater late
    greater_left m joins closed rest is late told =
        subst (λ (ks : List ConId). AreLeftOutOf all ks late) is (told p (subst (λ (ks : List ConId). IsWithout g p ks m) (sym is) (greater_without m joins closed)))

    pub less_without : (late : List ConId) → AreLeftOutOf all greater late → (back : List ConId) → back ≡ filter (is_kept late) greater → (m : List Body) → CanJoin g back f m → IsClosed g m
        → IsWithout g (λ k. p k && is_kept late k) less m
    less_without late of_greater back is m joins closed = record {
      one = subst (λ (h : Graph). IsOneCluster h) (just_twice g p (is_kept late)) (still_one all all_sound w.one late of_greater.rise (λ k h. ((of_greater.exactly k).0 h).1));
      rest = less_but g sound p aside rise f w.rest i late (λ k h. ((of_greater.exactly k).0 h).0) back is m joins closed;
    }

-- at first all is set aside
module _ (g : Graph) (sound : IsSoundGraph g) (one : IsOneCluster g) where
  abbrev owned : List ConId
  owned = one.whole.owned

  pub owned_rise : IsRising con_number owned
  owned_rise = ((reached_tight g one.family sound.edges_rise one.normal.reached).family.rising one.whole (whole_in g sound one)).owned

  pub all_found : (left : List ConId) → AreLeftOutOf (with_just (λ k. true) g) owned left → AreLeftOut g left
  all_found left are = left_of_all g sound owned left (whole_owns g sound one) (subst (λ (h : Graph). AreLeftOutOf h owned left) (all_pass g) are)

  -- it has as many elements as there are nodes
  pub whole_many : length one.whole.elements ≡ length g.nodes
  whole_many =
      let most = few_elements g sound one.family one.normal one.whole (whole_in g sound one) in
      let least = as_many_nodes g sound one.whole.elements one.has_nodes in
      omega (arith, most, least)

  -- and as it stands in the code: the cluster of the normal family, its constraints and the family of nothing
  pub first_is : (family : Clusters) → IsNormal g (bodies family) → (items : List Cluster) → items ≡ family.live → (d : Cluster) → Contains items d → one.whole ≡ body_of d
  first_is family normal items are d d_in =
      contains_one one.whole (body_of d) ((all_of g sound one (bodies family) normal (body_of d)).0
      (contains_mapped body_of family.live d (subst (λ (cs : List Cluster). Contains cs d) are d_in)))

  pub none_first : (family : Clusters) → IsNormal g (bodies family) → (items : List Cluster) → items ≡ family.live → ¬ (length items < 1)
  none_first family normal items are few =
      let here = (all_of g sound one (bodies family) normal one.whole).1 (contains_head one.whole []) in
      let (d, (k, k_in, at_k), is) = mapped_from body_of family.live one.whole here in
      let many = ap length are in
      omega (arith, many, k_in, few)

  pub few_owned : length owned ≤ 4000
  few_owned = (owned_constraints g one.family sound one.normal one.whole (whole_in g sound one)).few

  pub at_first : (ks : List ConId) (f : List Body) → ks ≡ owned → f ≡ [] → IsWithout g (λ k. true) ks f
  at_first ks f are none =
      subst (λ (js : List ConId). IsWithout g (λ k. true) js f) (sym are) (record {
        one = subst (λ (h : Graph). IsOneCluster h) (sym (all_pass g)) one;
        rest = all_but g sound (λ k. true) owned (λ k k_in. (whole_has g sound one k k_in, refl)) (λ k has passes. whole_owns g sound one k has) f none;
      })

  pub found_in : (ks left : List ConId) → ks ≡ owned → AreLeftOutOf (with_just (λ k. true) g) ks left → AreLeftOut g left
  found_in ks left are of = all_found left (subst (λ (js : List ConId). AreLeftOutOf (with_just (λ k. true) g) js left) are of)
