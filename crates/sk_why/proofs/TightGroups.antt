-- Groups of a graph with no constraint too many: the elements of one's cluster are just as many as its constraints need, and
-- lie in every set of elements that is as tight and has those that are held together. So there is one group.
use Rattle.std.proofs.Common.{◌≡◌, ◌≢◌, inl, inr, ℕ, ◌+◌, ◌*◌, ◌≤◌, Bool, true, false, List, [], ◌∷◌, ◌++◌, length, refl, ap, sym, subst, ◌∙◌, arith}
use Rattle.std.specs.Prelude.{Contains, filter, not, sum_by, ◌&&◌}
use Rattle.std.proofs.lemmas.Bool.{and_parts, and_from}
use Rattle.std.proofs.lemmas.List.{length-append}
use Rattle.std.proofs.lemmas.List.Elements.{Contains-append_cases, Contains-append_left, Contains-append_right}
use Rattle.std.proofs.lemmas.List.Filters.{length-filter_both}
use Rattle.sk_base.specs.declared.ConId.{ConId}
use Rattle.sk_base.specs.declared.Elem.{Elem}
use Rattle.sk_base.specs.declared.Graph.{Graph}
use Rattle.sk_base.specs.SoundGraph.{IsSoundGraph}
use Rattle.sk_base.specs.Numbering.{is_elem, elem_number}
use Rattle.sk_base.proofs.Deciding.{con_settles}
use Rattle.sk_base.proofs.Filters.{filter_both}
use Rattle.sk_base.proofs.Members.{contains_head, contains_later, contains_cases, contains_filtered, filtered_from}
use Rattle.sk_base.proofs.Numbers.{elem_found, found_elem}
use Rattle.sk_base.proofs.Pairs.{pairs_filter}
use Rattle.sk_base.proofs.Splits.{pairs_append}
use Rattle.sk_family.specs.Body.{Body, Start, starts, initial_bodies}
use Rattle.sk_family.proofs.Bodies.{Within}
use Rattle.sk_family.proofs.GraphStarts.{start_at}
use Rattle.sk_rules.specs.Excess.{weight, weight_where, weight_of, held, is_inside, is_owned}
use Rattle.sk_rules.specs.JustSome.{with_just}
use Rattle.sk_rules.specs.Reach.{IsNormal}
use Rattle.sk_rules.proofs.Counting.{reached_tight, owned_is_held}
use Rattle.sk_rules.proofs.JustSome.{in_part, sound_part, starts_of_part, all_pass}
use Rattle.sk_rules.proofs.Keeping.{contains_settles}
use Rattle.sk_rules.proofs.NormalForm.{one_of_two}
use Rattle.sk_rules.proofs.SomeClosed.{some_closed}
use Rattle.sk_rules.proofs.SummedWeights.{weighs_one, weighs_more, found_inside, inside_found, owned_found}
use Rattle.sk_rules.proofs.WeighedGraphs.{sound_two_each}
use Rattle.sk_verdict.proofs.Normals.{has_two}
use Rattle.sk_plan.specs.Sparse.{weight_within, weight_among, AreDistinct, AreIn, HoldsNoneTooMany}
use Rattle.sk_plan.proofs.Counts.{count_all, whole_weight}
use Rattle.sk_plan.proofs.Sparsity.{sparse}
use Rattle.sk_plan.proofs.TightSets.{tight_made}
use Rattle.sk_spare.specs.Sparing.{differs_from, without}
use Rattle.sk_spare.proofs.LeavingOut.{distinct}
use Rattle.sk_spare.proofs.Lighter.{two_long, weighs_something, weighs_one_more}
use Rattle.sk_excess.specs.LeftOut.{is_number, HasConstraint}
use Rattle.sk_excess.proofs.OneClusters.{more_covers}
use Rattle.sk_excess.proofs.SomeLess.{number_in}
use Rattle.sk_excess.proofs.Without.{to_differ}
use Rattle.sk_why.specs.Because.{AreTogether}

-- where two tests pass together a third passes too, and where one of them passes a fourth does
pub four_weigh : (p q r u : Start → Bool) (ss : List Start) → ((s : Start) → Contains ss s → p s ≡ true → q s ≡ true → r s ≡ true) → ((s : Start) → Contains ss s → p s ≡ true → u s ≡ true) → ((s : Start) → Contains ss s → q s ≡ true → u s ≡ true)
    → weight_where p ss + weight_where q ss ≤ weight_where r ss + weight_where u ss
four_weigh p q r u [] both one other = omega arith
four_weigh p q r u (s ∷ ss) both one other =
    let p_more = weighs_more p s ss in
    let q_more = weighs_more q s ss in
    let r_more = weighs_more r s ss in
    let u_more = weighs_more u s ss in
    let rest = four_weigh p q r u ss (λ t h. both t (contains_later s ss t h)) (λ t h. one t (contains_later s ss t h)) (λ t h. other t (contains_later s ss t h)) in
    let here = told (p s) (q s) (r s) (u s) (weight_where p ss) (weight_where q ss) (weight_where r ss) (weight_where u ss) (both s (contains_head s ss)) (one s (contains_head s ss)) (other s (contains_head s ss)) rest in
    omega (arith, p_more, q_more, r_more, u_more, here)
  where
    told : (a b c d : Bool) (m n o k : ℕ) → (a ≡ true → b ≡ true → c ≡ true) → (a ≡ true → d ≡ true) → (b ≡ true → d ≡ true) → m + n ≤ o + k
        → weighs_one a s m + weighs_one b s n ≤ weighs_one c s o + weighs_one d s k
    told true true c d m n o k both one other less = rw (both refl refl, one refl) (omega (arith, less))
    told true false true d m n o k both one other less = rw (one refl) (omega (arith, less))
    told true false false d m n o k both one other less = rw (one refl) (omega (arith, less))
    told false true true d m n o k both one other less = rw (other refl) (omega (arith, less))
    told false true false d m n o k both one other less = rw (other refl) (omega (arith, less))
    told false false true true m n o k both one other less = omega (arith, less)
    told false false true false m n o k both one other less = omega (arith, less)
    told false false false true m n o k both one other less = omega (arith, less)
    told false false false false m n o k both one other less = omega (arith, less)

-- what passes a test weighs no more than what passes a weaker one
pub where_less : (p q : Start → Bool) (ss : List Start) → ((s : Start) → Contains ss s → p s ≡ true → q s ≡ true) → weight_where p ss ≤ weight_where q ss
where_less p q ss weaker =
    let sums = four_weigh p (λ s. false) (λ s. false) q ss (λ s h passes never. absurd (cc)) weaker (λ s h never. absurd (cc)) in
    omega (arith, sums)

module _ (g : Graph) (sound : IsSoundGraph g) where
  -- what lies among elements in a graph with some of the constraints
  pub held_part : (p : ConId → Bool) (xs : List Elem) → held (with_just p g) xs ≡ weight_where (λ s. p s.number && is_inside xs s) (starts g)
  held_part p xs =
      ap (λ ss. sum_by weight (filter (is_inside xs) ss)) (starts_of_part g p sound)
      ∙ sym (ap (λ ss. sum_by weight ss) (filter_both (λ (s : Start). p s.number) (is_inside xs) (λ s. p s.number && is_inside xs s) (λ s. refl) (starts g)))

  pub held_less : (p : ConId → Bool) (xs : List Elem) → held (with_just p g) xs ≤ held g xs
  held_less p xs =
      let part = held_part p xs in
      let less = where_less (λ s. p s.number && is_inside xs s) (is_inside xs) (starts g) (λ s h passes. (and_parts (p s.number) (is_inside xs s) passes).1) in
      omega (arith, part, less)

-- where constraints weigh few among elements, few lie there
pub sparse_held : (g : Graph) (xs : List Elem) → weight_among g xs + 3 ≤ 2 * length xs → held g xs + 3 ≤ 2 * length xs
sparse_held g xs most =
    let less = whole_weight (is_inside xs) (weight_within xs) (starts g)
    (λ s s_in inside. (let all = count_all (is_elem xs) s.elements (λ e e_in. found_elem xs e (found_inside xs s inside e e_in)) in omega (arith, all))) in
    omega (arith, most, less)

-- what is kept has no constraint too many
module _ (g : Graph) (sound : IsSoundGraph g) (f : List Body) (normal : IsNormal g f) (none : HoldsNoneTooMany g f) where
  pub sparse_in : (x : Body) → Contains f x → (xs : List Elem) → AreDistinct xs → AreIn xs x.elements → 2 ≤ length xs → held g xs + 3 ≤ 2 * length xs
  sparse_in x x_in xs apart own two = sparse_held g xs (sparse g f sound.edges_rise (sound_two_each g sound) normal none x x_in xs apart own two)

  module _ (x : Body) (x_in : Contains f x) (es : List Elem) (u v : Elem) (differ : u ≢ v) (u_in : Contains es u) (v_in : Contains es v) (x_has : (e : Elem) → Contains es e → Contains x.elements e)
      (ks : List ConId) (enough : AreTogether (with_just (is_number ks) g) es) where
    abbrev few : Graph
    few = with_just (is_number ks) g

    abbrev holding_body : Body
    holding_body = enough.holds.0

    few_sound : IsSoundGraph few
    few_sound = sound_part g (is_number ks) sound

    -- each cluster of the group lies in one of what is kept
    lies : (z : Body) → Contains enough.family z → (w : Body) × Contains f w × Within z w
    lies =
        more_covers g sound (is_number ks) (λ k. true) (λ k has passes. refl) enough.family enough.normal.reached f
        (subst (λ (h : Graph). IsNormal h f) (sym (all_pass g)) normal)

    rises : (z : Body) → Contains enough.family z → AreDistinct z.elements
    rises z z_in = distinct elem_number z.elements ((reached_tight few enough.family few_sound.edges_rise enough.normal.reached).family.rising z z_in).elements

    two_of : (z : Body) → Contains enough.family z → 2 ≤ length z.elements
    two_of z z_in = (let (a, b, other, a_in, b_in) = has_two few enough.family few_sound enough.normal z z_in in two_long z.elements a b other a_in b_in)

    pub own_elements : AreIn holding_body.elements x.elements
    own_elements e e_in =
        let (w, w_in, within) = lies holding_body enough.holds.1 in
        let same : w ≡ x = one_of_two g f normal.closed w x w_in x_in (
          u,
          v,
          record {
            differ = differ;
            a_shared = (within.elements u (enough.holds.2 u u_in), x_has u u_in);
            b_shared = (within.elements v (enough.holds.2 v v_in), x_has v v_in);
          },
        ) in
        subst (λ (b : Body). Contains b.elements e) same (within.elements e e_in)

    none_few : HoldsNoneTooMany few enough.family
    none_few z z_in =
        let (w, w_in, within) = lies z z_in in
        let most = sparse_in w w_in z.elements (rises z z_in) within.elements (two_of z z_in) in
        let less = held_less g sound (is_number ks) z.elements in
        omega (arith, most, less)

    -- the constraints of the group need all elements of its cluster
    pub tight_few : held few holding_body.elements + 3 ≡ 2 * length holding_body.elements
    tight_few =
        let least = (reached_tight few enough.family few_sound.edges_rise enough.normal.reached).enough holding_body enough.holds.1 in
        let all = owned_is_held few enough.family few_sound.edges_rise (sound_two_each few few_sound) enough.normal holding_body enough.holds.1 in
        let most = none_few holding_body enough.holds.1 in
        omega (arith, least, all, most)

    pub tight_kept : held g holding_body.elements + 3 ≡ 2 * length holding_body.elements
    tight_kept =
        let few_there = tight_few in
        let less = held_less g sound (is_number ks) holding_body.elements in
        let most = sparse_in x x_in holding_body.elements (rises holding_body enough.holds.1) own_elements (two_of holding_body enough.holds.1) in
        omega (arith, few_there, less, most)

    pub distinct_there : AreDistinct holding_body.elements
    distinct_there = rises holding_body enough.holds.1

    -- of another set that is as tight, and has the elements that are together
    module _ (xs : List Elem) (apart : AreDistinct xs) (own : AreIn xs x.elements) (tight : held g xs + 3 ≡ 2 * length xs) (xs_have : (e : Elem) → Contains es e → Contains xs e) where
      abbrev there : Elem → Bool
      there e = is_elem holding_body.elements e

      abbrev both : List Elem
      both = filter there xs

      abbrev others : List Elem
      others = filter (λ e. not (there e)) xs

      abbrev either : List Elem
      either = holding_body.elements ++ others

      in_both : (e : Elem) → Contains xs e → Contains holding_body.elements e → Contains both e
      in_both e e_xs e_in = contains_filtered there xs e e_xs (found_elem holding_body.elements e e_in)

      from_both : (e : Elem) → Contains both e → Contains xs e × Contains holding_body.elements e
      from_both e h = (let was = filtered_from there xs e h in (was.0, elem_found holding_body.elements e was.1))

      in_either : (e : Elem) → Contains xs e → Contains either e
      in_either e e_xs = told (there e) refl
        where
          told : (b : Bool) → there e ≡ b → Contains either e
          told true passes = Contains-append_left holding_body.elements others e (elem_found holding_body.elements e passes)
          told false fails = Contains-append_right holding_body.elements others e (contains_filtered (λ d. not (there d)) xs e e_xs (ap not fails))

      either_apart : AreDistinct either
      either_apart =
          pairs_append (λ (d e : Elem). d ≢ e) holding_body.elements others distinct_there (pairs_filter (λ (d e : Elem). d ≢ e) (λ e. not (there e)) xs apart)
          (λ d e d_in e_in same. (
          let was = (filtered_from (λ (z : Elem). not (there z)) xs e e_in).1 in
          let here : there e ≡ true = found_elem holding_body.elements e (subst (λ (z : Elem). Contains holding_body.elements z) same d_in) in
          let never : not (there e) ≡ false = ap not here in
          absurd (cc)))

      either_own : AreIn either x.elements
      either_own e h =
          elim (Contains-append_cases holding_body.elements others e h) [
            | inl e_in ↦ own_elements e e_in
            | inr other ↦ own e (filtered_from (λ (z : Elem). not (there z)) xs e other).0
          ]

      both_tight : held few both + 3 ≡ 2 * length both
      both_tight =
          let sums = four_weigh (λ s. is_number ks s.number && is_inside holding_body.elements s) (is_inside xs) (λ s. is_number ks s.number && is_inside both s) (is_inside either) (starts g)
          (λ s s_in mine theirs. (
          let parts = and_parts (is_number ks s.number) (is_inside holding_body.elements s) mine in
          and_from (is_number ks s.number) (is_inside both s) parts.0
          (inside_found both s (λ e e_in. in_both e (found_inside xs s theirs e e_in) (found_inside holding_body.elements s parts.1 e e_in)))))
          (λ s s_in mine. (
          let parts = and_parts (is_number ks s.number) (is_inside holding_body.elements s) mine in
          inside_found either s (λ e e_in. Contains-append_left holding_body.elements others e (found_inside holding_body.elements s parts.1 e e_in))))
          (λ s s_in theirs. inside_found either s (λ e e_in. in_either e (found_inside xs s theirs e e_in))) in
          let mine = held_part g sound (is_number ks) holding_body.elements in
          let shared = held_part g sound (is_number ks) both in
          let few_mine = tight_few in
          let split = length-filter_both there (λ e. not (there e)) (λ e. refl) xs in
          let joined = length-append holding_body.elements others in
          let many = two_of holding_body enough.holds.1 in
          let whole = sparse_in x x_in either either_apart either_own (omega (arith, joined, many)) in
          let some = two_long both u v differ (in_both u (xs_have u u_in) (enough.holds.2 u u_in)) (in_both v (xs_have v v_in) (enough.holds.2 v v_in)) in
          let most = sparse_in x x_in both (pairs_filter (λ (d e : Elem). d ≢ e) there xs apart) (λ e h. own e (from_both e h).0) some in
          let less = held_less g sound (is_number ks) both in
          omega (arith, sums, mine, shared, few_mine, split, joined, whole, most, less, tight)

      -- each constraint of the group lies inside, where without any one of them the elements aren't together
      pub in_tight : ((k : ConId) → Contains ks k → ¬ AreTogether (without k few) es) → (t : Start) → Contains (starts g) t → Contains ks t.number → is_inside xs t ≡ true
      in_tight minimal t t_in k_in = told (is_inside xs t) refl
        where
          told : (b : Bool) → is_inside xs t ≡ b → is_inside xs t ≡ true
          told true inside = inside
          told false outside =
              absurd (
              let less = without t.number few in
              let (n, reach, closed) = some_closed less (initial_bodies less) in
              let n_normal : IsNormal less n = record { reached = reach; closed = closed } in
              let (w, w_in, has) = tight_made few enough.family few_sound (sound_two_each few few_sound) enough.normal none_few holding_body enough.holds.1 both
              (pairs_filter (λ (d e : Elem). d ≢ e) there xs apart) (λ e h. (from_both e h).1) both_tight (differs_from t.number)
              (λ s s_in inside. to_differ t.number s.number (λ same. (
              let is : s ≡ t = start_at g sound.edges_rise s t ((in_part g (is_number ks) sound s).0 s_in).0 t_in (sym same) in
              let within : is_inside xs s ≡ true = inside_found xs s (λ e e_in. (from_both e (found_inside both s inside e e_in)).0) in
              let never : is_inside xs t ≡ true = subst (λ (z : Start). is_inside xs z ≡ true) is within in
              absurd (cc)))) n n_normal in
              minimal t.number k_in (record { family = n; normal = n_normal; holds = (w, w_in, λ e e_in. has e (in_both e (xs_have e e_in) (enough.holds.2 e e_in))) }))

    -- what lies inside the group's cluster is of the group
    pub inside_of_group : (t : Start) → Contains (starts g) t → is_inside holding_body.elements t ≡ true → Contains ks t.number
    inside_of_group t t_in inside =
        elim (contains_settles con_settles ks t.number) [
          | inl of_it ↦ of_it
          | inr out ↦ absurd (
              let few_there = reached_tight few enough.family few_sound.edges_rise enough.normal.reached in
              let fresh : ¬ Contains holding_body.owned t.number = λ h. (
              let (s, s_in, is, within) = few_there.inside holding_body enough.holds.1 t.number h in
              out (subst (λ (k : ConId). Contains ks k) is (number_in ks s.number ((in_part g (is_number ks) sound s).0 s_in).1))) in
              let more = weighs_one_more g t t_in holding_body.owned (t.number ∷ holding_body.owned) (λ k h. contains_later t.number holding_body.owned k h) fresh (contains_head t.number holding_body.owned) in
              let all = where_less (is_owned (t.number ∷ holding_body.owned)) (is_inside holding_body.elements) (starts g) (λ s s_in passes. (
              elim (contains_cases t.number holding_body.owned s.number (owned_found (t.number ∷ holding_body.owned) s passes)) [
                | inl same ↦ subst (λ (z : Start). is_inside holding_body.elements z ≡ true) (start_at g sound.edges_rise t s t_in s_in same) inside
                | inr owned ↦ (
                    let (d, d_in, is, within) = few_there.inside holding_body enough.holds.1 s.number owned in
                    let same : d ≡ s = start_at g sound.edges_rise d s ((in_part g (is_number ks) sound d).0 d_in).0 s_in is in
                    inside_found holding_body.elements s (subst (λ (z : Start). (e : Elem) → Contains z.elements e → Contains holding_body.elements e) same within))
              ])) in
              let some = weighs_something g sound t t_in in
              let tight = tight_kept in
              let least = few_there.enough holding_body enough.holds.1 in
              let owned_less : weight_of few holding_body.owned ≤ weight_of g holding_body.owned = owned_part holding_body.owned in
              omega (arith, more, all, some, tight, least, owned_less))
        ]
      where
        owned_part : (owned : List ConId) → weight_of few owned ≤ weight_of g owned
        owned_part owned =
            let same : weight_of few owned ≡ weight_where (λ s. is_number ks s.number && is_owned owned s) (starts g) =
            ap (λ ss. sum_by weight (filter (is_owned owned) ss)) (starts_of_part g (is_number ks) sound)
            ∙ sym (ap (λ ss. sum_by weight ss) (filter_both (λ (s : Start). is_number ks s.number) (is_owned owned) (λ s. is_number ks s.number && is_owned owned s) (λ s. refl) (starts g))) in
            let less = where_less (λ s. is_number ks s.number && is_owned owned s) (is_owned owned) (starts g) (λ s h passes. (and_parts (is_number ks s.number) (is_owned owned s) passes).1) in
            omega (arith, same, less)

  -- of two groups each constraint of the one is of the other
  module _ (x : Body) (x_in : Contains f x) (es : List Elem) (u v : Elem) (differ : u ≢ v) (u_in : Contains es u) (v_in : Contains es v) (x_has : (e : Elem) → Contains es e → Contains x.elements e) where
    pub of_other : (ks others : List ConId) → AreTogether (with_just (is_number ks) g) es → ((k : ConId) → Contains ks k → ¬ AreTogether (without k (with_just (is_number ks) g)) es) → AreTogether (with_just (is_number others) g) es
        → (k : ConId) → Contains ks k → HasConstraint g k → Contains others k
    of_other ks others enough minimal other k k_in (t, t_in, is) =
        let inside = in_tight x x_in es u v differ u_in v_in x_has ks enough other.holds.0.elements
        (distinct_there x x_in es u v differ u_in v_in x_has others other)
        (own_elements x x_in es u v differ u_in v_in x_has others other)
        (tight_kept x x_in es u v differ u_in v_in x_has others other) other.holds.2
        minimal t t_in (subst (λ (j : ConId). Contains ks j) (sym is) k_in) in
        subst (λ (j : ConId). Contains others j) is (inside_of_group x x_in es u v differ u_in v_in x_has others other t t_in inside)
