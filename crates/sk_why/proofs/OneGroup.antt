-- Where what is kept isn't over, there is one group of a constraint that is left out; and what becomes of the whole without a
-- constraint.
use Rattle.std.proofs.Common.{◌≡◌, ◌≢◌, ◌⊎◌, inl, inr, ℕ, ◌+◌, ◌-◌, ◌*◌, ◌≤◌, ◌<◌, Bool, true, false, cond, List, [], ◌∷◌, length, refl, ap, sym, subst, ◌∙◌, arith}
use Rattle.std.specs.Prelude.{Contains, map, not, nat_lt, AllPairs, ◌&&◌, ◌||◌}
use Rattle.std.proofs.lemmas.Bool.{and_parts, and_from}
use Rattle.std.proofs.lemmas.Bool.Decides.{nat_tests}
use Rattle.sk_base.specs.declared.ConId.{ConId}
use Rattle.sk_base.specs.declared.Elem.{Elem}
use Rattle.sk_base.specs.declared.Graph.{Graph}
use Rattle.sk_base.specs.SoundGraph.{IsSoundGraph}
use Rattle.sk_base.specs.Numbering.{con_number, elem_number}
use Rattle.sk_base.specs.Rising.{IsRising}
use Rattle.sk_base.proofs.Deciding.{some_in}
use Rattle.sk_base.proofs.Members.{contains_head, contains_one, contains_cases}
use Rattle.sk_base.proofs.Unions.{rising_same}
use Rattle.sk_family.specs.Body.{Body, Start, start_number, starts, initial_bodies}
use Rattle.sk_family.proofs.GraphStarts.{start_at, starts_rise}
use Rattle.sk_rules.specs.Excess.{weight, weight_where, held, is_inside}
use Rattle.sk_rules.specs.JustSome.{with_just}
use Rattle.sk_rules.specs.Reach.{IsNormal}
use Rattle.sk_rules.proofs.Counting.{reached_tight}
use Rattle.sk_rules.proofs.JustSome.{in_part, sound_part}
use Rattle.sk_rules.proofs.SomeClosed.{some_closed}
use Rattle.sk_rules.proofs.SummedWeights.{weighs_one, weighs_by_one, weights_add, weighs_at_least, found_inside}
use Rattle.sk_rules.proofs.WeighedGraphs.{sound_two_each}
use Rattle.sk_verdict.specs.Judging.{IsOver}
use Rattle.sk_verdict.specs.Parts.{elem_of, part_with}
use Rattle.sk_verdict.specs.OneCluster.{IsOneCluster}
use Rattle.sk_verdict.proofs.Normals.{has_two}
use Rattle.sk_plan.specs.Sparse.{AreIn, HoldsNoneTooMany}
use Rattle.sk_plan.proofs.Counts.{sum_within, sum_single}
use Rattle.sk_spare.specs.Sparing.{differs_from, without}
use Rattle.sk_spare.proofs.LeavingOut.{distinct}
use Rattle.sk_spare.proofs.Lighter.{two_long, weighs_something}
use Rattle.sk_excess.specs.LeftOut.{is_number, is_kept, kept_graph, AreLeftOut, HasConstraint}
use Rattle.sk_excess.proofs.Choosing.{kept_one, whole_is}
use Rattle.sk_excess.proofs.OneClusters.{at_node, whole_in, all_of, more_covers}
use Rattle.sk_excess.proofs.SomeLess.{number_in, none_kept, part_has}
use Rattle.sk_excess.proofs.Without.{differs, to_differ, without_one}
use Rattle.sk_why.specs.Because.{AreTogether, FollowsFrom}
use Rattle.sk_why.proofs.Following.{alone_of, start_in_whole, follows_enough, follows_minimal, group_over}
use Rattle.sk_why.proofs.Laws.{of_because, because_rises}
use Rattle.sk_why.proofs.TightGroups.{where_less, held_part, sparse_in, in_tight, of_other}

-- a part is over, or isn't
over_decided : (g : Graph) (x : Body) → IsOver (part_with g x.elements) ⊎ (¬ IsOver (part_with g x.elements))
over_decided g x = told (2 * length x.elements - 3) (held g x.elements) (nat_lt (2 * length x.elements - 3) (held g x.elements)) refl
  where
    told : (d h : ℕ) (b : Bool) → nat_lt d h ≡ b → (d < h) ⊎ (¬ (d < h))
    told d h true is = inl (grind (arith, nat_tests))
    told d h false is = inr (grind (arith, nat_tests))

not_too_many : (h n : ℕ) → 2 ≤ n → ¬ (2 * n - 3 < h) → h + 3 ≤ 2 * n
not_too_many h n two not = omega (arith, two, not)

-- the elements of a cluster are two at least
pub cluster_long : (g : Graph) → IsSoundGraph g → (f : List Body) → IsNormal g f → (x : Body) → Contains f x → 2 ≤ length x.elements
cluster_long g sound f normal x x_in = (let (a, b, other, a_in, b_in) = has_two g f sound normal x x_in in two_long x.elements a b other a_in b_in)

pub cluster_distinct : (g : Graph) → IsSoundGraph g → (f : List Body) → IsNormal g f → (x : Body) → Contains f x → AllPairs (λ (d e : Elem). d ≢ e) x.elements
cluster_distinct g sound f normal x x_in = distinct elem_number x.elements ((reached_tight g f sound.edges_rise normal.reached).family.rising x x_in).elements

-- the weights of those that pass a test, and of those that don't
split_weigh : (a i : Start → Bool) (ss : List Start) → weight_where i ss ≡ weight_where (λ s. a s && i s) ss + weight_where (λ s. not (a s) && i s) ss
split_weigh a i ss = weights_add (λ s. a s && i s) (λ s. not (a s) && i s) i ss (λ s s_in. either (a s) (i s)) (λ s s_in. apart (a s) (i s))
  where
    either : (b c : Bool) → c ≡ ((b && c) || (not b && c))
    either true true = refl
    either true false = refl
    either false c = refl

    apart : (b c : Bool) → (b && c) ≡ true → (not b && c) ≡ true → ⊥
    apart true c one other = cc
    apart false c one other = cc

-- what isn't kept where one alone is left out
fails_not : (b : Bool) → not b ≡ false → b ≡ true
fails_not true fails = refl
fails_not false fails = absurd (cc)

left_alone : (c j : ConId) (b : Bool) → is_kept (c ∷ []) j ≡ b → not b ≡ true → j ≡ c
left_alone c j true kept never = absurd (cc)
left_alone c j false out is = sym (contains_one c j (number_in (c ∷ []) j (fails_not (is_number (c ∷ []) j) out)))

-- where one constraint alone can pass, no more than it weighs
one_weighs : (g : Graph) → IsSoundGraph g → (p : Start → Bool) (z : Start) → ((s : Start) → Contains (starts g) s → p s ≡ true → s ≡ z) → weight_where p (starts g) ≤ weight z
one_weighs g sound p z only =
    let each = weighs_by_one p (starts g) in
    let less = sum_within (λ s. weighs_one (p s) s 0) (λ s. cond (p s) (weight s) 0) (starts g) (λ s s_in. same (p s) s) in
    let single = sum_single p weight z (starts g) (apart (starts g) (starts_rise g sound.edges_rise)) only in
    omega (arith, each, less, single)
  where
    same : (b : Bool) (s : Start) → weighs_one b s 0 ≤ cond b (weight s) 0
    same true s = omega arith
    same false s = omega arith

    apart : (ss : List Start) → IsRising start_number ss → AllPairs (λ (t u : Start). t ≢ u) ss
    apart ss r i j d i_j j_len is = (let below = r i j d i_j j_len in let level = ap start_number is in absurd (omega (arith, below, level)))

module _ (g : Graph) (sound : IsSoundGraph g) (left : List ConId) (one : IsOneCluster g) (are : AreLeftOut g left) (not_over : ¬ IsOver (part_with (kept_graph left g) (map elem_of g.nodes))) where
  abbrev kept : Graph
  kept = kept_graph left g

  kept_sound : IsSoundGraph kept
  kept_sound = sound_part g (is_kept left) sound

  kept_whole : IsOneCluster kept
  kept_whole = kept_one g sound left are one

  -- each cluster of what is kept is the whole
  not_over_whole : (f : List Body) → IsNormal kept f → (x : Body) → Contains f x → ¬ IsOver (part_with kept x.elements)
  not_over_whole f normal x x_in over =
      let is : kept_whole.whole ≡ x = contains_one kept_whole.whole x ((all_of kept kept_sound kept_whole f normal x).0 x_in) in
      let nodes : x.elements ≡ map elem_of g.nodes = ap (λ (z : Body). z.elements) (sym is) ∙ whole_is kept kept_sound kept_whole in
      not_over (subst (λ (xs : List Elem). IsOver (part_with kept xs)) nodes over)

  none_kept_over : HoldsNoneTooMany kept kept_whole.family
  none_kept_over x x_in =
      not_too_many (held kept x.elements) (length x.elements) (cluster_long kept kept_sound kept_whole.family kept_whole.normal x x_in) (not_over_whole kept_whole.family kept_whole.normal x x_in)

  abbrev whole_there : Contains kept_whole.family kept_whole.whole
  whole_there = whole_in kept kept_sound kept_whole

  module _ (because : List ConId) (c : ConId) (follows : FollowsFrom g left c because) (s : Start) (s_in : Contains (starts g) s) (numbered : s.number ≡ c) where
    in_whole : (e : Elem) → Contains s.elements e → Contains kept_whole.whole.elements e
    in_whole = start_in_whole g sound (is_kept left) kept_whole s s_in

    because_kept : (k : ConId) → Contains because k → HasConstraint kept k
    because_kept k k_in = (of_because kept follows.start.elements because follows.are k k_in).0

    -- a group of kept constraints, in what is kept
    enough_kept : (ks : List ConId) → ((k : ConId) → Contains ks k → HasConstraint kept k) → AreTogether (with_just (is_number ks) g) s.elements → AreTogether (with_just (is_number ks) kept) s.elements
    enough_kept ks there enough = subst (λ (h : Graph). AreTogether h s.elements) (sym (alone_of g sound left ks there)) enough

    minimal_kept : (ks : List ConId) → ((k : ConId) → Contains ks k → HasConstraint kept k) → ((k : ConId) → Contains ks k → ¬ AreTogether (without k (with_just (is_number ks) g)) s.elements)
        → (k : ConId) → Contains ks k → ¬ AreTogether (without k (with_just (is_number ks) kept)) s.elements
    minimal_kept ks there minimal k k_in together = minimal k k_in (subst (λ (h : Graph). AreTogether (without k h) s.elements) (alone_of g sound left ks there) together)

    because_enough : AreTogether (with_just (is_number because) kept) s.elements
    because_enough = enough_kept because because_kept (follows_enough g sound left c because follows s s_in numbered one are)

    because_minimal : (k : ConId) → Contains because k → ¬ AreTogether (without k (with_just (is_number because) kept)) s.elements
    because_minimal = minimal_kept because because_kept (follows_minimal g sound left c because follows s s_in numbered)

    -- there is no other group
    pub only_follows : (ks : List ConId) → IsRising con_number ks → ((k : ConId) → Contains ks k → HasConstraint kept k) → AreTogether (with_just (is_number ks) g) s.elements
        → ((k : ConId) → Contains ks k → ¬ AreTogether (without k (with_just (is_number ks) g)) s.elements) → ks ≡ because
    only_follows ks rise there enough minimal =
        let (u, v, differ, u_in, v_in) = sound_two_each g sound s s_in in
        let ks_enough = enough_kept ks there enough in
        let ks_minimal = minimal_kept ks there minimal in
        rising_same con_number ks because rise (because_rises kept kept_sound follows.start.elements because follows.are)
        (λ k k_in. of_other kept kept_sound kept_whole.family kept_whole.normal none_kept_over kept_whole.whole whole_there s.elements u v differ u_in v_in in_whole ks because ks_enough ks_minimal because_enough k k_in (there k k_in))
        (λ k k_in. of_other kept kept_sound kept_whole.family kept_whole.normal none_kept_over kept_whole.whole whole_there s.elements u v differ u_in v_in in_whole because ks because_enough because_minimal ks_enough k k_in (because_kept k k_in))

-- without a constraint that is none of the group, something is over
module _ (g : Graph) (sound : IsSoundGraph g) (left because : List ConId) (c k : ConId) (one : IsOneCluster g) (are : AreLeftOut g left) (c_in : Contains left c) (follows : FollowsFrom g left c because)
    (k_out : ¬ Contains (c ∷ because) k) (f : List Body) (normal : IsNormal (without k g) f) where
  abbrev less : Graph
  less = without k g

  less_sound : IsSoundGraph less
  less_sound = sound_part g (differs_from k) sound

  abbrev group : Graph
  group = with_just (is_number (c ∷ because)) g

  of_group : (j : ConId) → is_number (c ∷ because) j ≡ true → differs_from k j ≡ true
  of_group j passes = to_differ k j (λ same. k_out (subst (λ (i : ConId). Contains (c ∷ because) i) (sym same) (number_in (c ∷ because) j passes)))

  pub still_over : (x : Body) × Contains f x × IsOver (part_with less x.elements)
  still_over =
      elim (some_in (λ (y : Body). IsOver (part_with less y.elements)) (over_decided less) f) [
        | inl found ↦ found
        | inr none_over ↦ absurd (
            let (n, reach, closed) = some_closed group (initial_bodies group) in
            let n_normal : IsNormal group n = record { reached = reach; closed = closed } in
            let group_sound : IsSoundGraph group = sound_part g (is_number (c ∷ because)) sound in
            let (z, only_it, over) = group_over g sound left c because follows one are c_in n n_normal in
            let z_in : Contains n z = (only_it z).1 (contains_head z []) in
            let (x, x_in, within) = more_covers g sound (is_number (c ∷ because)) (differs_from k) (λ j has. of_group j) n reach f normal z z_in in
            let none : HoldsNoneTooMany less f = λ y y_in. not_too_many (held less y.elements) (length y.elements) (cluster_long less less_sound f normal y y_in) (λ y_over. none_over (y, y_in, y_over)) in
            let two = cluster_long group group_sound n n_normal z z_in in
            let most = sparse_in less less_sound f normal none x x_in z.elements (cluster_distinct group group_sound n n_normal z z_in) within.elements two in
            let in_group = held_part g sound (is_number (c ∷ because)) z.elements in
            let in_less = held_part g sound (differs_from k) z.elements in
            let fewer = where_less (λ s. is_number (c ∷ because) s.number && is_inside z.elements s) (λ s. differs_from k s.number && is_inside z.elements s) (starts g)
            (λ s s_in passes. (let both = and_parts (is_number (c ∷ because) s.number) (is_inside z.elements s) passes in and_from (differs_from k s.number) (is_inside z.elements s) (of_group s.number both.0) both.1)) in
            omega (arith, over, two, most, in_group, in_less, fewer))
      ]

-- where one alone is left out, between two elements, and what is kept isn't over: without any one of the group nothing is over
module _ (g : Graph) (sound : IsSoundGraph g) (c : ConId) (one : IsOneCluster g) (are : AreLeftOut g (c ∷ [])) (not_over : ¬ IsOver (part_with (kept_graph (c ∷ []) g) (map elem_of g.nodes)))
    (because : List ConId) (follows : FollowsFrom g (c ∷ []) c because) (s : Start) (s_in : Contains (starts g) s) (numbered : s.number ≡ c) (two_ends : length s.elements ≡ 2) where
  abbrev rest : Graph
  rest = kept_graph (c ∷ []) g

  rest_sound : IsSoundGraph rest
  rest_sound = sound_part g (is_kept (c ∷ [])) sound

  abbrev rest_whole : IsOneCluster rest
  rest_whole = kept_whole g sound (c ∷ []) one are not_over

  -- what is kept, as the whole without the one that is left out
  without_it : (f : List Body) → IsNormal (without c g) f → (x : Body) → Contains f x → ¬ IsOver (part_with (without c g) x.elements)
  without_it f normal x x_in over =
      let same = without_one g sound c in
      not_over_whole g sound (c ∷ []) one are not_over f (subst (λ (h : Graph). IsNormal h f) same normal) x x_in (subst (λ (h : Graph). IsOver (part_with h x.elements)) same over)

  module _ (k : ConId) (k_in : Contains because k) (f : List Body) (normal : IsNormal (without k g) f) (x : Body) (x_in : Contains f x) where
    abbrev less_k : Graph
    less_k = without k g

    less_k_sound : IsSoundGraph less_k
    less_k_sound = sound_part g (differs_from k) sound

    long : 2 ≤ length x.elements
    long = cluster_long less_k less_k_sound f normal x x_in

    in_nodes : AreIn x.elements rest_whole.whole.elements
    in_nodes e e_in = (let (n, n_in, is) = at_node less_k less_k_sound f normal.reached x x_in e e_in in subst (λ (d : Elem). Contains rest_whole.whole.elements d) is (rest_whole.has_nodes n n_in))

    most_kept : held rest x.elements + 3 ≤ 2 * length x.elements
    most_kept =
        sparse_in rest rest_sound rest_whole.family rest_whole.normal (none_kept_over g sound (c ∷ []) one are not_over) rest_whole.whole (whole_there g sound (c ∷ []) one are not_over)
        x.elements (cluster_distinct less_k less_k_sound f normal x x_in) in_nodes long

    -- all that lies there is what is kept and the one, which weighs 1
    all_there : weight_where (is_inside x.elements) (starts g) ≤ held rest x.elements + 1
    all_there =
        let split = split_weigh (λ t. is_kept (c ∷ []) t.number) (is_inside x.elements) (starts g) in
        let part = held_part g sound (is_kept (c ∷ [])) x.elements in
        let single = one_weighs g sound (λ t. not (is_kept (c ∷ []) t.number) && is_inside x.elements t) s (λ t t_in passes. (
        let out = (and_parts (not (is_kept (c ∷ []) t.number)) (is_inside x.elements t) passes).0 in
        start_at g sound.edges_rise t s t_in s_in (left_alone c t.number (is_kept (c ∷ []) t.number) refl out ∙ sym numbered))) in
        omega (arith, split, part, single, two_ends)

    -- and what is left without k
    less_there : held less_k x.elements ≤ weight_where (is_inside x.elements) (starts g)
    less_there =
        let part = held_part g sound (differs_from k) x.elements in
        let less = where_less (λ t. differs_from k t.number && is_inside x.elements t) (is_inside x.elements) (starts g) (λ t t_in passes. (and_parts (differs_from k t.number) (is_inside x.elements t) passes).1) in
        omega (arith, part, less)

    -- more, where k lies there
    less_by_one : (t : Start) → Contains (starts g) t → t.number ≡ k → is_inside x.elements t ≡ true → held less_k x.elements + 1 ≤ weight_where (is_inside x.elements) (starts g)
    less_by_one t t_in is inside =
        let part = held_part g sound (differs_from k) x.elements in
        let split = split_weigh (λ d. differs_from k d.number) (is_inside x.elements) (starts g) in
        let same : not (differs_from k t.number) ≡ true = fails (differs_from k t.number) refl in
        let least = weighs_at_least (λ d. not (differs_from k d.number) && is_inside x.elements d) (starts g) t t_in (and_from (not (differs_from k t.number)) (is_inside x.elements t) same inside) in
        let some = weighs_something g sound t t_in in
        omega (arith, part, split, least, some)
      where
        fails : (b : Bool) → differs_from k t.number ≡ b → not b ≡ true
        fails true other = absurd (differs k t.number other (sym is))
        fails false same = refl

    -- as tight as what is kept allows, the elements hold the group
    holds_group : (u v : Elem) → u ≢ v → Contains s.elements u → Contains s.elements v → held rest x.elements + 3 ≡ 2 * length x.elements → ((e : Elem) → Contains s.elements e → Contains x.elements e) → (t : Start) → Contains (starts g) t → t.number ≡ k → is_inside x.elements t ≡ true
    holds_group u v differ u_in v_in tight has t t_in is =
        let kept_it = part_has g sound (is_kept (c ∷ [])) k (because_kept g sound (c ∷ []) one are not_over because c follows s s_in numbered k k_in) in
        in_tight rest rest_sound rest_whole.family rest_whole.normal (none_kept_over g sound (c ∷ []) one are not_over) rest_whole.whole (whole_there g sound (c ∷ []) one are not_over)
        s.elements u v differ u_in v_in (in_whole g sound (c ∷ []) one are not_over because c follows s s_in numbered) because (because_enough g sound (c ∷ []) one are not_over because c follows s s_in numbered)
        x.elements (cluster_distinct less_k less_k_sound f normal x x_in) in_nodes tight has
        (because_minimal g sound (c ∷ []) one are not_over because c follows s s_in numbered) t
        ((in_part g (is_kept (c ∷ [])) sound t).1 (t_in, subst (λ (j : ConId). is_kept (c ∷ []) j ≡ true) (sym is) kept_it.1))
        (subst (λ (j : ConId). Contains because j) (sym is) k_in)

    -- what is over without k holds the one that is left out: else all of it is kept
    has_it : IsOver (part_with less_k x.elements) → is_inside x.elements s ≡ true
    has_it over = told (is_inside x.elements s) refl
      where
        told : (b : Bool) → is_inside x.elements s ≡ b → is_inside x.elements s ≡ true
        told true inside = inside
        told false outside =
            absurd (
            let part = held_part g sound (differs_from k) x.elements in
            let kept_part = held_part g sound (is_kept (c ∷ [])) x.elements in
            let less = where_less (λ t. differs_from k t.number && is_inside x.elements t) (λ t. is_kept (c ∷ []) t.number && is_inside x.elements t) (starts g)
            (λ t t_in passes. (
            let inside = (and_parts (differs_from k t.number) (is_inside x.elements t) passes).1 in
            and_from (is_kept (c ∷ []) t.number) (is_inside x.elements t) (none_kept (c ∷ []) t.number (λ h. (
            let is : t ≡ s = start_at g sound.edges_rise t s t_in s_in (sym (contains_one c t.number h) ∙ sym numbered) in
            let never : is_inside x.elements s ≡ true = subst (λ (d : Start). is_inside x.elements d ≡ true) is inside in
            absurd (cc)))) inside)) in
            let most = most_kept in
            let two = long in
            omega (arith, over, part, kept_part, less, most, two))

    none_over : ¬ IsOver (part_with less_k x.elements)
    none_over over =
        let (t, t_in, is) = (part_has g sound (is_kept (c ∷ [])) k (because_kept g sound (c ∷ []) one are not_over because c follows s s_in numbered k k_in)).0 in
        let (u, v, differ, u_in, v_in) = sound_two_each g sound s s_in in
        let all = all_there in
        let two = long in
        let most = most_kept in
        let fewer = less_there in
        let tight : held rest x.elements + 3 ≡ 2 * length x.elements = omega (arith, over, all, fewer, most, two) in
        let inside = holds_group u v differ u_in v_in tight (found_inside x.elements s (has_it over)) t t_in is in
        let less = less_by_one t t_in is inside in
        omega (arith, over, less, all, most, two)

  pub any_one : (k : ConId) → Contains (c ∷ because) k → (f : List Body) → IsNormal (without k g) f → (x : Body) → Contains f x → ¬ IsOver (part_with (without k g) x.elements)
  any_one k k_in =
      elim (contains_cases c because k k_in) [
        | inl same ↦ subst (λ (j : ConId). (f : List Body) → IsNormal (without j g) f → (x : Body) → Contains f x → ¬ IsOver (part_with (without j g) x.elements)) same without_it
        | inr later ↦ none_over k later
      ]
