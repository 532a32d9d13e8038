-- What is left out of a graph: there is one such list and no other, and what is kept.
use Rattle.std.proofs.Common.{◌≡◌, inl, inr, ℕ, zero, suc, ◌+◌, ◌*◌, ◌-◌, ◌<◌, ◌≤◌, Bool, true, false, List, [], ◌∷◌, ◌++◌, length, refl, ap, sym, subst, ◌∙◌, arith}
use Rattle.std.specs.Prelude.{Contains, map, filter, sum_by, not, ◌↔◌, ◌&&◌, ◌||◌}
use Rattle.std.proofs.lemmas.Bool.{and_parts, and_from}
use Rattle.sk_base.specs.declared.Elem.{Elem}
use Rattle.sk_base.specs.declared.ConId.{ConId}
use Rattle.sk_base.specs.declared.Graph.{Graph}
use Rattle.sk_base.specs.SoundGraph.{IsSoundGraph}
use Rattle.sk_base.specs.Numbering.{con_number, elem_number}
use Rattle.sk_base.specs.Rising.{IsRising}
use Rattle.sk_base.proofs.Filters.{filter_both}
use Rattle.sk_base.proofs.Members.{contains_none, contains_head, contains_later, contains_cases, contains_one, contains_mapped, mapped_from}
use Rattle.sk_base.proofs.Pairs.{pairs_head, pairs_map}
use Rattle.sk_base.proofs.Unions.{rising_none, rising_cons, rising_tail, rising_below, rising_same}
use Rattle.sk_family.specs.Body.{Body, Start, starts, starting, initial_bodies}
use Rattle.sk_rules.specs.Excess.{weight, weight_where, weight_of, held, is_inside, is_owned}
use Rattle.sk_rules.specs.JustSome.{with_just}
use Rattle.sk_rules.specs.Reach.{stays}
use Rattle.sk_rules.proofs.Counting.{reached_tight}
use Rattle.sk_rules.proofs.JustSome.{starts_of_part, sound_part}
use Rattle.sk_rules.proofs.SummedWeights.{weights_add, inside_found, owned_found}
use Rattle.sk_verdict.specs.declared.Judgement.{Judgement}
use Rattle.sk_verdict.specs.declared.Part.{Part}
use Rattle.sk_verdict.specs.Judging.{IsJudgement, IsOver}
use Rattle.sk_verdict.specs.Ordering.{PartBefore, AreInOrder}
use Rattle.sk_verdict.specs.Parts.{AreOfOnePart, elem_of, part_with}
use Rattle.sk_base.proofs.ListOrder.{before_irreflexive}
use Rattle.sk_plan.specs.Judged.{IsTheJudgement, IsWell}
use Rattle.sk_plan.proofs.Finished.{reached_within}
use Rattle.sk_plan.proofs.WellPlans.{well_of_one, named_in}
use Rattle.sk_spare.specs.Sparing.{IsSpare, differs_from}
use Rattle.sk_verdict.specs.OneCluster.{IsOneCluster}
use Rattle.sk_excess.specs.LeftOut.{is_number, is_kept, kept_graph, above, AreLeftOut, HasConstraint}
use Rattle.sk_excess.specs.Thinning.{AreLeftOutOf}
use Rattle.sk_excess.proofs.SomeLess.{kept_not, none_kept, in_above, part_has, has_part, kept_same}
use Rattle.sk_excess.proofs.OneClusters.{whole_in, only_whole, whole_at, whole_owns, whole_has, spare_has, spare_one, one_spare, one_with_more, one_decided}
use Rattle.sk_excess.proofs.Without.{without_kept}
use Rattle.sk_excess.proofs.Going.{none_gone, both_gone, same_gone}
use Rattle.sk_excess.proofs.Aside.{one_with_fewer, all_left, lone_left, still_one}

-- what is left out of all constraints
pub left_of_all : (g : Graph) → IsSoundGraph g → (all left : List ConId) → ((k : ConId) → HasConstraint g k → Contains all k) → AreLeftOutOf g all left → AreLeftOut g left
left_of_all g sound all left has are = record {
  exactly = λ k. (
    (λ h. ((are.exactly k).0 h).1),
    (λ s. (are.exactly k).1 (
      has k (part_has g sound (is_kept (above k left)) k (spare_has (kept_graph (above k left) g) (sound_part g (is_kept (above k left)) sound) k s)).0,
      s,
    )),
  );
  rise = are.rise;
}

-- some constraints have such a list
pub some_left : (g : Graph) → IsSoundGraph g → IsOneCluster g → (all : List ConId) → IsRising con_number all → ((k : ConId) → Contains all k → HasConstraint g k) → (left : List ConId) × AreLeftOutOf g all left
some_left g sound one [] rise there = ([], none_gone IsSpare g sound [] (λ k h. absurd (contains_none k h)))
some_left g sound one (x ∷ xs) rise there =
    let (late, of_late) = some_left g sound one xs (rising_tail con_number x xs rise) (λ k h. there k (contains_later x xs k h)) in
    let rest_sound : IsSoundGraph (kept_graph late g) = sound_part g (is_kept late) sound in
    let rest_one : IsOneCluster (kept_graph late g) = still_one g sound one late of_late.rise (λ k h. ((of_late.exactly k).0 h).1) in
    let apart : (j k : ConId) → Contains (x ∷ []) j → Contains xs k → j.0 < k.0 = λ j k j_in k_in. (
    let less : x.0 < k.0 = rising_below con_number x xs rise k k_in in subst (λ (i : ConId). i.0 < k.0) (contains_one x j j_in) less) in
    let here : (k : ConId) → Contains (x ∷ []) k → HasConstraint (kept_graph late g) k = λ k k_in. (
    has_part g sound (is_kept late) k (there k (subst (λ (i : ConId). Contains (x ∷ xs) i) (contains_one x k k_in) (contains_head x xs)))
    (none_kept late k (λ h. (let less = apart k k k_in ((of_late.exactly k).0 h).0 in omega (arith, less))))) in
    elim (one_decided (kept_graph (x ∷ []) (kept_graph late g)) (sound_part (kept_graph late g) (is_kept (x ∷ [])) rest_sound)) [
      | inl left ↦ (
        (x ∷ []) ++ late,
        both_gone IsSpare g sound (x ∷ []) xs (x ∷ []) late of_late
            (all_left (kept_graph late g) rest_sound (x ∷ []) (rising_cons con_number x [] (rising_none con_number) (λ y h. absurd (contains_none y h))) here left)
            apart,
      )
      | inr not ↦ (
        late,
        both_gone IsSpare g sound (x ∷ []) xs [] late of_late
            (none_gone IsSpare (kept_graph late g) rest_sound (x ∷ []) (lone_left (kept_graph late g) rest_sound rest_one (x ∷ []) (omega arith) not))
            apart,
      )
    ]

pub some_left_out : (g : Graph) → IsSoundGraph g → IsOneCluster g → (left : List ConId) × AreLeftOut g left
some_left_out g sound one =
    let all = one.whole.owned in
    let rise = ((reached_tight g one.family sound.edges_rise one.normal.reached).family.rising one.whole (whole_in g sound one)).owned in
    let (left, are) = some_left g sound one all rise (whole_has g sound one) in
    (left, left_of_all g sound all left (whole_owns g sound one) are)

-- there is one such list
pub one_list : (g : Graph) → IsSoundGraph g → (one other : List ConId) → AreLeftOut g one → AreLeftOut g other → one ≡ other
one_list g sound one other p q = same_gone IsSpare g sound one other p.exactly q.exactly p.rise q.rise

module _ (g : Graph) (sound : IsSoundGraph g) (left : List ConId) (are : AreLeftOut g left) where
  pub left_has : (k : ConId) → Contains left k → HasConstraint g k
  left_has k h = (part_has g sound (is_kept (above k left)) k (spare_has (kept_graph (above k left) g) (sound_part g (is_kept (above k left)) sound) k ((are.exactly k).0 h))).0

  module _ (one : IsOneCluster g) where
    pub kept_one : IsOneCluster (kept_graph left g)
    kept_one = still_one g sound one left are.rise (λ k h. (are.exactly k).0 h)

    -- none of what is kept is spare
    pub none_more : (k : ConId) → ¬ IsSpare (kept_graph left g) k
    none_more k s =
        let some = above k left in
        let here = part_has g sound (is_kept left) k (spare_has (kept_graph left g) (sound_part g (is_kept left) sound) k s) in
        let less = subst (λ (h : Graph). IsOneCluster h) (without_kept g sound left k) (spare_one (kept_graph left g) (sound_part g (is_kept left) sound) kept_one k s) in
        let fewer : (j : ConId) → is_kept left j ≡ true → is_kept some j ≡ true = λ j passes. none_kept some j (λ h. kept_not left j passes ((in_above k left j).0 h).0) in
        let more : IsOneCluster (with_just (λ j. is_kept some j && differs_from k j) g) =
        one_with_more g sound (λ j. is_kept left j && differs_from k j) (λ j. is_kept some j && differs_from k j)
        (λ j has passes. (let both = and_parts (is_kept left j) (differs_from k j) passes in and_from (is_kept some j) (differs_from k j) (fewer j both.0) both.1))
        less in
        let spare : IsSpare (kept_graph some g) k =
        one_spare (kept_graph some g) (sound_part g (is_kept some) sound)
        (one_with_fewer g sound left some (λ j h. ((in_above k left j).0 h).0) kept_one) k
        (has_part g sound (is_kept some) k here.0 (fewer k here.1))
        (subst (λ (h : Graph). IsOneCluster h) (sym (without_kept g sound some k)) more) in
        kept_not left k here.1 ((are.exactly k).1 spare)

module _ (g : Graph) (sound : IsSoundGraph g) where
  abbrev nodes : List Elem
  nodes = map elem_of g.nodes

  all_inside : (s : Start) → Contains (starts g) s → is_inside nodes s ≡ true
  all_inside s s_in = inside_found nodes s (reached_within g sound (initial_bodies g) stays (starting s) (contains_mapped starting (starts g) s s_in)).elements

  -- what is left out weighs what is held no more
  pub left_weighs : (left : List ConId) → held g nodes ≡ held (kept_graph left g) nodes + weight_of g left
  left_weighs left =
      let sums = weights_add kept_inside (is_owned left) (is_inside nodes) (starts g)
      (λ s s_in. all_inside s s_in ∙ either (is_number left s.number) (is_inside nodes s) (all_inside s s_in))
      (λ s s_in kept out. kept_not left s.number (and_parts (is_kept left s.number) (is_inside nodes s) kept).0 (owned_found left s out)) in
      let few : held (kept_graph left g) nodes ≡ weight_where kept_inside (starts g) =
      ap (λ ss. sum_by weight (filter (is_inside nodes) ss)) (starts_of_part g (is_kept left) sound)
      ∙ sym (ap (λ ss. sum_by weight ss) (filter_both (λ (s : Start). is_kept left s.number) (is_inside nodes) kept_inside (λ s. refl) (starts g))) in
      omega (arith, sums, few)
    where
      kept_inside : Start → Bool
      kept_inside s = is_kept left s.number && is_inside nodes s

      either : (out inside : Bool) → inside ≡ true → true ≡ ((not out && inside) || out)
      either true inside is = refl
      either false inside is = rw is refl

  module _ (one : IsOneCluster g) where
    pub whole_is : one.whole.elements ≡ nodes
    whole_is =
        rising_same elem_number one.whole.elements nodes
        ((reached_tight g one.family sound.edges_rise one.normal.reached).family.rising one.whole (whole_in g sound one)).elements
        (pairs_map (λ (x y : Elem). x.0 < y.0) elem_of g.nodes sound.nodes_rise)
        (λ e h. (let (n, n_in, is) = whole_at g sound one e h in subst (λ (d : Elem). Contains nodes d) is (contains_mapped elem_of g.nodes n n_in)))
        (λ e h. (let (n, n_in, is) = mapped_from elem_of g.nodes e h in subst (λ (d : Elem). Contains one.whole.elements d) is (one.has_nodes n n_in)))

    -- its part is the only one
    one_part : AreOfOnePart g one.family nodes
    one_part = inl (one.whole, whole_in g sound one, whole_is)

    only_part : (xs : List Elem) → AreOfOnePart g one.family xs → xs ≡ nodes
    only_part xs (inl (x, x_in, same)) = sym same ∙ ap (λ (z : Body). z.elements) (sym (only_whole g sound one x x_in)) ∙ whole_is
    only_part xs (inr (e, lone, same)) =
        let (n, n_in, is) = mapped_from elem_of g.nodes e lone.is_node in
        absurd (named_in g one.family one.normal.reached one.whole (whole_in g sound one) e
        (subst (λ (d : Elem). Contains one.whole.elements d) is (one.has_nodes n n_in)) lone.named_by_none)

    pub well_of_whole : ¬ IsOver (part_with g nodes) → IsWell g
    well_of_whole not_over = well_of_one g one.family nodes sound one.normal (under (held g nodes) (2 * length nodes - 3) not_over) one_part only_part
      where
        under : (holds due : ℕ) → ¬ (due < holds) → holds ≤ due
        under holds due not = omega (arith, not)

    pub parts_of_whole : (j : Judgement) → IsTheJudgement g j → j.parts ≡ part_with g nodes ∷ []
    parts_of_whole j is = alone j.parts refl
      where
        judged : IsJudgement g one.family j
        judged = is.every one.family one.normal

        each : (p : Part) → Contains j.parts p → p ≡ part_with g nodes
        each p p_in = (let part = (judged.parts p).0 p_in in part.1 ∙ ap (λ (xs : List Elem). part_with g xs) (only_part p.elements part.0))

        alone : (ps : List Part) → j.parts ≡ ps → j.parts ≡ part_with g nodes ∷ []
        alone [] is_none = absurd (contains_none (part_with g nodes) (subst (λ ps. Contains ps (part_with g nodes)) is_none ((judged.parts (part_with g nodes)).1 (one_part, refl))))
        alone (p ∷ []) is_one = is_one ∙ ap (λ (z : Part). z ∷ []) (each p (subst (λ ps. Contains ps p) (sym is_one) (contains_head p [])))
        alone (p ∷ q ∷ ps) is_more =
            let first = each p (subst (λ rs. Contains rs p) (sym is_more) (contains_head p (q ∷ ps))) in
            let second = each q (subst (λ rs. Contains rs q) (sym is_more) (contains_later p (q ∷ ps) q (contains_head q ps))) in
            let before : PartBefore p q = pairs_head PartBefore p (q ∷ ps) (subst (λ rs. AreInOrder rs) is_more judged.in_order) q (contains_head q ps) in
            absurd (before_irreflexive p.elements (subst (λ (z : Part). PartBefore p z) (second ∙ sym first) before))

pub kept_well : (g : Graph) → IsSoundGraph g → (left : List ConId) → AreLeftOut g left → IsOneCluster g → ¬ IsOver (part_with (kept_graph left g) (map elem_of g.nodes)) → IsWell (kept_graph left g)
kept_well g sound left are one not_over = well_of_whole (kept_graph left g) (sound_part g (is_kept left) sound) (kept_one g sound left are one) not_over
