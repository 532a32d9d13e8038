-- How the search by halves follows what is set aside, whatever is asked of each constraint.
use Rattle.std.proofs.Common.{◌≡◌, ◌⊎◌, inl, inr, refl, ℕ, ◌+◌, ◌<◌, ◌≤◌, Bool, true, false, cond, List, [], ◌∷◌, ◌++◌, length, take, drop, ap, sym, subst, ◌∙◌, arith}
use Rattle.std.specs.Prelude.{Contains, map, filter, not, ◌&&◌}
use Rattle.std.proofs.lemmas.Bool.{and_parts, and_from, false_from_ne_true}
use Rattle.std.proofs.lemmas.List.{length-map, take-append-drop}
use Rattle.std.proofs.lemmas.List.Filters.{length-filter_both}
use Rattle.sk_base.specs.declared.ConId.{ConId}
use Rattle.sk_base.specs.declared.Edge.{Edge}
use Rattle.sk_base.specs.declared.Block.{Block}
use Rattle.sk_base.specs.declared.Graph.{Graph}
use Rattle.sk_base.specs.SoundGraph.{IsSoundGraph}
use Rattle.sk_base.specs.Numbering.{con_number}
use Rattle.sk_base.specs.Rising.{IsRising}
use Rattle.sk_base.proofs.Deciding.{con_settles}
use Rattle.sk_base.proofs.Distinct.{no_longer}
use Rattle.sk_base.proofs.Filters.{same_tests}
use Rattle.sk_base.proofs.Members.{contains_none, contains_head, contains_later, contains_mapped, contains_filtered, filtered_from}
use Rattle.sk_base.proofs.Pairs.{pairs_filter}
use Rattle.sk_base.proofs.Splits.{in_take, in_drop, in_either, pairs_take, pairs_drop, pairs_across}
use Rattle.sk_family.specs.Body.{Body, Start, starts, starting, initial_bodies, nothing, edge_start, block_start}
use Rattle.sk_family.proofs.GraphStarts.{starts_few, no_starts, edge_starts, block_starts}
use Rattle.sk_rules.specs.Excess.{AreConstraints}
use Rattle.sk_rules.specs.JustSome.{with_just}
use Rattle.sk_rules.specs.Reach.{Reach, IsClosed, IsNormal, stays}
use Rattle.sk_rules.proofs.Closing.{no_merge_of_one}
use Rattle.sk_rules.proofs.JustSome.{sound_part}
use Rattle.sk_rules.proofs.Keeping.{can_carry, contains_settles}
use Rattle.sk_spare.specs.Halving.{IsMadeOf, AreFurther, too}
use Rattle.sk_spare.proofs.LeavingOut.{distinct}
use Rattle.sk_spare.proofs.PutBack.{passes_too, CanJoin}
use Rattle.sk_excess.specs.LeftOut.{is_kept, kept_graph, HasConstraint}
use Rattle.sk_excess.specs.Going.{AreGoneOf, but, IsBut}
use Rattle.sk_excess.proofs.SomeLess.{kept_not, none_kept, just_twice, just_agree, has_part}
use Rattle.sk_excess.proofs.Going.{both_gone}

module _ (g : Graph) (sound : IsSoundGraph g) (p : ConId → Bool) (aside : List ConId) (rise : IsRising con_number aside) where
  abbrev all : Graph
  all = with_just p g

  all_sound : IsSoundGraph all
  all_sound = sound_part g p sound

  module _ (f : List Body) (w : IsBut g p aside f) where
    pub there_in_all : (k : ConId) → Contains aside k → HasConstraint all k
    there_in_all k k_in = (let is = w.there k k_in in has_part g sound p k is.0 is.1)

    pub others_normal : IsNormal (kept_graph aside all) f
    others_normal = record {
      reached = subst (λ (h : Graph). Reach h (initial_bodies h) f) (sym (just_twice g p (is_kept aside))) w.made;
      closed = λ some among can. w.closed some among (can_carry (kept_graph aside all) g some (λ y y_in e e_in line. line) can);
    }

    pub constraints_aside : AreConstraints g aside
    constraints_aside = record {
      rise = rise;
      few = (
          let counted = no_longer aside (map (λ (s : Start). s.number) (starts g)) (distinct con_number aside rise) (λ k k_in. (
          let ((s, s_in, is), passes) = w.there k k_in in
          subst (λ j. Contains (map (λ (s : Start). s.number) (starts g)) j) is (contains_mapped (λ (s : Start). s.number) (starts g) s s_in))) in
          let size : length (map (λ (s : Start). s.number) (starts g)) ≡ length (starts g) = rw length-map in
          let most = starts_few g sound.edges_rise in
          let few = sound.few_constraints in
          omega (arith, counted, size, most, few));
      there = λ k k_in. (w.there k k_in).0;
    }

  -- where the segment is split
  module _ (f : List Body) (w : IsBut g p aside f) (i : ℕ) where
    abbrev less : List ConId
    less = take i aside

    abbrev greater : List ConId
    greater = drop i aside

    apart : (j k : ConId) → Contains less j → Contains greater k → j.0 < k.0
    apart j k j_in k_in = pairs_across (λ (j k : ConId). j.0 < k.0) i aside rise j k j_in k_in

    not_both : (k : ConId) → Contains less k → ¬ Contains greater k
    not_both k early late = (let below = apart k k early late in omega (arith, below))

    further : (some : List ConId) → IsRising con_number some → ((k : ConId) → Contains some k → Contains aside k) → AreFurther g (but p aside) some
    further some rises within = record {
      rise = rises;
      there = λ k k_in. (w.there k (within k k_in)).0;
      fresh = λ k k_in. false_from_ne_true (but p aside k) (λ passes. kept_not aside k (and_parts (p k) (is_kept aside k) passes).1 (within k k_in));
    }

    pub less_further : AreFurther g (but p aside) less
    less_further = further less (pairs_take (λ (j k : ConId). j.0 < k.0) i aside rise) (in_take i aside)

    pub kept_further : (late : List ConId) → AreFurther g (but p aside) (filter (is_kept late) greater)
    kept_further late =
        further (filter (is_kept late) greater)
        (pairs_filter (λ (j k : ConId). j.0 < k.0) (is_kept late) greater (pairs_drop (λ (j k : ConId). j.0 < k.0) i aside rise))
        (λ k h. in_drop i aside k (filtered_from (is_kept late) greater k h).0)

    pub few_kept : (late : List ConId) → length (filter (is_kept late) greater) ≤ length greater
    few_kept late = (let both = length-filter_both (is_kept late) (λ (k : ConId). not (is_kept late k)) (λ k. refl) greater in omega (arith, both))

    -- with the lesser half put back
    without_greater : (m : List Body) → IsMadeOf g (too (but p aside) less) m → IsClosed g m → IsBut g p greater m
    without_greater m made closed = record {
      there = λ k k_in. w.there k (in_drop i aside k k_in);
      made = subst (λ (h : Graph). Reach h (initial_bodies h) m) (just_agree g sound (too (but p aside) less) (but p greater) (λ k has. same_tests (too (but p aside) less k) (but p greater k)
          (λ passes. elim ((passes_too (but p aside) less k).0 passes) [
            | inl was ↦ (
                let both = and_parts (p k) (is_kept aside k) was in
                and_from (p k) (is_kept greater k) both.0 (none_kept greater k (λ h. kept_not aside k both.1 (in_drop i aside k h))))
            | inr early ↦ and_from (p k) (is_kept greater k) (w.there k (in_take i aside k early)).1 (none_kept greater k (not_both k early))
          ])
          (λ passes. (
          let both = and_parts (p k) (is_kept greater k) passes in
          (passes_too (but p aside) less k).1 (other_half k both.0 (kept_not greater k both.1)))))) made;
      closed = closed;
    }
      where
        other_half : (k : ConId) → p k ≡ true → (¬ Contains greater k) → (but p aside k ≡ true) ⊎ Contains less k
        other_half k passes out =
            elim (contains_settles con_settles less k) [
              | inl early ↦ inr early
              | inr not_early ↦ inl (and_from (p k) (is_kept aside k) passes (none_kept aside k (λ h. elim (in_either i aside k h) [ inl early ↦ not_early early | inr late ↦ out late ])))
            ]

    pub greater_but : (m : List Body) → CanJoin g less f m → IsClosed g m → IsBut g p greater m
    greater_but m joins closed = without_greater m (joins (but p aside) less_further w.made) closed

    -- with what is kept of the greater half put back
    module _ (late : List ConId) (late_in : (k : ConId) → Contains late k → Contains greater k) where
      abbrev pub and_kept : ConId → Bool
      and_kept k = p k && is_kept late k

      pub and_kept_is : kept_graph late all ≡ with_just and_kept g
      and_kept_is = just_twice g p (is_kept late)

      without_less : (m : List Body) → IsMadeOf g (too (but p aside) (filter (is_kept late) greater)) m → IsClosed g m → IsBut g and_kept less m
      without_less m made closed = record {
        there = λ k k_in. (
            let is = w.there k (in_take i aside k k_in) in
            (is.0, and_from (p k) (is_kept late k) is.1 (none_kept late k (λ h. not_both k k_in (late_in k h)))));
        made = subst (λ (h : Graph). Reach h (initial_bodies h) m) (just_agree g sound (too (but p aside) back) (but and_kept less) (λ k has. same_tests (too (but p aside) back k) (but and_kept less k)
            (λ passes. elim ((passes_too (but p aside) back k).0 passes) [
              | inl was ↦ (
                  let both = and_parts (p k) (is_kept aside k) was in
                  and_from (and_kept k) (is_kept less k)
                  (and_from (p k) (is_kept late k) both.0 (none_kept late k (λ h. kept_not aside k both.1 (in_drop i aside k (late_in k h)))))
                  (none_kept less k (λ h. kept_not aside k both.1 (in_take i aside k h))))
              | inr put ↦ (
                  let was = filtered_from (is_kept late) greater k put in
                  and_from (and_kept k) (is_kept less k)
                  (and_from (p k) (is_kept late k) (w.there k (in_drop i aside k was.0)).1 was.1)
                  (none_kept less k (λ h. not_both k h was.0)))
            ])
            (λ passes. (
            let both = and_parts (and_kept k) (is_kept less k) passes in
            let more = and_parts (p k) (is_kept late k) both.0 in
            (passes_too (but p aside) back k).1 (stays_or_back k more.0 more.1 (kept_not less k both.1)))))) made;
        closed = closed;
      }
        where
          back : List ConId
          back = filter (is_kept late) greater

          stays_or_back : (k : ConId) → p k ≡ true → is_kept late k ≡ true → (¬ Contains less k) → (but p aside k ≡ true) ⊎ Contains back k
          stays_or_back k passes kept out =
              elim (contains_settles con_settles greater k) [
                | inl there ↦ inr (contains_filtered (is_kept late) greater k there kept)
                | inr not_there ↦ inl (and_from (p k) (is_kept aside k) passes (none_kept aside k (λ h. elim (in_either i aside k h) [ inl early ↦ out early | inr there ↦ not_there there ])))
              ]

      pub less_but : (back : List ConId) → back ≡ filter (is_kept late) greater → (m : List Body) → CanJoin g back f m → IsClosed g m → IsBut g and_kept less m
      less_but back is m joins closed =
          without_less m
          (subst (λ (ks : List ConId). IsMadeOf g (too (but p aside) ks) m) is
          (joins (but p aside) (subst (λ (ks : List ConId). AreFurther g (but p aside) ks) (sym is) (kept_further late)) w.made))
          closed

    -- what goes of the greater half, and then of the lesser one
    pub both_halves : (P : Graph → ConId → Type 0) (late : List ConId) → AreGoneOf P all greater late → (early : List ConId) → AreGoneOf P (with_just (λ k. p k && is_kept late k) g) less early → AreGoneOf P all aside (early ++ late)
    both_halves P late of_greater early of_less =
        subst (λ (ks : List ConId). AreGoneOf P all ks (early ++ late)) (take-append-drop i aside)
        (both_gone P all all_sound less greater early late of_greater (subst (λ (h : Graph). AreGoneOf P h less early) (sym (just_twice g p (is_kept late))) of_less) apart)

none_in : {X : Type 0} (p : X → Bool) (xs : List X) → ((x : X) → Contains xs x → p x ≡ false) → filter p xs ≡ []
none_in p [] fails = refl
none_in p (x ∷ xs) fails =
    ap (λ b. cond b (x ∷ filter p xs) (filter p xs)) (fails x (contains_head x xs)) ∙ none_in p xs (λ y h. fails y (contains_later x xs y h))

-- at first all that pass are set aside, and the family is that of nothing
module _ (g : Graph) (sound : IsSoundGraph g) (p : ConId → Bool) (all : List ConId) (there : (k : ConId) → Contains all k → HasConstraint g k × (p k ≡ true)) (each : (k : ConId) → HasConstraint g k → p k ≡ true → Contains all k) where
  abbrev rest : Graph
  rest = with_just (but p all) g

  none_rests : (k : ConId) → HasConstraint g k → but p all k ≡ false
  none_rests k has = false_from_ne_true (but p all k) (λ passes. (let both = and_parts (p k) (is_kept all k) passes in kept_not all k both.1 (each k has both.0)))

  nothing_left : starts rest ≡ []
  nothing_left =
      no_starts rest
      (none_in (λ (e : Edge). but p all e.id) g.edges (λ e e_in. none_rests e.id (edge_start e, edge_starts g e e_in, refl)))
      (none_in (λ (b : Block). but p all b.id) g.blocks (λ b b_in. none_rests b.id (block_start b, block_starts g sound.blocks_rise sound.blocks_apart b b_in, refl)))

  pub all_but : (f : List Body) → f ≡ [] → IsBut g p all f
  all_but f none =
      subst (λ (n : List Body). IsBut g p all n) (sym none) (record {
        there = there;
        made = subst (λ n. Reach rest n []) (sym (ap (λ ss. map starting ss) nothing_left)) stays;
        closed = λ some among can. no_merge_of_one g some nothing can (λ y y_in. absurd (contains_none y (among y y_in)));
      })
