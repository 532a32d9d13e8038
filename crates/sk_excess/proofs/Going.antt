-- What goes of some constraints, by any question to a graph and one of its constraints: of the greater ones first, and then
-- of the lesser ones in the graph without what went.
use Rattle.std.proofs.Common.{◌≡◌, inl, inr, ℕ, zero, suc, ◌+◌, ◌<◌, ◌≤◌, List, [], ◌∷◌, ◌++◌, ap, sym, subst, arith}
use Rattle.std.specs.Prelude.{Contains, ◌↔◌}
use Rattle.std.proofs.lemmas.List.Elements.{Contains-append_left, Contains-append_right, Contains-append_cases}
use Rattle.sk_base.specs.declared.ConId.{ConId}
use Rattle.sk_base.specs.declared.Graph.{Graph}
use Rattle.sk_base.specs.SoundGraph.{IsSoundGraph}
use Rattle.sk_base.specs.Numbering.{con_number}
use Rattle.sk_base.specs.Rising.{IsRising}
use Rattle.sk_base.proofs.Members.{contains_none, contains_head, contains_later, contains_cases}
use Rattle.sk_base.proofs.Pairs.{pairs_none}
use Rattle.sk_base.proofs.Splits.{pairs_append}
use Rattle.sk_base.proofs.Unions.{rising_same, rising_tail}
use Rattle.sk_rules.proofs.JustSome.{sound_part}
use Rattle.sk_spare.specs.Sparing.{without}
use Rattle.sk_excess.specs.LeftOut.{is_kept, kept_graph, above}
use Rattle.sk_excess.specs.Going.{AreGoneOf}
use Rattle.sk_excess.proofs.SomeLess.{in_above, kept_none, kept_same, kept_twice}
use Rattle.sk_excess.proofs.Without.{without_more, above_first, above_others}

-- a number that is greater than all of some
bound : (ks : List ConId) → (most : ℕ) × ((k : ConId) → Contains ks k → k.0 < most)
bound [] = (0, λ k h. absurd (contains_none k h))
bound (x ∷ xs) =
    let (most, below) = bound xs in (
      x.0 + 1 + most,
      λ k h. elim (contains_cases x xs k h) [
        | inl here ↦ (let level = ap con_number here in omega (arith, level))
        | inr later ↦ (let less = below k later in omega (arith, less))
      ],
    )

module _ (P : Graph → ConId → Type 0) (g : Graph) (sound : IsSoundGraph g) where
  -- all of a segment, where the question holds of each without the greater ones
  pub all_gone : (aside : List ConId) → IsRising con_number aside → ((k : ConId) → Contains aside k → P (kept_graph (above k aside) g) k) → AreGoneOf P g aside aside
  all_gone aside rise each = record {
    exactly = λ k. ((λ k_in. (k_in, each k k_in)), (λ h. h.0));
    rise = rise;
  }

  -- none of it, where it holds of none
  pub none_gone : (aside : List ConId) → ((k : ConId) → Contains aside k → ¬ P g k) → AreGoneOf P g aside []
  none_gone aside none = record {
    exactly = λ k. ((λ h. absurd (contains_none k h)), (λ h. absurd (none k h.0 (subst (λ (s : Graph). P s k) (kept_none g) h.1))));
    rise = pairs_none (λ (j k : ConId). j.0 < k.0);
  }

  -- what goes of the greater ones, and then of the lesser ones
  module _ (less greater early late : List ConId) (of_greater : AreGoneOf P g greater late) (of_less : AreGoneOf P (kept_graph late g) less early)
      (apart : (j k : ConId) → Contains less j → Contains greater k → j.0 < k.0) where
    with_less : (k : ConId) → Contains less k → kept_graph (above k early) (kept_graph late g) ≡ kept_graph (above k (early ++ late)) g
    with_less k k_in =
        kept_twice g sound late (above k early) (above k (early ++ late)) (λ j. (
          (λ h. (
              let was = (in_above k (early ++ late) j).0 h in
              elim (Contains-append_cases early late j was.0) [
                | inl first ↦ inr ((in_above k early j).1 (first, was.1))
                | inr second ↦ inl second
              ])),
          (λ h. (in_above k (early ++ late) j).1 (elim h [
            | inl second ↦ (Contains-append_right early late j second, apart k j k_in ((of_greater.exactly j).0 second).0)
            | inr first ↦ (let was = (in_above k early j).0 first in (Contains-append_left early late j was.0, was.1))
          ])),
        ))

    with_greater : (k : ConId) → Contains greater k → kept_graph (above k late) g ≡ kept_graph (above k (early ++ late)) g
    with_greater k k_in =
        kept_same g sound (above k late) (above k (early ++ late)) (λ j. (
          (λ h. (let was = (in_above k late j).0 h in (in_above k (early ++ late) j).1 (Contains-append_right early late j was.0, was.1))),
          (λ h. (
              let was = (in_above k (early ++ late) j).0 h in
              (in_above k late j).1 (
                elim (Contains-append_cases early late j was.0) [
                  | inl first ↦ absurd (let below = apart j k ((of_less.exactly j).0 first).0 k_in in omega (arith, below, was.1))
                  | inr second ↦ second
                ],
                was.1,
              ))),
        ))

    pub both_gone : AreGoneOf P g (less ++ greater) (early ++ late)
    both_gone = record {
      exactly = λ k. (
        (λ h. elim (Contains-append_cases early late k h) [
          | inl first ↦ (
              let was = (of_less.exactly k).0 first in
              (Contains-append_left less greater k was.0, subst (λ (s : Graph). P s k) (with_less k was.0) was.1))
          | inr second ↦ (
              let was = (of_greater.exactly k).0 second in
              (Contains-append_right less greater k was.0, subst (λ (s : Graph). P s k) (with_greater k was.0) was.1))
        ]),
        (λ h. elim (Contains-append_cases less greater k h.0) [
          | inl first ↦ Contains-append_left early late k ((of_less.exactly k).1 (first, subst (λ (s : Graph). P s k) (sym (with_less k first)) h.1))
          | inr second ↦ Contains-append_right early late k ((of_greater.exactly k).1 (second, subst (λ (s : Graph). P s k) (sym (with_greater k second)) h.1))
        ]),
      );
      rise = pairs_append (λ (j k : ConId). j.0 < k.0) early late of_less.rise of_greater.rise
          (λ j k j_in k_in. apart j k ((of_less.exactly j).0 j_in).0 ((of_greater.exactly k).0 k_in).0);
    }

  -- from the greatest number down the same go
  module _ (one other : List ConId) (p : (k : ConId) → Contains one k ↔ P (kept_graph (above k one) g) k) (q : (k : ConId) → Contains other k ↔ P (kept_graph (above k other) g) k) where
    agree_from : (m : ℕ) (k : ConId) → (bound one).0 + (bound other).0 ≤ k.0 + m → Contains one k ↔ Contains other k
    agree_from zero k over = (
      (λ h. absurd (let less = (bound one).1 k h in omega (arith, less, over))),
      (λ h. absurd (let less = (bound other).1 k h in omega (arith, less, over))),
    )
    agree_from (suc m) k over =
        let same = kept_same g sound (above k one) (above k other) (λ j. (
          (λ h. (
              let was = (in_above k one j).0 h in
              (in_above k other j).1 ((agree_from m j (omega (arith, over, was.1))).0 was.0, was.1))),
          (λ h. (
              let was = (in_above k other j).0 h in
              (in_above k one j).1 ((agree_from m j (omega (arith, over, was.1))).1 was.0, was.1))),
        )) in (
          (λ h. (q k).1 (subst (λ (s : Graph). P s k) same ((p k).0 h))),
          (λ h. (p k).1 (subst (λ (s : Graph). P s k) (sym same) ((q k).0 h))),
        )

    pub same_gone : IsRising con_number one → IsRising con_number other → one ≡ other
    same_gone one_rises other_rises =
        let most = (bound one).0 + (bound other).0 in
        rising_same con_number one other one_rises other_rises
        (λ k h. (agree_from most k (omega arith)).0 h)
        (λ k h. (agree_from most k (omega arith)).1 h)

-- what the graph is, it is without what goes, if one more that goes leaves it so
module _ (P : Graph → ConId → Type 0) (Q : Graph → Type 0) (keeps : (h : Graph) → IsSoundGraph h → Q h → (k : ConId) → P h k → Q (without k h)) (g : Graph) (sound : IsSoundGraph g) where
  pub still_so : Q g → (gone : List ConId) → IsRising con_number gone → ((k : ConId) → Contains gone k → P (kept_graph (above k gone) g) k) → Q (kept_graph gone g)
  still_so so [] rise each = subst (λ (h : Graph). Q h) (sym (kept_none g)) so
  still_so so (x ∷ xs) rise each =
      subst (λ (h : Graph). Q h) (without_more g sound x xs)
      (keeps (kept_graph xs g) (sound_part g (is_kept xs) sound)
      (still_so so xs (rising_tail con_number x xs rise) (λ k k_in. subst (λ (h : Graph). P h k) (above_others g sound x xs rise k k_in) (each k (contains_later x xs k k_in))))
      x (subst (λ (h : Graph). P h x) (above_first g sound x xs rise) (each x (contains_head x xs))))
