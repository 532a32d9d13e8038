-- Graphs without one of their constraints, and without some.
use Rattle.std.proofs.Common.{◌≡◌, inl, inr, ◌<◌, true, List, [], ◌∷◌, ap, sym, subst, ◌∙◌, arith}
use Rattle.std.specs.Prelude.{Contains, ◌&&◌}
use Rattle.std.proofs.lemmas.Bool.{and_parts, and_from}
use Rattle.sk_base.specs.declared.ConId.{ConId}
use Rattle.sk_base.specs.declared.Graph.{Graph}
use Rattle.sk_base.specs.SoundGraph.{IsSoundGraph}
use Rattle.sk_base.specs.Numbering.{con_number, con_exact}
use Rattle.sk_base.specs.Rising.{IsRising}
use Rattle.sk_base.proofs.Filters.{same_tests}
use Rattle.sk_base.proofs.Members.{contains_head, contains_later, contains_cases, contains_one}
use Rattle.sk_base.proofs.Numbers.{other_passes, passes_differ}
use Rattle.sk_base.proofs.Unions.{rising_below}
use Rattle.sk_rules.specs.JustSome.{with_just}
use Rattle.sk_spare.specs.Sparing.{differs_from, without}
use Rattle.sk_excess.specs.LeftOut.{is_kept, kept_graph, above}
use Rattle.sk_excess.proofs.SomeLess.{kept_not, none_kept, in_above, just_twice, just_agree, kept_same}

pub differs : (k j : ConId) → differs_from k j ≡ true → ¬ (k ≡ j)
differs k j passes same = passes_differ j.0 k.0 passes (ap con_number (sym same))

pub to_differ : (k j : ConId) → ¬ (k ≡ j) → differs_from k j ≡ true
to_differ k j other = other_passes j.0 k.0 (λ same. other (sym (con_exact j k same)))

module _ (g : Graph) (sound : IsSoundGraph g) where
  -- without one more
  pub without_kept : (left : List ConId) (k : ConId) → without k (kept_graph left g) ≡ with_just (λ j. is_kept left j && differs_from k j) g
  without_kept left k = just_twice g (is_kept left) (differs_from k)

  -- one alone is left out
  pub without_one : (k : ConId) → without k g ≡ kept_graph (k ∷ []) g
  without_one k =
      just_agree g sound (differs_from k) (is_kept (k ∷ [])) (λ j has. same_tests (differs_from k j) (is_kept (k ∷ []) j)
      (λ passes. none_kept (k ∷ []) j (λ h. differs k j passes (contains_one k j h)))
      (λ passes. to_differ k j (λ same. kept_not (k ∷ []) j passes (subst (λ (i : ConId). Contains (k ∷ []) i) same (contains_head k [])))))

  module _ (x : ConId) (xs : List ConId) where
    -- one more is left out
    pub without_more : without x (kept_graph xs g) ≡ kept_graph (x ∷ xs) g
    without_more =
        without_kept xs x
        ∙ just_agree g sound (λ j. is_kept xs j && differs_from x j) (is_kept (x ∷ xs)) (λ j has. same_tests (is_kept xs j && differs_from x j) (is_kept (x ∷ xs) j)
        (λ passes. (
        let both = and_parts (is_kept xs j) (differs_from x j) passes in
        none_kept (x ∷ xs) j (λ h. elim (contains_cases x xs j h) [ inl here ↦ differs x j both.1 here | inr later ↦ kept_not xs j both.0 later ])))
        (λ passes. and_from (is_kept xs j) (differs_from x j)
        (none_kept xs j (λ h. kept_not (x ∷ xs) j passes (contains_later x xs j h)))
        (to_differ x j (λ same. kept_not (x ∷ xs) j passes (subst (λ (i : ConId). Contains (x ∷ xs) i) same (contains_head x xs))))))

    module _ (rise : IsRising con_number (x ∷ xs)) where
      -- above the first of a rising list stand all others
      pub above_first : kept_graph (above x (x ∷ xs)) g ≡ kept_graph xs g
      above_first =
          kept_same g sound (above x (x ∷ xs)) xs (λ j. (
            (λ h. (
                let was = (in_above x (x ∷ xs) j).0 h in
                elim (contains_cases x xs j was.0) [
                  | inl here ↦ absurd (let level = ap con_number here in omega (arith, level, was.1))
                  | inr later ↦ later
                ])),
            (λ h. (in_above x (x ∷ xs) j).1 (contains_later x xs j h, rising_below con_number x xs rise j h)),
          ))

      -- and above another stand the same without the first
      pub above_others : (k : ConId) → Contains xs k → kept_graph (above k (x ∷ xs)) g ≡ kept_graph (above k xs) g
      above_others k k_in =
          kept_same g sound (above k (x ∷ xs)) (above k xs) (λ j. (
            (λ h. (
                let was = (in_above k (x ∷ xs) j).0 h in
                (in_above k xs j).1 (
                  elim (contains_cases x xs j was.0) [
                    | inl here ↦ absurd (let below : x.0 < k.0 = rising_below con_number x xs rise k k_in in let level = ap con_number here in omega (arith, below, level, was.1))
                    | inr later ↦ later
                  ],
                  was.1,
                ))),
            (λ h. (let was = (in_above k xs j).0 h in (in_above k (x ∷ xs) j).1 (contains_later x xs j was.0, was.1))),
          ))
