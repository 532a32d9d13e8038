-- The first two of the elements that two lists share.
use Rattle.std.proofs.Common.{◌≡◌, inl, inr, ◌<◌, List, [], ◌∷◌, ap, sym, subst, ◌∙◌, arith}
use Rattle.std.specs.Prelude.{Contains, AllPairs, Some, None, slice_get}
use Rattle.sk_base.specs.declared.Elem.{Elem}
use Rattle.sk_base.specs.Numbering.{elem_number, is_elem}
use Rattle.sk_base.specs.Rising.{IsRising}
use Rattle.sk_base.proofs.Members.{contains_none, contains_head, contains_later, contains_one, contains_cases, contains_filtered, filtered_from}
use Rattle.sk_base.proofs.Pairs.{pairs_head, pairs_tail, pairs_filter}
use Rattle.sk_family.specs.Sharing.{shared}
use Rattle.sk_family.specs.Rules.{IsShared, SharesTwo}
use Rattle.sk_rules.specs.Merges.{IsLeastPair}
use Rattle.sk_base.proofs.Numbers.{elem_found, found_elem}

module _ (xs ys : List Elem) where
  in_shared : (e : Elem) → IsShared xs ys e → Contains (shared xs ys) e
  in_shared e both = contains_filtered (is_elem ys) xs e both.0 (found_elem ys e both.1)

  from_shared : (e : Elem) → Contains (shared xs ys) e → IsShared xs ys e
  from_shared e e_in = (let was = filtered_from (is_elem ys) xs e e_in in (was.0, elem_found ys e was.1))

  pub none_first : (all : List Elem) → all ≡ shared xs ys → slice_get all 0 ≡ None → ¬ SharesTwo xs ys
  none_first [] is none (a, b, pair) = contains_none a (subst (λ l. Contains l a) (sym is) (in_shared a pair.a_shared))
  none_first (x ∷ rest) is none shares = absurd (cc)

  pub none_second : (all : List Elem) → all ≡ shared xs ys → slice_get all 1 ≡ None → ¬ SharesTwo xs ys
  none_second [] is none (a, b, pair) = contains_none a (subst (λ l. Contains l a) (sym is) (in_shared a pair.a_shared))
  none_second (x ∷ []) is none (a, b, pair) =
      pair.differ (sym (contains_one x a (subst (λ l. Contains l a) (sym is) (in_shared a pair.a_shared))) ∙ contains_one x b (subst (λ l. Contains l b) (sym is) (in_shared b pair.b_shared)))
  none_second (x ∷ y ∷ rest) is none shares = absurd (cc)

  module _ (rises : IsRising elem_number xs) where
    all_rise : AllPairs (λ (p q : Elem). p.0 < q.0) (shared xs ys)
    all_rise = pairs_filter (λ (p q : Elem). p.0 < q.0) (is_elem ys) xs rises

    leading : (x y : Elem) (rest : List Elem) → x ∷ y ∷ rest ≡ shared xs ys → IsLeastPair xs ys x y
    leading x y rest is =
        let up : AllPairs (λ (p q : Elem). p.0 < q.0) (x ∷ y ∷ rest) = subst (λ l. AllPairs (λ (p q : Elem). p.0 < q.0) l) (sym is) all_rise in
        let x_y : x.0 < y.0 = pairs_head (λ (p q : Elem). p.0 < q.0) x (y ∷ rest) up y (contains_head y rest) in
        record {
          pair = record {
            differ = λ same. (let level : x.0 ≡ y.0 = ap elem_number same in omega arith);
            a_shared = from_shared x (subst (λ l. Contains l x) is (contains_head x (y ∷ rest)));
            b_shared = from_shared y (subst (λ l. Contains l y) is (contains_later x (y ∷ rest) y (contains_head y rest)));
          };
          ascends = x_y;
          least = λ e both. elim (contains_cases x (y ∷ rest) e (subst (λ l. Contains l e) (sym is) (in_shared e both))) [
            | inl here ↦ inl (sym here)
            | inr later ↦ inr (elim (contains_cases y rest e later) [
              | inl level ↦ (let same : y.0 ≡ e.0 = ap elem_number level in omega arith)
              | inr above ↦ (let less : y.0 < e.0 = pairs_head (λ (p q : Elem). p.0 < q.0) y rest (pairs_tail (λ (p q : Elem). p.0 < q.0) x (y ∷ rest) up) e above in omega arith)
            ])
          ];
        }

    pub first_two : (all : List Elem) → all ≡ shared xs ys → (a b : Elem) → slice_get all 0 ≡ Some a → slice_get all 1 ≡ Some b → IsLeastPair xs ys a b
    first_two [] is a b first second = absurd (cc)
    first_two (x ∷ []) is a b first second = absurd (cc)
    first_two (x ∷ y ∷ rest) is a b first second =
        let a_is : x ≡ a = cc in
        let b_is : y ≡ b = cc in
        subst (λ z. IsLeastPair xs ys a z) b_is (subst (λ z. IsLeastPair xs ys z y) a_is (leading x y rest is))
