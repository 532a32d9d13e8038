-- Fronts of a list, as loops go along it.
use Rattle.std.proofs.Common.{◌≡◌, ◌⊎◌, inl, inr, ℕ, suc, ◌+◌, ◌<◌, ◌≤◌, List, [], ◌∷◌, ◌++◌, length, get_or, take, drop, drop-cons, sym, subst}
use Rattle.std.specs.Prelude.{◌↔◌, Contains, AllPairs}
use Rattle.std.proofs.lemmas.List.{take_all, take_more}
use Rattle.std.proofs.lemmas.List.Elements.{Contains-append_left, Contains-append_right, Contains-append_cases}
use Rattle.sk_base.proofs.Members.{contains_head, contains_one, contains_cases}
use Rattle.sk_base.proofs.Pairs.{pairs_head}
use Rattle.sk_base.proofs.Splits.{in_either, pairs_across, pairs_drop}

module _ {X : Type 0} (xs : List X) (i : ℕ) (d : X) (i_in : i < length xs) where
  split : take (i + 1) xs ≡ take i xs ++ get_or xs i d ∷ []
  split = take_more xs i d i_in

  -- the next item joins the front
  pub front_more : (x : X) → Contains (take (i + 1) xs) x ↔ (Contains (take i xs) x ⊎ (get_or xs i d ≡ x))
  front_more x = (
    (λ h. elim (Contains-append_cases (take i xs) (get_or xs i d ∷ []) x (subst (λ l. Contains l x) split h)) [
      | inl before ↦ inl before
      | inr here ↦ inr (contains_one (get_or xs i d) x here)
    ]),
    (λ h. subst (λ l. Contains l x) (sym split) (elim h [
      | inl before ↦ Contains-append_left (take i xs) (get_or xs i d ∷ []) x before
      | inr is ↦ Contains-append_right (take i xs) (get_or xs i d ∷ []) x (subst (λ y. Contains (get_or xs i d ∷ []) y) is (contains_head (get_or xs i d) []))
    ])),
  )

  pub next_is_last : Contains (drop i xs) (get_or xs i d)
  next_is_last = subst (λ l. Contains l (get_or xs i d)) (sym (drop-cons xs i d i_in)) (contains_head (get_or xs i d) (drop (suc i) xs))

  -- what stands in front comes before the next item
  pub front_before : (R : X → X → Type 0) → AllPairs R xs → (x : X) → Contains (take i xs) x → R x (get_or xs i d)
  front_before R pairs x x_in = pairs_across R i xs pairs x (get_or xs i d) x_in next_is_last

pub front_all : {X : Type 0} (xs : List X) (i : ℕ) → length xs ≤ i → (x : X) → Contains (take i xs) x ↔ Contains xs x
front_all xs i over x = ((λ h. subst (λ l. Contains l x) (take_all i xs over) h), (λ h. subst (λ l. Contains l x) (sym (take_all i xs over)) h))

-- what comes before the item at a place stands in front of it
module _ {X : Type 0} (R : X → X → Type 0) (irreflexive : (x : X) → ¬ R x x) (asymmetric : (x y : X) → R x y → ¬ R y x) where
  pub in_front : (xs : List X) → AllPairs R xs → (i : ℕ) (d : X) → i < length xs → (x : X) → Contains xs x → R x (get_or xs i d) → Contains (take i xs) x
  in_front xs r i d i_in x x_in before =
      elim (in_either i xs x x_in) [
        | inl front ↦ front
        | inr back ↦ elim (contains_cases (get_or xs i d) (drop (suc i) xs) x (subst (λ l. Contains l x) (drop-cons xs i d i_in) back)) [
          | inl here ↦ absurd (irreflexive x (subst (λ y. R x y) here before))
          | inr later ↦ absurd (asymmetric x (get_or xs i d) before
              (pairs_head R (get_or xs i d) (drop (suc i) xs) (subst (λ l. AllPairs R l) (drop-cons xs i d i_in) (pairs_drop R i xs r)) x later))
        ]
      ]
