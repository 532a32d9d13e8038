-- A relation between each item of a list and all later ones, by cases on the list.
use Rattle.std.proofs.Common.{refl, ◌≡◌, ◌⊎◌, sym, ◌∙◌, inl, inr, zero, suc, List, [], ◌∷◌, ◌++◌, get_or, subst, arith}
use Rattle.std.specs.Prelude.{Contains, AllPairs, map}
use Rattle.std.proofs.lemmas.List.Elements.{Contains-get_or, Contains-push_cases}
pub use Rattle.std.proofs.lemmas.List.Kept.{AllPairs-filter as pairs_filter}
use Rattle.sk_base.proofs.Members.{contains_none, contains_head, contains_later, contains_cases, mapped_from}

module _ {X : Type 0} (R : X → X → Type 0) where
  pub pairs_none : AllPairs R []
  pairs_none i j d i_j j_len = absurd (omega arith)

  pub pairs_tail : (x : X) (xs : List X) → AllPairs R (x ∷ xs) → AllPairs R xs
  pairs_tail x xs r i j d i_j j_len = r (suc i) (suc j) d (omega arith) (omega arith)

  pub pairs_head : (x : X) (xs : List X) → AllPairs R (x ∷ xs) → (y : X) → Contains xs y → R x y
  pairs_head x xs r y (k, below, is) = subst (λ z. R x z) is (r 0 (suc k) y (omega arith) (omega arith))

  pub pairs_cons : (x : X) (xs : List X) → AllPairs R xs → ((y : X) → Contains xs y → R x y) → AllPairs R (x ∷ xs)
  pairs_cons x xs r below i zero d i_j j_len = absurd (omega arith)
  pairs_cons x xs r below zero (suc j) d i_j j_len = below (get_or xs j d) (Contains-get_or xs j d (omega arith))
  pairs_cons x xs r below (suc i) (suc j) d i_j j_len = r i j d (omega arith) (omega arith)

  pub pairs_push : (xs : List X) (y : X) → AllPairs R xs → ((x : X) → Contains xs x → R x y) → AllPairs R (xs ++ y ∷ [])
  pairs_push [] y r below = pairs_cons y [] pairs_none (λ z h. absurd (contains_none z h))
  pairs_push (x ∷ xs) y r below =
      pairs_cons x (xs ++ y ∷ []) (pairs_push xs y (pairs_tail x xs r) (λ z h. below z (contains_later x xs z h))) (λ z h.
      elim (Contains-push_cases xs y z h) [ inl early ↦ pairs_head x xs r z early | inr last ↦ subst (λ w. R x w) last (below x (contains_head x xs)) ])

  -- of two items, the one comes first or the other, or they are one
  pub pairs_tell : (xs : List X) → AllPairs R xs → (x y : X) → Contains xs x → Contains xs y → (x ≡ y) ⊎ (R x y ⊎ R y x)
  pairs_tell [] r x y x_in y_in = absurd (contains_none x x_in)
  pairs_tell (z ∷ xs) r x y x_in y_in =
      elim (contains_cases z xs x x_in) [
        | inl x_here ↦ elim (contains_cases z xs y y_in) [
          | inl y_here ↦ inl (sym x_here ∙ y_here)
          | inr y_later ↦ inr (inl (subst (λ w. R w y) x_here (pairs_head z xs r y y_later)))
        ]
        | inr x_later ↦ elim (contains_cases z xs y y_in) [
          | inl y_here ↦ inr (inr (subst (λ w. R w x) y_here (pairs_head z xs r x x_later)))
          | inr y_later ↦ pairs_tell xs (pairs_tail z xs r) x y x_later y_later
        ]
      ]

-- lists in one strict order with the same items are the same
module _ {X : Type 0} (R : X → X → Type 0) (irreflexive : (x : X) → ¬ R x x) (asymmetric : (x y : X) → R x y → ¬ R y x) where
  pub pairs_same : (xs ys : List X) → AllPairs R xs → AllPairs R ys → ((z : X) → Contains xs z → Contains ys z) → ((z : X) → Contains ys z → Contains xs z) → xs ≡ ys
  pairs_same [] [] r s to from = refl
  pairs_same [] (y ∷ ys) r s to from = absurd (contains_none y (from y (contains_head y ys)))
  pairs_same (x ∷ xs) [] r s to from = absurd (contains_none x (to x (contains_head x xs)))
  pairs_same (x ∷ xs) (y ∷ ys) r s to from =
      let same : x ≡ y = heads x xs y ys r s (to x (contains_head x xs)) (from y (contains_head y ys)) in
      let rest : xs ≡ ys = pairs_same xs ys (pairs_tail R x xs r) (pairs_tail R y ys s)
      (λ z h. tail_of x xs y ys r same z (to z (contains_later x xs z h)) h)
      (λ z h. tail_of y ys x xs s (sym same) z (from z (contains_later y ys z h)) h) in
      cc
    where
      heads : (x : X) (xs : List X) (y : X) (ys : List X) → AllPairs R (x ∷ xs) → AllPairs R (y ∷ ys) → Contains (y ∷ ys) x → Contains (x ∷ xs) y → x ≡ y
      heads x xs y ys r s x_in y_in =
          elim (contains_cases y ys x x_in) [
            | inl here ↦ sym here
            | inr above ↦ elim (contains_cases x xs y y_in) [
              | inl here ↦ here
              | inr below ↦ absurd (asymmetric x y (pairs_head R x xs r y below) (pairs_head R y ys s x above))
            ]
          ]

      tail_of : (x : X) (xs : List X) (y : X) (ys : List X) → AllPairs R (x ∷ xs) → x ≡ y → (z : X) → Contains (y ∷ ys) z → Contains xs z → Contains ys z
      tail_of x xs y ys r same z h among =
          elim (contains_cases y ys z h) [
            | inl here ↦ absurd (irreflexive x (subst (λ w. R x w) (sym (same ∙ here)) (pairs_head R x xs r z among)))
            | inr rest ↦ rest
          ]

pub pairs_map : {X Y : Type 0} (R : Y → Y → Type 0) (f : X → Y) (xs : List X) → AllPairs (λ x y. R (f x) (f y)) xs → AllPairs R (map f xs)
pairs_map R f [] r = pairs_none R
pairs_map R f (x ∷ xs) r =
    pairs_cons R (f x) (map f xs) (pairs_map R f xs (pairs_tail (λ a b. R (f a) (f b)) x xs r)) (λ y h.
    (let found = mapped_from f xs y h in subst (λ w. R (f x) w) found.2 (pairs_head (λ a b. R (f a) (f b)) x xs r found.0 found.1)))

-- a relation that follows from another one for the items of a list
pub pairs_weaken : {X : Type 0} (R S : X → X → Type 0) (xs : List X) → AllPairs R xs → ((x y : X) → Contains xs x → Contains xs y → R x y → S x y) → AllPairs S xs
pairs_weaken R S xs r to i j d i_j j_in = to _ _ (Contains-get_or xs i d (omega arith)) (Contains-get_or xs j d j_in) (r i j d i_j j_in)
