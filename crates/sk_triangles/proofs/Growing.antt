-- Lists that grow in a loop.
use Rattle.std.proofs.Common.{◌≡◌, inl, inr, ℕ, ◌+◌, ◌<◌, ◌≤◌, List, [], ◌∷◌, ◌++◌, length, get_or, take, sym, subst}
use Rattle.std.specs.Prelude.{◌↔◌, Contains}
use Rattle.std.proofs.lemmas.List.{take_all, take_more}
use Rattle.std.proofs.lemmas.List.Elements.{Contains-append_left, Contains-append_right, Contains-append_cases}
use Rattle.sk_base.proofs.Members.{contains_none, contains_head, contains_one}
use Rattle.sk_triangles.specs.Growing.{GrowsBy, FromSome}

pub grows_none : {M : Type 0} (kind : M → Type 0) (old : List M) → ((m : M) → ¬ kind m) → GrowsBy kind old old
grows_none kind old none m = ((λ h. inl h), (λ h. elim h [ inl was ↦ was | inr is ↦ absurd (none m is) ]))

pub grows_one : {M : Type 0} (kind : M → Type 0) (old : List M) (one : M) → kind one → ((m : M) → kind m → m ≡ one) → GrowsBy kind old (old ++ one ∷ [])
grows_one kind old one is only m = (
  (λ h. elim (Contains-append_cases old (one ∷ []) m h) [ inl was ↦ inl was | inr new ↦ inr (subst (λ n. kind n) (contains_one one m new) is) ]),
  (λ h. elim h [
    | inl was ↦ Contains-append_left old (one ∷ []) m was
    | inr new ↦ subst (λ n. Contains (old ++ one ∷ []) n) (sym (only m new)) (Contains-append_right old (one ∷ []) one (contains_head one []))
  ]),
)

pub grows_same : {M : Type 0} (kind other : M → Type 0) (old new : List M) → ((m : M) → kind m ↔ other m) → GrowsBy kind old new → GrowsBy other old new
grows_same kind other old new same grows m = (
  (λ h. elim ((grows m).0 h) [ inl was ↦ inl was | inr is ↦ inr ((same m).0 is) ]),
  (λ h. elim h [ inl was ↦ (grows m).1 (inl was) | inr is ↦ (grows m).1 (inr ((same m).1 is)) ]),
)

module _ {X M : Type 0} (kind : X → M → Type 0) (xs : List X) where
  pub grows_start : (old : List M) → GrowsBy (FromSome kind (take 0 xs)) old old
  grows_start old = grows_none (FromSome kind (take 0 xs)) old (λ m (x, x_in, is). contains_none x x_in)

  -- one more item
  pub grows_step : (old mid new : List M) (i : ℕ) (d : X) → i < length xs → GrowsBy (FromSome kind (take i xs)) old mid → GrowsBy (kind (get_or xs i d)) mid new
      → GrowsBy (FromSome kind (take (i + 1) xs)) old new
  grows_step old mid new i d i_in so_far one m =
      let split : take (i + 1) xs ≡ take i xs ++ get_or xs i d ∷ [] = take_more xs i d i_in in (
        (λ h. elim ((one m).0 h) [
          | inl was ↦ elim ((so_far m).0 was) [
            | inl first ↦ inl first
            | inr (x, x_in, is) ↦ inr (x, subst (λ l. Contains l x) (sym split) (Contains-append_left (take i xs) (get_or xs i d ∷ []) x x_in), is)
          ]
          | inr is ↦ inr (get_or xs i d, subst (λ l. Contains l (get_or xs i d)) (sym split) (Contains-append_right (take i xs) (get_or xs i d ∷ []) (get_or xs i d) (contains_head (get_or xs i d) [])), is)
        ]),
        (λ h. elim h [
          | inl first ↦ (one m).1 (inl ((so_far m).1 (inl first)))
          | inr (x, x_in, is) ↦ elim (Contains-append_cases (take i xs) (get_or xs i d ∷ []) x (subst (λ l. Contains l x) split x_in)) [
            | inl before ↦ (one m).1 (inl ((so_far m).1 (inr (x, before, is))))
            | inr here ↦ (one m).1 (inr (subst (λ y. kind y m) (sym (contains_one (get_or xs i d) x here)) is))
          ]
        ]),
      )

  pub grows_end : (old new : List M) (i : ℕ) → length xs ≤ i → GrowsBy (FromSome kind (take i xs)) old new → GrowsBy (FromSome kind xs) old new
  grows_end old new i over so_far = subst (λ l. GrowsBy (FromSome kind l) old new) (take_all i xs over) so_far

-- a list that was empty has just what was added
pub grown_from_none : {X : Type 0} (kind : X → Type 0) (old new : List X) → old ≡ [] → GrowsBy kind old new → (x : X) → Contains new x ↔ kind x
grown_from_none kind old new empty grows x = (
  (λ h. elim ((grows x).0 h) [ inl was ↦ absurd (contains_none x (subst (λ l. Contains l x) empty was)) | inr is ↦ is ]),
  (λ is. (grows x).1 (inr is)),
)
