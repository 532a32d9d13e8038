-- What is measured of a placed sketch is one answer.
use Rattle.std.proofs.Common.{◌≡◌, ◌⊎◌, inl, inr, ℕ, List, [], ◌∷◌, ◌++◌, Option, None, Some, refl, ap, sym, subst, ◌∙◌, arith}
use Rattle.std.specs.Prelude.{Contains}
use Rattle.sk_base.specs.declared.Placed.{Placed}
use Rattle.sk_base.proofs.Members.{contains_head, contains_later, contains_none}
use Rattle.sk_tolerance.specs.declared.beyond.Beyond.{Beyond}
use Rattle.sk_tolerance.specs.declared.spotted.Spotted.{Spotted}
use Rattle.sk_tolerance.specs.declared.turned.Turned.{Turned}
use Rattle.sk_measure.specs.Least.{IsLeast}
use Rattle.sk_tolerance.specs.First.{IsFirst}
pub use Rattle.sk_tolerance.proofs.Firsts.{first_inside}
use Rattle.sk_measure.specs.Items.{Item, Holds, IsOwnLeast}
use Rattle.sk_tolerance.specs.Tolerances.{spotted_as, AllHold, IsWorstUnlessNone, IsAbove, IsFirstBeyond}
use Rattle.sk_tolerance.specs.Turns.{IsTurned, AllAsDrawn}

pub one_least : (P : ℕ → Type 0) (n m : ℕ) → IsLeast P n → IsLeast P m → n ≡ m
one_least P n m first second = let up = first.least m second.holds in let down = second.least n first.holds in omega arith

module _ {X : Type 0} where
  -- of two items that split a list, they are one, or one stands before the other
  split_by : (x y : X) (before after before' after' : List X) → before ++ x ∷ after ≡ before' ++ y ∷ after' → (x ≡ y) ⊎ (Contains before y ⊎ Contains before' x)
  split_by x y [] after [] after' same = inl (cc)
  split_by x y [] after (b ∷ bs) after' same = let is : x ≡ b = cc in inr (inr (subst (λ z. Contains (b ∷ bs) z) (sym is) (contains_head b bs)))
  split_by x y (b ∷ bs) after [] after' same = let is : b ≡ y = cc in inr (inl (subst (λ z. Contains (b ∷ bs) z) is (contains_head b bs)))
  split_by x y (b ∷ bs) after (d ∷ ds) after' same = elim (split_by x y bs after ds after' (cc)) [
    | inl is ↦ inl is
    | inr rest ↦ elim rest [ inl h ↦ inr (inl (contains_later b bs y h)) | inr h ↦ inr (inr (contains_later d ds x h)) ]
  ]

  pub one_first : (P : X → Type 0) (xs : List X) (x y : X) → IsFirst P xs x → IsFirst P xs y → x ≡ y
  one_first P xs x y first second =
      elim (split_by x y first.before first.after second.before second.after (sym first.parts ∙ second.parts)) [
        | inl is ↦ is
        | inr rest ↦ elim rest [ inl h ↦ absurd (first.none_before y h second.has) | inr h ↦ absurd (second.none_before x h first.has) ]
      ]

module _ (p : Placed) (items : List Item) where
  pub one_beyond : (limit : ℕ) (b d : Beyond) → IsFirstBeyond p items limit b → IsFirstBeyond p items limit d → b ≡ d
  one_beyond limit b d first second =
      let item : first.item ≡ second.item = one_first (IsAbove p limit) items first.item second.item first.first second.first in
      let at : b.at ≡ d.at = sym first.named ∙ ap spotted_as item ∙ second.named in
      let least : b.least ≡ d.least = one_least (Holds p second.item) b.least d.least (subst (λ i. IsOwnLeast p i b.least) item first.least) second.least in
      let limits : b.limit ≡ d.limit = first.limited ∙ sym second.limited in
      let make : Spotted → ℕ → ℕ → Beyond = λ a l m. record { at = a; least = l; limit = m } in
      ap (λ a. make a b.least b.limit) at ∙ ap (λ l. make d.at l b.limit) least ∙ ap (λ m. make d.at d.least m) limits

  pub not_beyond : (limit : ℕ) (b : Beyond) → AllHold p items limit → IsFirstBeyond p items limit b → ⊥
  not_beyond limit b all beyond =
      let above = beyond.first.has in
      let few = above.1.least limit (all beyond.item (first_inside (IsAbove p limit) items beyond.item beyond.first)) in
      omega (arith, above.2, few)

  pub one_worst : (n : ℕ) (a b : Option Spotted) → IsWorstUnlessNone p items n a → IsWorstUnlessNone p items n b → a ≡ b
  one_worst n None None first second = refl
  one_worst n None (Some b) none worst =
      absurd (contains_none worst.item (subst (λ xs. Contains xs worst.item) none (first_inside (λ i. IsOwnLeast p i n) items worst.item worst.first)))
  one_worst n (Some a) None worst none =
      absurd (contains_none worst.item (subst (λ xs. Contains xs worst.item) none (first_inside (λ i. IsOwnLeast p i n) items worst.item worst.first)))
  one_worst n (Some a) (Some b) first second =
      ap Some (sym first.named ∙ ap spotted_as (one_first (λ i. IsOwnLeast p i n) items first.item second.item first.first second.first) ∙ second.named)

pub not_turned : (signs : List Turned) (t : Turned) → AllAsDrawn signs → IsFirst IsTurned signs t → ⊥
not_turned signs t all turned = turned.has (all t (first_inside IsTurned signs t turned))
