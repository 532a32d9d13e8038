-- The least number within which the pins of a block lie as they are given, as it grows pin by pin.
use Rattle.std.proofs.Common.{inl, inr, ℕ, ◌+◌, ◌≤◌, ◌<◌, List, [], ◌∷◌, ◌++◌, length, get_or, take, sym, subst, arith}
use Rattle.std.specs.Prelude.{AllPairs, Contains, max}
use Rattle.std.proofs.lemmas.List.{take_more}
use Rattle.std.proofs.lemmas.List.Elements.{Contains-push, Contains-push_cases, Contains-append_left}
use Rattle.sk_base.specs.declared.Pin.{Pin}
use Rattle.sk_base.specs.declared.Placed.{Placed}
use Rattle.sk_base.proofs.Members.{contains_none, contains_cases}
use Rattle.sk_base.proofs.Pairs.{pairs_none, pairs_head, pairs_tail, pairs_cons, pairs_push}
use Rattle.sk_measure.specs.Least.{IsLeast}
use Rattle.sk_measure.specs.Items.{IsPairMet, ArePinsMet, AreMetWith}
use Rattle.sk_measure.proofs.Widening.{pair_more, pins_more}

-- what holds within n holds within more
abbrev Widens : (ℕ → Type 0) → Type 0
Widens P = (n m : ℕ) → n ≤ m → P n → P m

-- within the greater of both least numbers two things hold
least_of_both : (P Q R : ℕ → Type 0) (n m : ℕ) → Widens P → Widens Q → ((t : ℕ) → P t → Q t → R t) → ((t : ℕ) → R t → P t × Q t) → IsLeast P n → IsLeast Q m → IsLeast R (max n m)
least_of_both P Q R n m p_widens q_widens both each first second = record {
  holds = both (max n m) (p_widens n (max n m) (omega arith) first.holds) (q_widens m (max n m) (omega arith) second.holds);
  least = λ t h. (
      let parts = each t h in
      let left = first.least t parts.0 in
      let right = second.least t parts.1 in
      omega (arith, left, right));
}

-- of pairs with one more item behind
pairs_parts : {X : Type 0} (R : X → X → Type 0) (xs : List X) (y : X) → AllPairs R (xs ++ y ∷ []) → AllPairs R xs × ((x : X) → Contains xs x → R x y)
pairs_parts R [] y r = (pairs_none R, (λ x h. absurd (contains_none x h)))
pairs_parts R (x ∷ xs) y r =
    let rest = pairs_parts R xs y (pairs_tail R x (xs ++ y ∷ []) r) in (
      pairs_cons R x xs rest.0 (λ z h. pairs_head R x (xs ++ y ∷ []) r z (Contains-append_left xs (y ∷ []) z h)),
      (λ z h. elim (contains_cases x xs z h) [
        | inl here ↦ subst (λ w. R w y) here (pairs_head R x (xs ++ y ∷ []) r y (Contains-push xs y))
        | inr later ↦ rest.1 z later
      ]),
    )

module _ (p : Placed) where
  with_more : (pins : List Pin) (further : Pin) → Widens (AreMetWith p pins further)
  with_more pins further n m le h pin pin_in = pair_more p pin further n m le (h pin pin_in)

  pub none_with : (further : Pin) → IsLeast (AreMetWith p [] further) 0
  none_with further = record { holds = λ pin pin_in. absurd (contains_none pin pin_in); least = λ m h. omega arith }

  pub none_met : IsLeast (ArePinsMet p []) 0
  none_met = record { holds = pairs_none (IsPairMet p 0); least = λ m h. omega arith }

  -- one more pin beside the further one
  pub least_with_more : (pins : List Pin) (i : ℕ) (d further : Pin) (n m : ℕ) → i < length pins → IsLeast (AreMetWith p (take i pins) further) n → IsLeast (λ t. IsPairMet p t (get_or pins i d) further) m
      → IsLeast (AreMetWith p (take (i + 1) pins) further) (max n m)
  least_with_more pins i d further n m inside so_far here =
      subst (λ (xs : List Pin). IsLeast (AreMetWith p xs further) (max n m)) (sym (take_more pins i d inside))
      (least_of_both (AreMetWith p (take i pins) further) (λ t. IsPairMet p t (get_or pins i d) further) (AreMetWith p (take i pins ++ get_or pins i d ∷ []) further) n m
      (with_more (take i pins) further) (pair_more p (get_or pins i d) further)
      (λ t early last pin pin_in. elim (Contains-push_cases (take i pins) (get_or pins i d) pin pin_in) [
        | inl before ↦ early pin before
        | inr is ↦ subst (λ (x : Pin). IsPairMet p t x further) is last
      ])
      (λ t all. ((λ pin pin_in. all pin (Contains-append_left (take i pins) (get_or pins i d ∷ []) pin pin_in)), all (get_or pins i d) (Contains-push (take i pins) (get_or pins i d)))) so_far here)

  -- one more pin beside all before it
  pub least_met_more : (pins : List Pin) (i : ℕ) (d : Pin) (n m : ℕ) → i < length pins → IsLeast (ArePinsMet p (take i pins)) n → IsLeast (AreMetWith p (take i pins) (get_or pins i d)) m
      → IsLeast (ArePinsMet p (take (i + 1) pins)) (max n m)
  least_met_more pins i d n m inside so_far here =
      subst (λ (xs : List Pin). IsLeast (ArePinsMet p xs) (max n m)) (sym (take_more pins i d inside))
      (least_of_both (ArePinsMet p (take i pins)) (AreMetWith p (take i pins) (get_or pins i d)) (ArePinsMet p (take i pins ++ get_or pins i d ∷ [])) n m
      (pins_more p (take i pins)) (with_more (take i pins) (get_or pins i d))
      (λ t early last. pairs_push (IsPairMet p t) (take i pins) (get_or pins i d) early last)
      (λ t all. pairs_parts (IsPairMet p t) (take i pins) (get_or pins i d) all) so_far here)
