-- The first three pins of a block that don't lie on one line, as they are looked for pin by pin.
use Rattle.std.proofs.Common.{◌≡◌, inl, inr, ℕ, ◌+◌, ◌<◌, List, [], ◌∷◌, ◌-◌, length, length-drop, get_or, take, drop, true, false, Bool, refl, ap, subst, ◌∙◌, arith}
use Rattle.std.specs.Prelude.{Contains, Option, Some, None, map, find, cond}
use Rattle.std.specs.Option.{option_map, option_or}
use Rattle.std.proofs.lemmas.List.{take_all, drop_more}
use Rattle.std.proofs.lemmas.List.Elements.{Contains-append_cases}
use Rattle.std.proofs.lemmas.List.Folds.{find-append}
use Rattle.sk_base.proofs.Finding.{found_in}
use Rattle.sk_base.proofs.Members.{contains_none, contains_head, contains_later, mapped_from}
use Rattle.sk_base.specs.declared.Pin.{Pin}
use Rattle.sk_base.specs.declared.Placed.{Placed}
use Rattle.sk_base.specs.Pins.{IsOnSheet}
use Rattle.sk_tolerance.specs.BlockTurns.{twos, threes, turn_given, is_turn, corners}
use Rattle.sk_measure.specs.Placing.{IsPinPlaced, AreMeasurable}

module _ {X Y : Type 0} (f : X → Y) (p : Y → Bool) where
  find_mapped : (xs : List X) → find p (map f xs) ≡ option_map f (find (λ x. p (f x)) xs)
  find_mapped [] = refl
  find_mapped (x ∷ xs) = here (p (f x)) (find_mapped xs)
    where
      here : (b : Bool) → find p (map f xs) ≡ option_map f (find (λ y. p (f y)) xs) → cond b (Some (f x)) (find p (map f xs)) ≡ option_map f (cond b (Some x) (find (λ y. p (f y)) xs))
      here true rest = refl
      here false rest = rest

-- a slice from a place on
pub slice_behind : {X : Type 0} (xs : List X) (j : ℕ) → take (length xs - j) (drop j xs) ≡ drop j xs
slice_behind xs j = (let size = length-drop j xs in take_all (length xs - j) (drop j xs) (omega arith))

module _ {X : Type 0} (xs : List X) (i : ℕ) (d : X) (inside : i < length xs) where
  -- of one item
  module _ (p : X → Bool) (so_far : find p xs ≡ find p (drop i xs)) where
    pub one_found : p (get_or xs i d) ≡ true → find p xs ≡ Some (get_or xs i d)
    one_found is = so_far ∙ ap (find p) (drop_more xs i d inside) ∙ rw is refl

    pub one_further : p (get_or xs i d) ≡ false → find p xs ≡ find p (drop (i + 1) xs)
    one_further is = so_far ∙ ap (find p) (drop_more xs i d inside) ∙ rw is refl

  -- of two
  module _ (p : X × X → Bool) (so_far : find p (twos xs) ≡ find p (twos (drop i xs))) where
    two_parts : find p (twos xs) ≡ option_or (option_map (λ y. (get_or xs i d, y)) (find (λ y. p (get_or xs i d, y)) (drop (i + 1) xs))) (find p (twos (drop (i + 1) xs)))
    two_parts =
        so_far ∙ ap (λ (ys : List X). find p (twos ys)) (drop_more xs i d inside)
        ∙ find-append p (map (λ y. (get_or xs i d, y)) (drop (i + 1) xs)) (twos (drop (i + 1) xs))
        ∙ ap (λ (o : Option (X × X)). option_or o (find p (twos (drop (i + 1) xs)))) (find_mapped (λ y. (get_or xs i d, y)) p (drop (i + 1) xs))

    pub two_found : (y : X) → find (λ y. p (get_or xs i d, y)) (drop (i + 1) xs) ≡ Some y → find p (twos xs) ≡ Some (get_or xs i d, y)
    two_found y is = two_parts ∙ rw is refl

    pub two_further : find (λ y. p (get_or xs i d, y)) (drop (i + 1) xs) ≡ None → find p (twos xs) ≡ find p (twos (drop (i + 1) xs))
    two_further is = two_parts ∙ rw is refl

  -- of three
  module _ (p : X × X × X → Bool) (so_far : find p (threes xs) ≡ find p (threes (drop i xs))) where
    three_parts : find p (threes xs) ≡ option_or (option_map (λ (two : X × X). (get_or xs i d, two.0, two.1)) (find (λ (two : X × X). p (get_or xs i d, two.0, two.1)) (twos (drop (i + 1) xs)))) (find p (threes (drop (i + 1) xs)))
    three_parts =
        so_far ∙ ap (λ (ys : List X). find p (threes ys)) (drop_more xs i d inside)
        ∙ find-append p (map (λ (two : X × X). (get_or xs i d, two.0, two.1)) (twos (drop (i + 1) xs))) (threes (drop (i + 1) xs))
        ∙ ap (λ (o : Option (X × X × X)). option_or o (find p (threes (drop (i + 1) xs)))) (find_mapped (λ (two : X × X). (get_or xs i d, two.0, two.1)) p (twos (drop (i + 1) xs)))

    pub three_found : (two : X × X) → find (λ (two : X × X). p (get_or xs i d, two.0, two.1)) (twos (drop (i + 1) xs)) ≡ Some two → find p (threes xs) ≡ Some (get_or xs i d, two.0, two.1)
    three_found two is = three_parts ∙ rw is refl

    pub three_further : find (λ (two : X × X). p (get_or xs i d, two.0, two.1)) (twos (drop (i + 1) xs)) ≡ None → find p (threes xs) ≡ find p (threes (drop (i + 1) xs))
    three_further is = three_parts ∙ rw is refl

-- the items of the twos and threes of a list are its own
module _ {X : Type 0} where
  pub in_twos : (xs : List X) (two : X × X) → Contains (twos xs) two → Contains xs two.0 × Contains xs two.1
  in_twos [] two h = absurd (contains_none two h)
  in_twos (x ∷ xs) two h =
      elim (Contains-append_cases (map (λ y. (x, y)) xs) (twos xs) two h) [
        | inl here ↦ (
            let found = mapped_from (λ y. (x, y)) xs two here in
            subst (λ (t : X × X). Contains (x ∷ xs) t.0 × Contains (x ∷ xs) t.1) found.2 (contains_head x xs, contains_later x xs found.0 found.1))
        | inr later ↦ (let rest = in_twos xs two later in (contains_later x xs two.0 rest.0, contains_later x xs two.1 rest.1))
      ]

  pub in_threes : (xs : List X) (three : X × X × X) → Contains (threes xs) three → Contains xs three.0 × Contains xs three.1 × Contains xs three.2
  in_threes [] three h = absurd (contains_none three h)
  in_threes (x ∷ xs) three h =
      elim (Contains-append_cases (map (λ (two : X × X). (x, two.0, two.1)) (twos xs)) (threes xs) three h) [
        | inl here ↦ (
            let found = mapped_from (λ (two : X × X). (x, two.0, two.1)) (twos xs) three here in
            let two = in_twos xs found.0 found.1 in
            subst (λ (t : X × X × X). Contains (x ∷ xs) t.0 × Contains (x ∷ xs) t.1 × Contains (x ∷ xs) t.2) found.2 (contains_head x xs, contains_later x xs found.0.0 two.0, contains_later x xs found.0.1 two.1))
        | inr later ↦ (let rest = in_threes xs three later in (contains_later x xs three.0 rest.0, contains_later x xs three.1 rest.1, contains_later x xs three.2 rest.2))
      ]

  pub found_inside : (p : X × X × X → Bool) (xs : List X) (three : X × X × X) → find p (threes xs) ≡ Some three → Contains xs three.0 × Contains xs three.1 × Contains xs three.2
  found_inside p xs three is = in_threes xs three (found_in p (threes xs) three is).0

-- the corners of pins that can be measured can be measured
abbrev pub IsMeasurablePin : Placed → Pin → Type 0
IsMeasurablePin p pin = IsOnSheet pin × IsPinPlaced p pin

pub measurable_corners : (p : Placed) (pins : List Pin) (three : Pin × Pin × Pin) → AreMeasurable p pins → corners pins ≡ Some three → IsMeasurablePin p three.0 × IsMeasurablePin p three.1 × IsMeasurablePin p three.2
measurable_corners p pins three measurable is =
    let inside = found_inside (λ t. is_turn (turn_given t)) pins three is in
    let each : (pin : Pin) → Contains pins pin → IsMeasurablePin p pin = λ pin (k, k_in, at). subst (IsMeasurablePin p) at (measurable.on_sheet k pin k_in, measurable.placed k pin k_in) in
    (each three.0 inside.0, each three.1 inside.1, each three.2 inside.2)
