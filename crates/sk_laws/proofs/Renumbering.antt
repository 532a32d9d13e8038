-- A sketch by new numbers: its elements and constraints one by one, and what is found by a number is found by its new one.
use Rattle.std.proofs.Common.{◌≡◌, inl, inr, ℕ, ◌+◌, ◌<◌, ◌==◌, pos, Bool, true, false, cond, List, [], ◌∷◌, map, refl, sym, ap, subst, ◌∙◌, arith}
use Rattle.std.specs.Prelude.{nat_lt, Contains, Option, Some, None, find, unwrap_or}
use Rattle.std.specs.List.{position_or_len}
use Rattle.std.specs.Option.{option_map}
use Rattle.std.proofs.lemmas.Bool.Decides.{nat_tests}
use Rattle.sk_base.specs.declared.At.{At}
use Rattle.sk_base.specs.declared.At.TheVariants as places
use Rattle.sk_base.specs.declared.ConId.{ConId}
use Rattle.sk_base.specs.declared.Constraint.{Constraint}
use Rattle.sk_base.specs.declared.Elem.{Elem}
use Rattle.sk_base.specs.declared.Element.{Element}
use Rattle.sk_base.specs.declared.Placed.{Placed}
use Rattle.sk_base.specs.declared.Shape.{Shape}
use Rattle.sk_base.specs.declared.Shape.TheVariants.{Point}
use Rattle.sk_base.specs.declared.Sketch.{Sketch}
use Rattle.sk_base.specs.declared.Spot.{Spot}
use Rattle.sk_base.specs.Drawn.{element_of}
use Rattle.sk_base.specs.Places.{place_of}
use Rattle.sk_base.specs.Rising.{IsRising}
use Rattle.sk_base.specs.SoundSketch.{IsSoundSketch}
use Rattle.sk_base.proofs.Members.{contains_none, contains_head, contains_later, contains_cases}
use Rattle.sk_base.proofs.Unions.{which, rising_below, rising_tail}
use Rattle.sk_claims.specs.ClaimText.{IsDeclared}
use Rattle.sk_edits.specs.Making.{HasConstraint}
use Rattle.sk_edits.proofs.Places.{map_alike}
use Rattle.sk_entry.specs.NumberedConstraint.{constraint_of}
use Rattle.sk_graph.specs.SketchGraph.{drawn_as}
use Rattle.sk_lang.specs.Renumbered.{elements_from, place_of as new_element, rule_renumbered, constraints_from, renumbered}
use Rattle.sk_measure.specs.Placing.{lies}
use Rattle.sk_laws.specs.NewNumbers.{new_constraint}

-- the place of the first item of that number
abbrev place_in : {X : Type 0} → (X → ℕ) → List X → ℕ → ℕ
place_in number xs n = position_or_len (λ x. number x == n) xs

-- the places of numbers are told apart, and stand in order, as the numbers are
module _ {X : Type 0} (number : X → ℕ) where
  first_place : (x : X) (xs : List X) (n : ℕ) → (number x == n) ≡ true → place_in number (x ∷ xs) n ≡ 0
  first_place x xs n same = rw same refl

  next_place : (x : X) (xs : List X) (n : ℕ) → (number x == n) ≡ false → place_in number (x ∷ xs) n ≡ 1 + place_in number xs n
  next_place x xs n other = rw other refl

  later_place : (x : X) (xs : List X) → IsRising number (x ∷ xs) → (y : X) → Contains xs y → place_in number (x ∷ xs) (number y) ≡ 1 + place_in number xs (number y)
  later_place x xs rises y later =
      let below : number x < number y = rising_below number x xs rises y later in
      next_place x xs (number y) (grind (arith, nat_tests))

  places_apart : (xs : List X) → IsRising number xs → (x : X) → Contains xs x → (n : ℕ) → (place_in number xs (number x) == place_in number xs n) ≡ (number x == n)
  places_apart [] rises x h n = absurd (contains_none x h)
  places_apart (y ∷ xs) rises x h n =
      elim (contains_cases y xs x h) [
        | inl here ↦ subst (λ z. (place_in number (y ∷ xs) (number z) == place_in number (y ∷ xs) n) ≡ (number z == n)) here (at_first (number y == n) refl)
        | inr later ↦ at_later (rising_below number y xs rises x later) (later_place y xs rises x later) (places_apart xs (rising_tail number y xs rises) x later n) (number y == n) refl
      ]
    where
      at_first : (t : Bool) → (number y == n) ≡ t → (place_in number (y ∷ xs) (number y) == place_in number (y ∷ xs) n) ≡ (number y == n)
      at_first true same = (let first = first_place y xs (number y) (grind (arith, nat_tests)) in let second = first_place y xs n same in rw (first, second, same) refl)
      at_first false other = (let first = first_place y xs (number y) (grind (arith, nat_tests)) in let second = next_place y xs n other in rw (first, second, other) (grind (arith, nat_tests)))

      at_later : number y < number x → place_in number (y ∷ xs) (number x) ≡ 1 + place_in number xs (number x) → (place_in number xs (number x) == place_in number xs n) ≡ (number x == n)
          → (t : Bool) → (number y == n) ≡ t → (place_in number (y ∷ xs) (number x) == place_in number (y ∷ xs) n) ≡ (number x == n)
      at_later below first rest true same = (let second = first_place y xs n same in let other : (number x == n) ≡ false = grind (arith, nat_tests) in rw (first, second, other) (grind (arith, nat_tests)))
      at_later below first rest false other = (let second = next_place y xs n other in rw (first, second) (grind (arith, nat_tests, rest)))

  places_below : (xs : List X) → IsRising number xs → (x y : X) → Contains xs x → Contains xs y → number x < number y → place_in number xs (number x) < place_in number xs (number y)
  places_below [] rises x y x_in y_in below = absurd (contains_none x x_in)
  places_below (z ∷ xs) rises x y x_in y_in below =
      elim (contains_cases z xs y y_in) [
        | inl y_here ↦ absurd (elim (contains_cases z xs x x_in) [
          | inl x_here ↦ (let same : number x ≡ number y = ap number (sym x_here ∙ y_here) in omega arith)
          | inr x_later ↦ (let above = rising_below number z xs rises x x_later in let same : number z ≡ number y = ap number y_here in omega arith)
        ])
        | inr y_later ↦ (
            let last = later_place z xs rises y y_later in
            elim (contains_cases z xs x x_in) [
              | inl x_here ↦ (let first = first_place z xs (number x) (let same : number z ≡ number x = ap number x_here in grind (arith, nat_tests)) in omega arith)
              | inr x_later ↦ (
                  let first = later_place z xs rises x x_later in
                  let rest = places_below xs (rising_tail number z xs rises) x y x_later y_later below in omega arith)
            ])
      ]

  -- some item has the number
  abbrev Has : List X → ℕ → Type 0
  Has xs n = (x : X) × Contains xs x × (number x ≡ n)

  -- the new number: the place, from 1
  abbrev counting : List X → ℕ → ℕ
  counting xs n = 1 + place_in number xs n

  counted_same : (xs : List X) → IsRising number xs → (m n : ℕ) → Has xs m → (counting xs m == counting xs n) ≡ (m == n)
  counted_same xs rises m n (x, x_in, is) =
      let tests : (place_in number xs m == place_in number xs n) ≡ (m == n) = subst (λ (k : ℕ). (place_in number xs k == place_in number xs n) ≡ (k == n)) is (places_apart xs rises x x_in n) in
      let next : (counting xs m == counting xs n) ≡ (place_in number xs m == place_in number xs n) = grind (arith, nat_tests) in
      next ∙ tests

  counted_below : (xs : List X) → IsRising number xs → (m n : ℕ) → Has xs m → Has xs n → m < n → counting xs m < counting xs n
  counted_below xs rises m n (x, x_in, is) (y, y_in, is') below =
      let rest : place_in number xs m < place_in number xs n = rw (sym is, sym is') (places_below xs rises x y x_in y_in (omega arith)) in omega arith

  counted_order : (xs : List X) → IsRising number xs → (m n : ℕ) → Has xs m → Has xs n → nat_lt (counting xs m) (counting xs n) ≡ nat_lt m n
  counted_order xs rises m n m_in n_in =
      elim (which m n) [
        | inl below ↦ (let rest = counted_below xs rises m n m_in n_in below in grind (arith, nat_tests))
        | inr (inl same) ↦ (let level : counting xs m ≡ counting xs n = ap (counting xs) same in grind (arith, nat_tests))
        | inr (inr above) ↦ (let rest = counted_below xs rises n m n_in m_in above in grind (arith, nat_tests))
      ]

-- ---- maps

module _ {X Y : Type 0} where
  -- where tests agree, what is found is mapped
  pub find_alike : (f : X → Y) (p : X → Bool) (q : Y → Bool) (xs : List X) → ((x : X) → Contains xs x → q (f x) ≡ p x) → find q (map f xs) ≡ option_map f (find p xs)
  find_alike f p q [] same = refl
  find_alike f p q (x ∷ xs) same = rw (same x (contains_head x xs)) (at_head (p x) (find_alike f p q xs (λ y h. same y (contains_later x xs y h))))
    where
      at_head : (t : Bool) → find q (map f xs) ≡ option_map f (find p xs) → cond t (Some (f x)) (find q (map f xs)) ≡ option_map f (cond t (Some x) (find p xs))
      at_head true rest = refl
      at_head false rest = rest

  -- the items in order, each by a number, from n on
  abbrev by_count : (ℕ → X → Y) → ℕ → List X → List Y
  by_count make n [] = []
  by_count make n (x ∷ xs) = make n x ∷ by_count make (n + 1) xs

-- in a rising list each is made by its place
counted : {X Y : Type 0} (number : X → ℕ) (make : ℕ → X → Y) (n : ℕ) (xs : List X) → IsRising number xs → by_count make n xs ≡ map (λ (x : X). make (n + place_in number xs (number x)) x) xs
counted number make n [] rises = refl
counted number make n (x ∷ xs) rises =
    let first : n + place_in number (x ∷ xs) (number x) ≡ n = (let is = first_place number x xs (number x) (grind (arith, nat_tests)) in omega arith) in
    ap (λ ys. make n x ∷ ys) (counted number make (n + 1) xs (rising_tail number x xs rises)
    ∙ map_alike (λ y. make (n + 1 + place_in number xs (number y)) y) (λ y. make (n + place_in number (x ∷ xs) (number y)) y) xs (λ y h.
    (let later = later_place number x xs rises y h in let same : n + 1 + place_in number xs (number y) ≡ n + place_in number (x ∷ xs) (number y) = omega arith in ap (λ m. make m y) same)))
    ∙ ap (λ m. make m x ∷ map (λ y. make (n + place_in number (x ∷ xs) (number y)) y) xs) (sym first)

-- ---- a sketch by new numbers

abbrev pub element_renumbered : Sketch → Element → Element
element_renumbered s e = record e { number = new_element s e.number }

abbrev pub constraint_renumbered : Sketch → Constraint → Constraint
constraint_renumbered s c = record { number = new_constraint s c.number; rule = rule_renumbered s c.rule }

-- the same places, by the new numbers of the elements
abbrev pub spot_renumbered : Sketch → Spot → Spot
spot_renumbered s spot = record spot { elem = new_element s spot.elem }

abbrev pub places_renumbered : Sketch → Placed → Placed
places_renumbered s at = record { spots = map (spot_renumbered s) at.spots }

-- each element and each constraint by its new number
abbrev pub each_renumbered : Sketch → Sketch
each_renumbered s = record { elements = map (element_renumbered s) s.elements; constraints = map (constraint_renumbered s) s.constraints }

elements_counted : (n : ℕ) (es : List Element) → elements_from n es ≡ by_count (λ (m : ℕ) (e : Element). record e { number = record { 0 = m } }) n es
elements_counted n [] = refl
elements_counted n (e ∷ es) = ap (λ (xs : List Element). record e { number = record { 0 = n } } ∷ xs) (elements_counted (n + 1) es)

abbrev constraint_by : Sketch → ℕ → Constraint → Constraint
constraint_by s m c = record { number = record { 0 = m }; rule = rule_renumbered s c.rule }

constraints_counted : (s : Sketch) (n : ℕ) (cs : List Constraint) → constraints_from s n cs ≡ by_count (constraint_by s) n cs
constraints_counted s n [] = refl
constraints_counted s n (c ∷ cs) = ap (λ (xs : List Constraint). constraint_by s n c ∷ xs) (constraints_counted s (n + 1) cs)

shape_kept : (s : Sketch) (o : Option Element) → option_map (λ (x : Element). x.shape) (option_map (element_renumbered s) o) ≡ option_map (λ (x : Element). x.shape) o
shape_kept s None = refl
shape_kept s (Some e) = refl

place_kept : (s : Sketch) (o : Option Spot) → option_map (λ (x : Spot). x.at) (option_map (spot_renumbered s) o) ≡ option_map (λ (x : Spot). x.at) o
place_kept s None = refl
place_kept s (Some spot) = refl

module _ (s : Sketch) (sound : IsSoundSketch s) where
  pub renumbered_each : renumbered s ≡ each_renumbered s
  renumbered_each =
      let make : List Element → List Constraint → Sketch = λ es cs. record { elements = es; constraints = cs } in
      ap (λ (es : List Element). make es (constraints_from s 1 s.constraints)) (elements_counted 1 s.elements ∙ counted (λ (x : Element). x.number.0) (λ (m : ℕ) (e : Element). record e { number = record { 0 = m } }) 1 s.elements sound.elements_rise)
      ∙ ap (λ (cs : List Constraint). make (map (element_renumbered s) s.elements) cs) (constraints_counted s 1 s.constraints ∙ counted (λ (x : Constraint). x.number.0) (constraint_by s) 1 s.constraints sound.constraints_rise)

  -- the new numbers of elements are told apart, and rise, as their own do
  pub same_element : (u v : Elem) → IsDeclared s u → ((new_element s u).0 == (new_element s v).0) ≡ (u.0 == v.0)
  same_element u v (e, e_in, is) = counted_same (λ (x : Element). x.number.0) s.elements sound.elements_rise u.0 v.0 (e, e_in, ap (λ (w : Elem). w.0) is)

  pub element_order : (u v : Elem) → IsDeclared s u → IsDeclared s v → nat_lt (new_element s u).0 (new_element s v).0 ≡ nat_lt u.0 v.0
  element_order u v (e, e_in, is) (f, f_in, is') =
      counted_order (λ (x : Element). x.number.0) s.elements sound.elements_rise u.0 v.0 (e, e_in, ap (λ (w : Elem). w.0) is) (f, f_in, ap (λ (w : Elem). w.0) is')

  -- and so are those of constraints
  pub same_constraint : (k j : ConId) → HasConstraint s k → ((new_constraint s k).0 == (new_constraint s j).0) ≡ (k.0 == j.0)
  same_constraint k j (c, c_in, is) = counted_same (λ (x : Constraint). x.number.0) s.constraints sound.constraints_rise k.0 j.0 (c, c_in, ap (λ (i : ConId). i.0) is)

  pub constraint_order : (k j : ConId) → HasConstraint s k → HasConstraint s j → nat_lt (new_constraint s k).0 (new_constraint s j).0 ≡ nat_lt k.0 j.0
  constraint_order k j (c, c_in, is) (d, d_in, is') =
      counted_order (λ (x : Constraint). x.number.0) s.constraints sound.constraints_rise k.0 j.0 (c, c_in, ap (λ (i : ConId). i.0) is) (d, d_in, ap (λ (i : ConId). i.0) is')

  element_again : (u : Elem) → element_of (each_renumbered s) (new_element s u) ≡ option_map (element_renumbered s) (element_of s u)
  element_again u = find_alike (element_renumbered s) (λ (x : Element). x.number.0 == u.0) (λ (x : Element). x.number.0 == (new_element s u).0) s.elements (λ x x_in. same_element x.number u (x, x_in, refl))

  -- an element is drawn as it was
  pub drawn_again : (u : Elem) → drawn_as (each_renumbered s) (new_element s u) ≡ drawn_as s u
  drawn_again u =
      ap (λ (o : Option Element). unwrap_or (option_map (λ (x : Element). x.shape) o) (Point (record { 0 = pos 0 }) (record { 0 = pos 0 }))) (element_again u)
      ∙ ap (λ (o : Option Shape). unwrap_or o (Point (record { 0 = pos 0 }) (record { 0 = pos 0 }))) (shape_kept s (element_of s u))

  pub constraint_again : (k : ConId) → constraint_of (each_renumbered s) (new_constraint s k) ≡ option_map (constraint_renumbered s) (constraint_of s k)
  constraint_again k = find_alike (constraint_renumbered s) (λ (x : Constraint). x.number.0 == k.0) (λ (x : Constraint). x.number.0 == (new_constraint s k).0) s.constraints (λ x x_in. same_constraint x.number k (x, x_in, refl))

  module _ (at : Placed) (declared : (spot : Spot) → Contains at.spots spot → IsDeclared s spot.elem) where
    -- and lies where it did
    pub place_again : (u : Elem) → place_of (places_renumbered s at) (new_element s u) ≡ place_of at u
    place_again u =
        ap (option_map (λ (x : Spot). x.at)) (find_alike (spot_renumbered s) (λ (x : Spot). x.elem.0 == u.0) (λ (x : Spot). x.elem.0 == (new_element s u).0) at.spots (λ x x_in. same_element x.elem u (declared x x_in)))
        ∙ place_kept s (find (λ (x : Spot). x.elem.0 == u.0) at.spots)

    pub lies_again : (u : Elem) → lies (places_renumbered s at) (new_element s u) ≡ lies at u
    lies_again u = ap (λ (o : Option At). unwrap_or o (places.Point (pos 0) (pos 0))) (place_again u)
