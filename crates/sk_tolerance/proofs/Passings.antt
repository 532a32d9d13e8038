-- Which item is the first that passes a limit.
use Rattle.std.proofs.Common.{inl, inr, ◌≡◌, ℕ, ◌+◌, ◌≤◌, ◌<◌, List, [], ◌∷◌, ◌++◌, length, get_or, take, refl, sym, subst, arith}
use Rattle.std.specs.Prelude.{Contains, map, Option, Some, None, IsNone, IfSome, ◌↔◌}
use Rattle.std.specs.List.{flat_map}
use Rattle.std.proofs.lemmas.List.Elements.{Contains-append_right, Contains-append_cases}
use Rattle.std.proofs.lemmas.List.Concat.{flat_map_single}
use Rattle.sk_base.specs.declared.Placed.{Placed}
use Rattle.sk_base.proofs.Members.{contains_none, contains_head, contains_one}
use Rattle.sk_tolerance.specs.declared.spotted.Spotted.{Spotted}
use Rattle.sk_tolerance.specs.declared.beyond.Beyond.{Beyond}
use Rattle.sk_measure.specs.Items.{Item, Holds, IsOwnLeast}
use Rattle.sk_tolerance.specs.Tolerances.{spotted_as, AllHold, IsAbove, IsFirstBeyond}
use Rattle.sk_tolerance.specs.Telling.{IsSearched}
use Rattle.sk_tolerance.proofs.Firsts.{appended, behind, all_so_far, first_there}
use Rattle.sk_measure.proofs.Widening.{holds_more}

module _ (p : Placed) (limit : ℕ) where
  pub excludes : (item : Item) → Holds p item limit → ¬ IsAbove p limit item
  excludes item h (n, own, lt) = (let le : n ≤ limit = own.least limit h in omega arith)

  -- of one item
  pub all_one : (item : Item) (n : ℕ) → IsOwnLeast p item n → n ≤ limit → AllHold p (item ∷ []) limit
  all_one item n own le y h = subst (λ z. Holds p z limit) (contains_one item y h) (holds_more p item n limit le own.holds)

  pub beyond_one : (item : Item) (at : Spotted) (n : ℕ) → IsOwnLeast p item n → spotted_as item ≡ at → limit < n → IsFirstBeyond p (item ∷ []) limit (record { at = at; least = n; limit = limit })
  beyond_one item at n own named lt = record {
    item = item;
    first = record { before = []; after = []; parts = refl; has = (n, own, lt); none_before = λ y h. absurd (contains_none y h) };
    named = named;
    least = own;
    limited = refl;
  }

  -- of two lists
  pub beyond_appended : (xs ys : List Item) (b : Beyond) → IsFirstBeyond p xs limit b → IsFirstBeyond p (xs ++ ys) limit b
  beyond_appended xs ys b beyond = record {
    item = beyond.item;
    first = appended (IsAbove p limit) xs ys beyond.item beyond.first;
    named = beyond.named;
    least = beyond.least;
    limited = beyond.limited;
  }

  pub beyond_behind : (xs ys : List Item) (b : Beyond) → AllHold p xs limit → IsFirstBeyond p ys limit b → IsFirstBeyond p (xs ++ ys) limit b
  beyond_behind xs ys b all beyond = record {
    item = beyond.item;
    first = behind (IsAbove p limit) (λ item. Holds p item limit) excludes xs ys beyond.item all beyond.first;
    named = beyond.named;
    least = beyond.least;
    limited = beyond.limited;
  }

  -- where all hold there is none
  pub none_beyond : (items : List Item) (b : Beyond) → IsFirstBeyond p items limit b → AllHold p items limit → ⊥
  none_beyond items b beyond all =
      let inside : Contains items beyond.item = subst (λ xs. Contains xs beyond.item) (sym beyond.first.parts) (Contains-append_right beyond.first.before (beyond.item ∷ beyond.first.after) beyond.item (contains_head beyond.item beyond.first.after)) in
      excludes beyond.item (all beyond.item inside) beyond.first.has

  module _ {Y : Type 0} (f : Y → List Item) (ys : List Y) (i : ℕ) (d : Y) (inside : i < length ys) where
    -- of lists that are looked through one by one
    pub all_hold_more : AllHold p (flat_map f (take i ys)) limit → AllHold p (f (get_or ys i d)) limit → AllHold p (flat_map f (take (i + 1) ys)) limit
    all_hold_more early here = all_so_far (IsAbove p limit) (λ item. Holds p item limit) excludes f ys i d inside early here

    pub beyond_there : (b : Beyond) → AllHold p (flat_map f (take i ys)) limit → IsFirstBeyond p (f (get_or ys i d)) limit b → IsFirstBeyond p (flat_map f ys) limit b
    beyond_there b early beyond = record {
      item = beyond.item;
      first = first_there (IsAbove p limit) (λ item. Holds p item limit) excludes f ys i d inside beyond.item early beyond.first;
      named = beyond.named;
      least = beyond.least;
      limited = beyond.limited;
    }

  -- of items that are looked through one by one
  module _ {Y : Type 0} (f : Y → Item) (ys : List Y) (i : ℕ) (d : Y) (inside : i < length ys) where
    as_flat : (zs : List Y) → flat_map (λ y. f y ∷ []) zs ≡ map f zs
    as_flat zs = flat_map_single f zs

    pub mapped_more : AllHold p (map f (take i ys)) limit → AllHold p (f (get_or ys i d) ∷ []) limit → AllHold p (map f (take (i + 1) ys)) limit
    mapped_more early here =
        subst (λ xs. AllHold p xs limit) (as_flat (take (i + 1) ys))
        (all_hold_more (λ y. f y ∷ []) ys i d inside (subst (λ xs. AllHold p xs limit) (sym (as_flat (take i ys))) early) here)

    pub mapped_there : (b : Beyond) → AllHold p (map f (take i ys)) limit → IsFirstBeyond p (f (get_or ys i d) ∷ []) limit b → IsFirstBeyond p (map f ys) limit b
    mapped_there b early beyond =
        subst (λ xs. IsFirstBeyond p xs limit b) (as_flat ys)
        (beyond_there (λ y. f y ∷ []) ys i d inside b (subst (λ xs. AllHold p xs limit) (sym (as_flat (take i ys))) early) beyond)

  -- where all of the first hold, what is found is found in the second
  pub searched_behind : (xs ys : List Item) (o : Option Beyond) → AllHold p xs limit → IsSearched p ys limit o → IsSearched p (xs ++ ys) limit o
  searched_behind xs ys None all rest = λ item h. elim (Contains-append_cases xs ys item h) [ inl early ↦ all item early | inr late ↦ rest item late ]
  searched_behind xs ys (Some b) all rest = beyond_behind xs ys b all rest

  -- what is found tells whether all hold
  pub none_exactly : (items : List Item) (o : Option Beyond) → IsSearched p items limit o → IsNone o ↔ AllHold p items limit
  none_exactly items None searched = ((λ is. searched), (λ all. refl))
  none_exactly items (Some b) beyond = ((λ is. absurd (cc)), (λ all. absurd (none_beyond items b beyond all)))

  pub some_first : (items : List Item) (o : Option Beyond) → IsSearched p items limit o → IfSome o (IsFirstBeyond p items limit)
  some_first items None searched = tt
  some_first items (Some b) beyond = beyond
