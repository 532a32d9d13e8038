-- Keys put behind those of an element, and taken out.
use Rattle.std.proofs.Common.{◌≡◌, ◌≢◌, ◌⊎◌, inl, inr, refl, zero, suc, Bool, true, false, cond, ℕ, ◌+◌, ◌<◌, ◌≤◌, List, [], ◌∷◌, ◌++◌, length, get_or, set, get_or-set_same, get_or-set_other, sym, subst, ◌∙◌, ap, arith}
use Rattle.std.specs.Prelude.{◌↔◌, AllPairs, Contains, Option, None, Some, slice_get, filter, not, ◌==◌, IfNone, remove}
use Rattle.std.specs.List.{position, position_from}
use Rattle.std.proofs.lemmas.List.Quantifiers.{position-Some}
use Rattle.std.proofs.lemmas.Iterator.Adapters.{position_from-zero}
use Rattle.std.proofs.lemmas.Option.{slice_get-get_or, slice_get_past, slice_get_within, get_or_from_slice_get}
use Rattle.std.proofs.lemmas.Bool.Decides.{nat_tests}
use Rattle.std.proofs.lemmas.List.Elements.{Contains-get_or, Contains-append_left, Contains-append_right, Contains-append_cases}
use Rattle.std.proofs.lemmas.List.{length-set}
use Rattle.sk_base.proofs.Members.{contains_none, contains_head, contains_one, contains_cases, contains_filtered, filtered_from, nat_settles}
use Rattle.sk_base.proofs.Pairs.{pairs_filter, pairs_head, pairs_tail}
use Rattle.sk_base.proofs.Unions.{which}
use Rattle.slab.specs.Slab.{get}
use Rattle.sk_base.specs.declared.Elem.{Elem}
use Rattle.sk_family.proofs.Naming.{below_irreflexive}
use Rattle.sk_base.proofs.Filters.{filter_keeps}
use Rattle.sk_neighbours.specs.declared.index.Index.{Index}
use Rattle.sk_neighbours.specs.Indexed.{IsIndex, holders_of, keys_in}

module _ {X : Type 0} (xs : List X) (i : ℕ) (x : X) where
  pub get_set_same : i < length xs → slice_get (set xs i x) i ≡ Some x
  get_set_same i_in =
      let at : i < length (set xs i x) = omega (arith, length-set xs i x) in
      slice_get-get_or (set xs i x) i x at ∙ ap Some (get_or-set_same xs i x x i_in)

  pub get_set_other : (j : ℕ) → j ≢ i → slice_get (set xs i x) j ≡ slice_get xs j
  get_set_other j other =
      elim (which j (length xs)) [
        | inl within ↦ (
            let at : j < length (set xs i x) = omega (arith, length-set xs i x) in
            slice_get-get_or (set xs i x) j x at ∙ ap Some (get_or-set_other xs i j x x other) ∙ sym (slice_get-get_or xs j x within))
        | inr past ↦ (
            let over : length xs ≤ j = elim past [ inl level ↦ omega arith | inr above ↦ omega arith ] in
            slice_get_past (set xs i x) j (omega (arith, length-set xs i x)) ∙ sym (slice_get_past xs j over))
      ]

-- the keys of the list that stands at a place
pub grown_from : (all : List (List ℕ)) (n : ℕ) (list : List ℕ) → n < length all → list ≡ get_or all n list → list ≡ keys_in (slice_get all n)
grown_from all n list n_in is = is ∙ sym (ap keys_in (slice_get-get_or all n list n_in))

differs : (k key : ℕ) → not (k == key) ≡ true → k ≢ key
differs k key h same = grind (arith, nat_tests)

passes : (k key : ℕ) → k ≢ key → not (k == key) ≡ true
passes k key other = grind (arith, nat_tests)

module _ (all : List (List ℕ)) (n : ℕ) (n_in : n < length all) where
  abbrev pub keys_at : List (List ℕ) → ℕ → List ℕ
  keys_at lists q = keys_in (slice_get lists q)

  pub key_added : (key : ℕ) (grown : List ℕ) → grown ≡ keys_at all n ++ key ∷ []
      → (q k : ℕ) → Contains (keys_at (set all n grown) q) k ↔ (Contains (keys_at all q) k ⊎ ((q ≡ n) × (k ≡ key)))
  key_added key grown is q k =
      elim (nat_settles q n) [
        | inl same ↦ (
            let now : keys_at (set all n grown) q ≡ keys_at all q ++ key ∷ [] =
            ap (λ j. keys_at (set all n grown) j) same ∙ ap keys_in (get_set_same all n grown n_in) ∙ is ∙ ap (λ j. keys_at all j ++ key ∷ []) (sym same) in (
              (λ h. elim (Contains-append_cases (keys_at all q) (key ∷ []) k (subst (λ l. Contains l k) now h)) [
                | inl before ↦ inl before
                | inr new_one ↦ inr (same, sym (contains_one key k new_one))
              ]),
              (λ h. subst (λ l. Contains l k) (sym now) (elim h [
                | inl before ↦ Contains-append_left (keys_at all q) (key ∷ []) k before
                | inr (_, at) ↦ Contains-append_right (keys_at all q) (key ∷ []) k (subst (λ j. Contains (key ∷ []) j) (sym at) (contains_head key []))
              ])),
            ))
        | inr other ↦ (
            let stays : keys_at (set all n grown) q ≡ keys_at all q = ap keys_in (get_set_other all n grown q other) in (
              (λ h. inl (subst (λ l. Contains l k) stays h)),
              (λ h. elim h [ inl before ↦ subst (λ l. Contains l k) (sym stays) before | inr (same, _) ↦ absurd (other same) ]),
            ))
      ]

  pub key_dropped : (key : ℕ) (left : List ℕ) → left ≡ filter (λ (j : ℕ). not (j == key)) (keys_at all n)
      → (q k : ℕ) → Contains (keys_at (set all n left) q) k ↔ (Contains (keys_at all q) k × ¬ ((q ≡ n) × (k ≡ key)))
  key_dropped key left is q k =
      elim (nat_settles q n) [
        | inl same ↦ (
            let now : keys_at (set all n left) q ≡ filter (λ (j : ℕ). not (j == key)) (keys_at all q) =
            ap (λ j. keys_at (set all n left) j) same ∙ ap keys_in (get_set_same all n left n_in) ∙ is ∙ ap (λ j. filter (λ (i : ℕ). not (i == key)) (keys_at all j)) (sym same) in (
              (λ h. (
                  let was = filtered_from (λ (j : ℕ). not (j == key)) (keys_at all q) k (subst (λ l. Contains l k) now h) in
                  (was.0, (λ (_, at). differs k key was.1 at)))),
              (λ (was, apart). subst (λ l. Contains l k) (sym now) (contains_filtered (λ (j : ℕ). not (j == key)) (keys_at all q) k was (passes k key (λ at. apart (same, at))))),
            ))
        | inr other ↦ (
            let stays : keys_at (set all n left) q ≡ keys_at all q = ap keys_in (get_set_other all n left q other) in (
              (λ h. (subst (λ l. Contains l k) stays h, (λ (same, _). other same))),
              (λ (was, _). subst (λ l. Contains l k) (sym stays) was),
            ))
      ]

  pub order_dropped : (key : ℕ) (left : List ℕ) → left ≡ filter (λ (j : ℕ). not (j == key)) (keys_at all n)
      → (R : ℕ → ℕ → Type 0) (q : ℕ) → AllPairs R (keys_at all q) → AllPairs R (keys_at (set all n left) q)
  order_dropped key left is R q pairs =
      elim (nat_settles q n) [
        | inl same ↦ subst (λ j. AllPairs R (keys_at (set all n left) j)) (sym same)
            (subst (λ l. AllPairs R l) (sym (ap keys_in (get_set_same all n left n_in) ∙ is)) (pairs_filter R (λ (j : ℕ). not (j == key)) (keys_at all n) (subst (λ j. AllPairs R (keys_at all j)) same pairs)))
        | inr other ↦ subst (λ l. AllPairs R l) (sym (ap keys_in (get_set_other all n left q other))) pairs
      ]

-- a key that stands at a place, taken out
taken_at : (key : ℕ) (xs : List ℕ) (m : ℕ) → AllPairs (λ (j k : ℕ). j ≢ k) xs → m < length xs → get_or xs m key ≡ key → remove xs m ≡ filter (λ (j : ℕ). not (j == key)) xs
taken_at key [] m differ within is = absurd (omega arith)
taken_at key (x ∷ xs) zero differ within is =
    let level : (x == key) ≡ true = grind (arith, nat_tests) in
    sym (ap (λ b. cond (not b) (x ∷ filter (λ (j : ℕ). not (j == key)) xs) (filter (λ (j : ℕ). not (j == key)) xs)) level
    ∙ filter_keeps (λ (j : ℕ). not (j == key)) xs (λ j j_in. passes j key (λ same. pairs_head (λ (p q : ℕ). p ≢ q) x xs differ j j_in (is ∙ sym same))))
taken_at key (x ∷ xs) (suc m) differ within is =
    let other : x ≢ key = pairs_head (λ (p q : ℕ). p ≢ q) x xs differ key (m, omega arith, is) in
    let fails : (x == key) ≡ false = grind (arith, nat_tests) in
    ap (λ l. x ∷ l) (taken_at key xs m (pairs_tail (λ (p q : ℕ). p ≢ q) x xs differ) (omega arith) is)
    ∙ sym (ap (λ b. cond (not b) (x ∷ filter (λ (j : ℕ). not (j == key)) xs) (filter (λ (j : ℕ). not (j == key)) xs)) fails)

pub key_within : (key : ℕ) (xs : List ℕ) (m : ℕ) → position (λ j. j == key) xs ≡ Some m → m < length xs
key_within key xs m found = (position-Some (λ j. j == key) xs m key found).0

pub key_taken : (key : ℕ) (xs : List ℕ) → AllPairs (λ (j k : ℕ). j ≢ k) xs → (m : ℕ) → position (λ j. j == key) xs ≡ Some m → remove xs m ≡ filter (λ (j : ℕ). not (j == key)) xs
key_taken key xs differ m found =
    let at = position-Some (λ j. j == key) xs m key found in
    let test : (get_or xs m key == key) ≡ true = at.1 in
    let level : get_or xs m key ≡ key = grind (arith, nat_tests) in
    taken_at key xs m differ at.0 level

none_from : (key i : ℕ) (xs : List ℕ) → position_from (λ j. j == key) i xs ≡ None → (j : ℕ) → Contains xs j → (j == key) ≡ false
none_from key i [] none j j_in = absurd (contains_none j j_in)
none_from key i (x ∷ xs) none j j_in = told (x == key) refl none (none_from key (i + 1) xs)
  where
    told : (b : Bool) → (x == key) ≡ b → cond b (Some i) (position_from (λ k. k == key) (i + 1) xs) ≡ None
        → (position_from (λ k. k == key) (i + 1) xs ≡ None → (k : ℕ) → Contains xs k → (k == key) ≡ false) → (j == key) ≡ false
    told true is here rest = absurd (cc)
    told false is later rest = elim (contains_cases x xs j j_in) [ inl here ↦ subst (λ k. (k == key) ≡ false) here is | inr back ↦ rest later j back ]

pub key_absent : (key : ℕ) (xs : List ℕ) → position (λ j. j == key) xs ≡ None → xs ≡ filter (λ (j : ℕ). not (j == key)) xs
key_absent key xs none =
    sym (filter_keeps (λ (j : ℕ). not (j == key)) xs (λ j j_in. ap not (none_from key 0 xs (sym (position_from-zero (λ k. k == key) xs) ∙ none) j j_in)))

-- the keys of an element differ, since their clusters rise
pub keys_differ : (ix : Index) → IsIndex ix → (e : Elem) → AllPairs (λ (j k : ℕ). j ≢ k) (holders_of ix e)
keys_differ ix index e i j d i_j j_in same =
    let keys = holders_of ix e in
    let (c, c_is, _) = index.leads e (get_or keys i d) (Contains-get_or keys i d (omega arith)) in
    below_irreflexive c.name (index.in_order e i j d i_j j_in c c c_is (ap (λ k. get ix.live k) (sym same) ∙ c_is))

-- no key stands past the end
pub nothing_there : (all : List (List ℕ)) (n k : ℕ) → length all ≤ n → ¬ Contains (keys_in (slice_get all n)) k
nothing_there all n k past h = contains_none k (subst (λ l. Contains l k) (ap keys_in (slice_get_past all n past)) h)

pub none_then : {T P Q : Type 0} (o : Option T) → IfNone o P → (P → Q) → IfNone o Q
none_then None h then = then h
none_then (Some x) h then = tt

pub in_list : {X : Type 0} (xs : List X) (i : ℕ) (x : X) → slice_get xs i ≡ Some x → Contains xs x
in_list xs i x is = (i, slice_get_within xs i x is, get_or_from_slice_get xs i x x is)
