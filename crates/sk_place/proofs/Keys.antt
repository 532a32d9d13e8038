-- Slots of a slab under keys: one is taken out, one is put down.
use Rattle.std.proofs.Common.{◌≡◌, ◌≢◌, ◌⊎◌, inl, inr, ℕ, ◌<◌, ◌≤◌, true, false, List, [], ◌∷◌, ◌++◌, length, get_or, set, Option, Some, None, IsSome, Result, Ok, Err, OnOk, OnErr, refl, ap, sym, subst, ◌∙◌, arith, length-append}
use Rattle.std.specs.Prelude.{slice_get}
use Rattle.std.proofs.lemmas.Option.{get_or_from_slice_get}
use Rattle.std.proofs.Math.ListN.{get_or-eq_default, length-set}
use Rattle.std.proofs.Math.Seq.{get_or-append_seam}
use Rattle.std.proofs.lemmas.Bool.{cases_lt}
use Rattle.std.proofs.lemmas.List.{ext_get_or, get_or-map, length-map, map-append, get_or_append_left, get_or-set_same, get_or-set_other}
use Rattle.slab.specs.Slab.{Slab, get, Updates}
use Rattle.sk_place.specs.Slots.{slot_of, slots_of, HaveOwnKeys}

-- the same, or not
same_or_not : (i j : ℕ) → (i ≡ j) ⊎ (i ≢ j)
same_or_not i j = elim (cases_lt i j) [
  | inl less ↦ inr (λ e. absurd (omega arith))
  | inr from ↦ elim (cases_lt j i) [ inl more ↦ inr (λ e. absurd (omega arith)) | inr to ↦ inl (omega arith) ]
]

-- a key that is kept stands inside the list
kept_inside : (keys : List (Option ℕ)) (i key : ℕ) → get_or keys i None ≡ Some key → i < length keys
kept_inside keys i key is = elim (cases_lt i (length keys)) [
  | inl inside ↦ inside
  | inr beyond ↦ (let never : None ≡ Some key = sym (get_or-eq_default keys None beyond) ∙ is in absurd (cc))
]

module _ {T : Type 0} where
  pub read : (s : Slab T) (keys : List (Option ℕ)) (i : ℕ) → get_or (slots_of s keys) i None ≡ slot_of s (get_or keys i None)
  read s keys i = elim (cases_lt i (length keys)) [
    | inl inside ↦ get_or-map (slot_of s) keys i None None inside
    | inr beyond ↦
        (let size : length (slots_of s keys) ≤ i = omega (arith, length-map keys (slot_of s)) in
        get_or-eq_default (slots_of s keys) None size ∙ sym (ap (slot_of s) (get_or-eq_default keys None beyond)))
  ]

  -- where a slot has a value there is a key
  pub full_key : (s : Slab T) (keys : List (Option ℕ)) (i : ℕ) → IsSome (get_or (slots_of s keys) i None) → (key : ℕ) × (get_or keys i None ≡ Some key)
  full_key s keys i some = told (get_or keys i None) refl (subst IsSome (read s keys i) some)
    where
      told : (k : Option ℕ) → get_or keys i None ≡ k → IsSome (slot_of s k) → (key : ℕ) × (get_or keys i None ≡ Some key)
      told (Some key) is h = (key, is)
      told None is h = (let never : false ≡ true = h in absurd (cc))

  -- ---- one is taken out

  module _ (s s' : Slab T) (keys : List (Option ℕ)) (step key : ℕ) (own : HaveOwnKeys s keys) (there : get_or keys step None ≡ Some key) (out : Updates s s' key None) where
    none_there : get_or (set keys step None) step None ≡ None
    none_there = get_or-set_same keys step None None (kept_inside keys step key there)

    left_key : (i k : ℕ) → get_or (set keys step None) i None ≡ Some k → (i ≢ step) × (get_or keys i None ≡ Some k)
    left_key i k is = elim (same_or_not i step) [
      | inl same ↦ (let never : None ≡ Some k = sym none_there ∙ ap (λ (j : ℕ). get_or (set keys step None) j None) (sym same) ∙ is in absurd (cc))
      | inr other ↦ (other, sym (get_or-set_other keys step i None None other) ∙ is)
    ]

    other_key : (i k : ℕ) → i ≢ step → get_or keys i None ≡ Some k → k ≢ key
    other_key i k other is same = other (own.apart i step key (is ∙ ap Some same) there)

    pub own_left : HaveOwnKeys s' (set keys step None)
    own_left = record {
      full = λ i k is. (let was = left_key i k is in
          subst IsSome (sym (out.others k (other_key i k was.0 was.1))) (own.full i k was.1));
      apart = λ i j k i_is j_is. own.apart i j k (left_key i k i_is).1 (left_key j k j_is).1;
    }

    slot_left : (i : ℕ) → i ≢ step → slot_of s' (get_or keys i None) ≡ slot_of s (get_or keys i None)
    slot_left i other = told (get_or keys i None) refl
      where
        told : (k : Option ℕ) → get_or keys i None ≡ k → slot_of s' k ≡ slot_of s k
        told (Some k) is = out.others k (other_key i k other is)
        told None is = refl

    pub slots_left : slots_of s' (set keys step None) ≡ set (slots_of s keys) step None
    slots_left =
        let size : length (slots_of s' (set keys step None)) ≡ length (set (slots_of s keys) step None) =
        omega (arith, length-map (set keys step None) (slot_of s'), length-set keys step None, length-set (slots_of s keys) step None, length-map keys (slot_of s)) in
        ext_get_or None (slots_of s' (set keys step None)) (set (slots_of s keys) step None) size (λ i inside. elim (same_or_not i step) [
          | inl same ↦
              (let level : step < length (slots_of s keys) = omega (arith, kept_inside keys step key there, length-map keys (slot_of s)) in
              let here : get_or (set (slots_of s keys) step None) i None ≡ None = ap (λ (j : ℕ). get_or (set (slots_of s keys) step None) j None) same ∙ get_or-set_same (slots_of s keys) step None None level in
              read s' (set keys step None) i ∙ ap (λ (j : ℕ). slot_of s' (get_or (set keys step None) j None)) same ∙ ap (slot_of s') none_there ∙ sym here)
          | inr other ↦
              read s' (set keys step None) i ∙ ap (slot_of s') (get_or-set_other keys step i None None other) ∙ slot_left i other
              ∙ sym (read s keys i) ∙ sym (get_or-set_other (slots_of s keys) step i None None other)
        ])

  -- ---- one is put down

  module _ (s s' : Slab T) (keys : List (Option ℕ)) (key : ℕ) (b : T) (own : HaveOwnKeys s keys) (vacant : get s key ≡ None) (in' : Updates s s' key (Some b)) where
    new_key : (i k : ℕ) → get_or keys i None ≡ Some k → k ≢ key
    new_key i k is same =
        let some : IsSome (get s k) = own.full i k is in
        let never : false ≡ true = subst IsSome (ap (get s) same ∙ vacant) some in absurd (cc)

    pub own_still : HaveOwnKeys s' keys
    own_still = record {
      full = λ i k is. subst IsSome (sym (in'.others k (new_key i k is))) (own.full i k is);
      apart = λ i j k i_is j_is. own.apart i j k i_is j_is;
    }

    data Place (i k : ℕ) : Type 0 where
      old : get_or keys i None ≡ Some k → Place i k
      last : i ≡ length keys → k ≡ key → Place i k

    place_in : (i k : ℕ) → get_or (keys ++ Some key ∷ []) i None ≡ Some k → Place i k
    place_in i k is = elim (cases_lt i (length keys)) [
      | inl inside ↦ old (sym (get_or_append_left keys (Some key ∷ []) None i inside) ∙ is)
      | inr from ↦ elim (cases_lt (length keys) i) [
        | inl beyond ↦
            (let size : length (keys ++ Some key ∷ []) ≤ i = omega (arith, length-append keys (Some key ∷ [])) in
            let never : None ≡ Some k = sym (get_or-eq_default (keys ++ Some key ∷ []) None size) ∙ is in absurd (cc))
        | inr to ↦
            (let level : i ≡ length keys = omega arith in
            let here : Some k ≡ Some key = sym is ∙ ap (λ (j : ℕ). get_or (keys ++ Some key ∷ []) j None) level ∙ get_or-append_seam keys (Some key) [] None in
            last level cc)
      ]
    ]

    pub own_more : HaveOwnKeys s' (keys ++ Some key ∷ [])
    own_more = record {
      full = λ i k is. elim (place_in i k is) [
        | old was ↦ own_still.full i k was
        | last level same ↦ subst IsSome (sym (ap (get s') same ∙ in'.changed)) refl
      ];
      apart = λ i j k i_is j_is. elim (place_in i k i_is) [
        | old i_was ↦ elim (place_in j k j_is) [
          | old j_was ↦ own.apart i j k i_was j_was
          | last level same ↦ absurd (new_key i k i_was same)
        ]
        | last i_level i_same ↦ elim (place_in j k j_is) [
          | old j_was ↦ absurd (new_key j k j_was i_same)
          | last j_level j_same ↦ i_level ∙ sym j_level
        ]
      ];
    }

    slots_still : slots_of s' keys ≡ slots_of s keys
    slots_still =
        let size : length (slots_of s' keys) ≡ length (slots_of s keys) = omega (arith, length-map keys (slot_of s'), length-map keys (slot_of s)) in
        ext_get_or None (slots_of s' keys) (slots_of s keys) size (λ i inside. read s' keys i ∙ told i (get_or keys i None) refl ∙ sym (read s keys i))
      where
        told : (i : ℕ) (k : Option ℕ) → get_or keys i None ≡ k → slot_of s' k ≡ slot_of s k
        told i (Some k) is = in'.others k (new_key i k is)
        told i None is = refl

    pub slots_more : slots_of s' (keys ++ Some key ∷ []) ≡ slots_of s keys ++ Some b ∷ []
    slots_more =
        map-append (slot_of s') keys (Some key ∷ [])
        ∙ ap (λ (xs : List (Option T)). xs ++ get s' key ∷ []) slots_still
        ∙ ap (λ (x : Option T). slots_of s keys ++ x ∷ []) in'.changed

-- what holds of both outcomes holds
pub either_way : {X E K : Type 0} (P : K → Type 0) (r : Result X E) (new more same : K) → OnOk r (new ≡ more) → OnErr r (new ≡ same) → P more → P same → P new
either_way P (Ok x) new more same ok err p q = subst P (sym ok) p
either_way P (Err e) new more same ok err p q = subst P (sym err) q

pub slot_at : (keys : List (Option ℕ)) (i : ℕ) (k : Option ℕ) → slice_get keys i ≡ Some k → get_or keys i None ≡ k
slot_at keys i k is = get_or_from_slice_get keys i k None is

pub never_none : {T : Type 0} (s : Slab T) (keys : List (Option ℕ)) (i : ℕ) → get_or keys i None ≡ None → ¬ IsSome (get_or (slots_of s keys) i None)
never_none s keys i none some = (let found = full_key s keys i some in let never : None ≡ Some found.0 = sym none ∙ found.1 in absurd (cc))
