-- A triple put behind the others, in the last row or in a new one.
use Rattle.std.proofs.Common.{◌≡◌, ◌≢◌, inl, inr, refl, zero, suc, ℕ, ◌+◌, ◌-◌, ◌<◌, List, [], ◌∷◌, ◌++◌, length, get_or, set, take, drop, sym, subst, ◌∙◌, ap, arith, length-append, append_assoc}
use Rattle.std.specs.Prelude.{AllPairs, Contains, None, Some, map, slice_get}
use Rattle.std.specs.List.{flat_map}
use Rattle.std.proofs.lemmas.List.{length-set, append-nil, take_at}
use Rattle.std.proofs.lemmas.List.Concat.{flat_map-append}
use Rattle.std.proofs.lemmas.List.Elements.{Contains-append_left, Contains-append_right, Contains-append_cases}
use Rattle.std.proofs.lemmas.Option.{same_Some, slice_get_past, slice_get-get_or}
use Rattle.sk_base.specs.declared.Name.{Name}
use Rattle.sk_base.proofs.Members.{contains_none, contains_head, contains_later, contains_one, contains_cases, nat_settles}
use Rattle.sk_base.proofs.Splits.{last_or_none, last_pushed}
use Rattle.sk_base.proofs.Pairs.{pairs_head, pairs_push, pairs_tail}
use Rattle.sk_family.specs.declared.Merge.{Merge}
use Rattle.sk_family.specs.Merges.{names_of}
use Rattle.sk_open_triples.proofs.Writing.{row_written, row_beside}
use Rattle.sk_open_triples.specs.declared.mentions.Mentions.{Mentions}
use Rattle.sk_open_triples.specs.declared.row.OpenRow.{OpenRow}
use Rattle.sk_open_triples.specs.declared.lower_pairs.LowerPair.{LowerPair}
use Rattle.sk_open_triples.specs.OpenRows.{AreAlike, AreRows, AreUnchanged, GainsKey, IsLastRow, IsPutAt, Mention, merges_at, merges_in, merges_of, triple_of}

-- a row without a triple changes nothing
at_pushed : (rows : List OpenRow) (row : OpenRow) → merges_of row ≡ [] → (k : ℕ) → merges_at (rows ++ row ∷ []) k ≡ merges_at rows k
at_pushed [] row none zero = none
at_pushed [] row none (suc k) = refl
at_pushed (r ∷ rows) row none zero = refl
at_pushed (r ∷ rows) row none (suc k) = at_pushed rows row none k

pub flat_same : {X : Type 0} (f g : ℕ → List X) (ks : List ℕ) → ((k : ℕ) → Contains ks k → f k ≡ g k) → flat_map f ks ≡ flat_map g ks
flat_same f g [] same = refl
flat_same f g (k ∷ ks) same =
    ap (λ l. l ++ flat_map f ks) (same k (contains_head k ks)) ∙ ap (λ l. g k ++ l) (flat_same f g ks (λ j j_in. same j (contains_later k ks j j_in)))

pub alike_itself : (rows : List OpenRow) (order : List ℕ) → AreAlike rows order rows order
alike_itself rows order = record { same = refl; still = λ m are. are }

module _ (rows : List OpenRow) (row : OpenRow) (none : merges_of row ≡ []) (order : List ℕ) where
  abbrev more : List OpenRow
  more = rows ++ row ∷ []

  longer : length more ≡ length rows + 1
  longer = length-append rows (row ∷ [])

  was_at : (k : ℕ) (m : Merge) → Contains (merges_at more k) m → Contains (merges_at rows k) m
  was_at k m m_in = subst (λ l. Contains l m) (at_pushed rows row none k) m_in

  -- in no order
  pub row_added : AreAlike rows order more order
  row_added = record {
    same = flat_same (merges_at more) (merges_at rows) order (λ k _. at_pushed rows row none k);
    still = λ m are. record {
      differ = are.differ;
      within = λ k k_in. (let less = are.within k k_in in omega (arith, less, longer));
      keys_within = λ n k h. (let less = are.keys_within n k h in omega (arith, less, longer));
      placed = λ k m' m_in. are.placed k m' (was_at k m' m_in);
      told = λ k m' m_in. are.told k m' (was_at k m' m_in);
    };
  }

  -- at the end of the order
  pub row_placed : AreAlike rows order more (order ++ length rows ∷ [])
  row_placed = record {
    same = flat_map-append (merges_at more) order (length rows ∷ []) ∙ ap (λ l. flat_map (merges_at more) order ++ l) here ∙ append-nil (flat_map (merges_at more) order) ∙ row_added.same;
    still = λ m are. record {
      differ = pairs_push (λ (j k : ℕ). j ≢ k) order (length rows) are.differ (λ k k_in same. (let less = are.within k k_in in omega (arith, less, same)));
      within = λ k k_in. elim (Contains-append_cases order (length rows ∷ []) k k_in) [
        | inl was ↦ (let less = are.within k was in omega (arith, less, longer))
        | inr new ↦ (let level = contains_one (length rows) k new in omega (arith, level, longer))
      ];
      keys_within = λ n k h. (let less = are.keys_within n k h in omega (arith, less, longer));
      placed = λ k m' m_in. Contains-append_left order (length rows ∷ []) k (are.placed k m' (was_at k m' m_in));
      told = λ k m' m_in. are.told k m' (was_at k m' m_in);
    };
  }
    where
      here : flat_map (merges_at more) (length rows ∷ []) ≡ []
      here = append-nil (merges_at more (length rows)) ∙ at_pushed rows row none (length rows) ∙ ap merges_in (slice_get_past rows (length rows) (omega arith))

  there : (rs : List OpenRow) → slice_get (rs ++ row ∷ []) (length rs) ≡ Some row
  there [] = refl
  there (r ∷ rs) = there rs

  pub is_last : (x : Name) → row.greatest ≡ x → IsLastRow more (order ++ length rows ∷ []) x (length rows)
  is_last x named = record { front = order; last = refl; is_row = record { row = row; there = there rows; has_name = named } }

-- more keys of names do no harm
pub still_told : (rows : List OpenRow) (order : List ℕ) (old new : Mentions) (key : ℕ) → AreRows rows order old → key < length rows → GainsKey old new key → AreRows rows order new
still_told rows order old new key are key_in gains = record {
  differ = are.differ;
  within = are.within;
  keys_within = λ n k h. elim (gains.only n k h) [ inl was ↦ are.keys_within n k was | inr same ↦ subst (λ j. j < length rows) (sym same) key_in ];
  placed = are.placed;
  told = λ k m m_in n n_in. gains.stay n k (are.told k m m_in n n_in);
}

last_differs : (front : List ℕ) (key : ℕ) → AllPairs (λ (j k : ℕ). j ≢ k) (front ++ key ∷ []) → (k : ℕ) → Contains front k → k ≢ key
last_differs [] key differ k k_in = absurd (contains_none k k_in)
last_differs (x ∷ front) key differ k k_in =
    elim (contains_cases x front k k_in) [
      | inl here ↦ subst (λ j. j ≢ key) here (pairs_head (λ (i j : ℕ). i ≢ j) x (front ++ key ∷ []) differ key (Contains-append_right front (key ∷ []) key (contains_head key [])))
      | inr later ↦ last_differs front key (pairs_tail (λ (i j : ℕ). i ≢ j) x (front ++ key ∷ []) differ) k later
    ]

module _ (rows : List OpenRow) (order : List ℕ) (mentions : Mentions) (are : AreRows rows order mentions) (x : Name) (key : ℕ) (last : IsLastRow rows order x key) where
  key_placed : Contains order key
  key_placed = subst (λ l. Contains l key) (sym last.last) (Contains-append_right last.front (key ∷ []) key (contains_head key []))

  pub key_within : key < length rows
  key_within = are.within key key_placed

  module _ (new : List OpenRow) (m : Merge) (put : IsPutAt key m rows new) where
    pub put_view : flat_map (merges_at new) order ≡ flat_map (merges_at rows) order ++ m ∷ []
    put_view =
        let front = last.front in
        let apart = last_differs front key (subst (λ l. AllPairs (λ (j k : ℕ). j ≢ k) l) last.last are.differ) in
        ap (λ l. flat_map (merges_at new) l) last.last ∙ flat_map-append (merges_at new) front (key ∷ [])
        ∙ ap (λ l. l ++ flat_map (merges_at new) (key ∷ [])) (flat_same (merges_at new) (merges_at rows) front (λ k k_in. put.others k (apart k k_in)))
        ∙ ap (λ l. flat_map (merges_at rows) front ++ l) (append-nil (merges_at new key) ∙ put.here)
        ∙ sym (append_assoc (flat_map (merges_at rows) front) (merges_at rows key) (m ∷ []))
        ∙ ap (λ l. l ++ m ∷ []) (sym (ap (λ l. flat_map (merges_at rows) l) last.last ∙ flat_map-append (merges_at rows) front (key ∷ []) ∙ ap (λ l. flat_map (merges_at rows) front ++ l) (append-nil (merges_at rows key))))

    pub put_rows : ((n : Name) → Contains (names_of m) n → Mention mentions n key) → AreRows new order mentions
    put_rows named = record {
      differ = are.differ;
      within = λ k k_in. subst (λ l. k < l) (sym put.as_many) (are.within k k_in);
      keys_within = λ n k h. subst (λ l. k < l) (sym put.as_many) (are.keys_within n k h);
      placed = λ k t t_in. elim (nat_settles k key) [
        | inl same ↦ subst (λ j. Contains order j) (sym same) key_placed
        | inr other ↦ are.placed k t (subst (λ l. Contains l t) (put.others k other) t_in)
      ];
      told = λ k t t_in n n_in. elim (nat_settles k key) [
        | inl same ↦ subst (λ j. Mention mentions n j) (sym same) (at_key t (subst (λ l. Contains l t) (ap (λ j. merges_at new j) same ∙ put.here) t_in) n n_in)
        | inr other ↦ are.told k t (subst (λ l. Contains l t) (put.others k other) t_in) n n_in
      ];
    }
      where
        at_key : (t : Merge) → Contains (merges_at rows key ++ m ∷ []) t → (n : Name) → Contains (names_of t) n → Mention mentions n key
        at_key t t_in n n_in =
            elim (Contains-append_cases (merges_at rows key) (m ∷ []) t t_in) [
              | inl was ↦ are.told key t was n n_in
              | inr new_one ↦ named n (subst (λ u. Contains (names_of u) n) (sym (contains_one m t new_one)) n_in)
            ]

-- a row with one more triple
map_pushed : (x : Name) (ps : List LowerPair) (p : LowerPair) → map (triple_of x) (ps ++ p ∷ []) ≡ map (triple_of x) ps ++ triple_of x p ∷ []
map_pushed x [] p = refl
map_pushed x (q ∷ ps) p = ap (λ l. triple_of x q ∷ l) (map_pushed x ps p)

pub put_at : (rows : List OpenRow) (key : ℕ) (was row : OpenRow) (p : LowerPair) → key < length rows → slice_get rows key ≡ Some was → row.greatest ≡ was.greatest → row.lower_pairs.items ≡ was.lower_pairs.items ++ p ∷ []
    → IsPutAt key (triple_of was.greatest p) rows (set rows key row)
put_at rows key was row p key_in was_is same more = record {
  as_many = length-set rows key row;
  here = row_written rows key row key_in ∙ ap (λ n. map (triple_of n) row.lower_pairs.items) same ∙ ap (λ (l : List LowerPair). map (triple_of was.greatest) l) more
      ∙ map_pushed was.greatest was.lower_pairs.items p ∙ ap (λ l. l ++ triple_of was.greatest p ∷ []) (sym (ap merges_in was_is));
  others = λ k other. row_beside rows key row k other;
}

-- of the last key in order, whose row has the name
pub last_row : (rows : List OpenRow) (order : List ℕ) (x : Name) (key : ℕ) (row : OpenRow) → slice_get order (length order - 1) ≡ Some key → slice_get rows key ≡ Some row → row.greatest ≡ x → IsLastRow rows order x key
last_row rows order x key row last_is row_is named =
    elim (last_or_none order) [
      | inl none ↦ (let clash : None ≡ Some key = sym (ap (λ l. slice_get l (length l - 1)) none) ∙ last_is in absurd (cc))
      | inr (front, last, is) ↦ (
          let same : last ≡ key = same_Some last key (sym (last_pushed front last) ∙ sym (ap (λ l. slice_get l (length l - 1)) is) ∙ last_is) in
          record { front = front; last = is ∙ ap (λ k. front ++ k ∷ []) same; is_row = record { row = row; there = row_is; has_name = named } })
    ]

pub gains_then : (old mid new : Mentions) (key : ℕ) → GainsKey old mid key → GainsKey mid new key → GainsKey old new key
gains_then old mid new key first then = record {
  stay = λ n k h. then.stay n k (first.stay n k h);
  only = λ n k h. elim (then.only n k h) [ inl was ↦ first.only n k was | inr same ↦ inr same ];
}

pub all_named : (mentions : Mentions) (x y z : Name) (key : ℕ) → Mention mentions x key → Mention mentions y key → Mention mentions z key → (n : Name) → Contains (x ∷ y ∷ z ∷ []) n → Mention mentions n key
all_named mentions x y z key at_x at_y at_z n n_in =
    elim (contains_cases x (y ∷ z ∷ []) n n_in) [
      | inl is_x ↦ subst (λ l. Mention mentions l key) is_x at_x
      | inr later ↦ elim (contains_cases y (z ∷ []) n later) [
        | inl is_y ↦ subst (λ l. Mention mentions l key) is_y at_y
        | inr last ↦ subst (λ l. Mention mentions l key) (contains_one z n last) at_z
      ]
    ]

pub unchanged_at : (rows : List OpenRow) (key : ℕ) (d row : OpenRow) → key < length rows → merges_of row ≡ merges_of (get_or rows key d) → AreUnchanged rows (set rows key row)
unchanged_at rows key d row key_in same = record {
  as_many = length-set rows key row;
  each = λ k. elim (nat_settles k key) [
    | inl level ↦ subst (λ j. merges_at (set rows key row) j ≡ merges_at rows j) (sym level) (row_written rows key row key_in ∙ same ∙ sym (ap merges_in (slice_get-get_or rows key d key_in)))
    | inr other ↦ row_beside rows key row k other
  ];
}

pub still_rows : (rows new : List OpenRow) (order : List ℕ) (mentions : Mentions) → AreRows rows order mentions → AreUnchanged rows new → AreRows new order mentions
still_rows rows new order mentions are same = record {
  differ = are.differ;
  within = λ k k_in. subst (λ l. k < l) (sym same.as_many) (are.within k k_in);
  keys_within = λ n k h. subst (λ l. k < l) (sym same.as_many) (are.keys_within n k h);
  placed = λ k m m_in. are.placed k m (subst (λ l. Contains l m) (same.each k) m_in);
  told = λ k m m_in. are.told k m (subst (λ l. Contains l m) (same.each k) m_in);
}

-- a new row, at the end of the order or not there yet
module _ (rows more : List OpenRow) (order : List ℕ) (row : OpenRow) (none : merges_of row ≡ []) (more_is : more ≡ rows ++ row ∷ []) where
  pub added_alike : (order' : List ℕ) → order' ≡ order → AreAlike rows order more order'
  added_alike order' same = subst (λ l. AreAlike rows order more l) (sym same) (subst (λ rs. AreAlike rows order rs order) (sym more_is) (row_added rows row none order))

  module _ (order' : List ℕ) (key : ℕ) (key_is : key ≡ length rows) (order_is : order' ≡ order ++ key ∷ []) where
    pub placed_alike : AreAlike rows order more order'
    placed_alike =
        subst (λ l. AreAlike rows order more l) (sym (order_is ∙ ap (λ k. order ++ k ∷ []) key_is)) (subst (λ rs. AreAlike rows order rs (order ++ length rows ∷ [])) (sym more_is) (row_placed rows row none order))

    pub placed_last : IsLastRow more order' row.greatest key
    placed_last =
        subst (λ k. IsLastRow more order' row.greatest k) (sym key_is)
        (subst (λ l. IsLastRow more l row.greatest (length rows)) (sym (order_is ∙ ap (λ k. order ++ k ∷ []) key_is)) (subst (λ rs. IsLastRow rs (order ++ length rows ∷ []) row.greatest (length rows)) (sym more_is) (is_last rows row none order row.greatest refl)))

-- what was put at the end of the last row
pub put_last : (rows slice : List OpenRow) → slice ≡ rows → (order : List ℕ) (x : Name) (key : ℕ) → IsLastRow rows order x key → (p : LowerPair) (new : List OpenRow)
    → ((row : OpenRow) → slice_get slice key ≡ Some row → IsPutAt key (triple_of row.greatest p) slice new) → IsPutAt key (triple_of x p) rows new
put_last rows slice slice_is order x key last p new put =
    subst (λ rs. IsPutAt key (triple_of x p) rs new) slice_is (subst (λ n. IsPutAt key (triple_of n p) slice new) last.is_row.has_name (put last.is_row.row (ap (λ rs. slice_get rs key) slice_is ∙ last.is_row.there)))

pub written : {X : Type 0} (len : ℕ) (new old : List X) → length new ≡ len → take len (new ++ drop (length new) old) ≡ new
written len new old is = subst (λ n. take n (new ++ drop (length new) old) ≡ new) is (take_at new (drop (length new) old) (length new) refl)
