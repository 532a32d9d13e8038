-- What names a gone cluster is taken out of the rows that its keys tell.
use Rattle.std.proofs.Common.{◌≡◌, ◌≢◌, inl, inr, refl, ℕ, ◌+◌, ◌<◌, ◌≤◌, Bool, true, false, cond, List, [], ◌∷◌, ◌++◌, length, get_or, set, take, sym, subst, ◌∙◌, ap}
use Rattle.std.specs.Prelude.{◌↔◌, ◌||◌, ◌&&◌, Contains, filter, map, not}
use Rattle.std.specs.List.{flat_map}
use Rattle.std.proofs.lemmas.List.{take_all, take_more, length-set}
use Rattle.std.proofs.lemmas.List.Elements.{Contains-append_left, Contains-append_right, Contains-append_cases, filter-append}
use Rattle.sk_base.specs.declared.Name.{Name}
use Rattle.sk_base.specs.ClusterNames.{is_named}
use Rattle.sk_base.proofs.Filters.{filter_keeps, filter_both}
use Rattle.sk_base.proofs.Members.{contains_none, contains_head, contains_later, contains_one, filtered_from, nat_settles}
use Rattle.sk_family.proofs.Naming.{among_named}
use Rattle.sk_family.specs.declared.Merge.{Merge}
use Rattle.sk_family.specs.declared.Merge.TheVariants.{Two, Three}
use Rattle.sk_family.specs.Merges.{names_of}
use Rattle.std.proofs.lemmas.Option.{slice_get-get_or}
use Rattle.std.proofs.Math.Dec.{eqb}
use Rattle.std.specs.List.{dedup}
use Rattle.std.specs.List.Retain.{IsFiltered, DiffersFromLast}
use Rattle.std.specs.List.Sorted.{IsPermutation}
use Rattle.std.proofs.lemmas.List.Filters.{dedup_is}
use Rattle.std.proofs.lemmas.List.Kept.{Contains-dedup_nat, Contains-from_dedup}
use Rattle.std.proofs.lemmas.List.Sorted.{Contains-permutation, IsPermutation-sym}
use Rattle.sk_triangles.specs.Growing.{FromSome, GrowsBy}
use Rattle.sk_triangles.proofs.Growing.{grows_step}
use Rattle.sk_open_triples.proofs.Writing.{row_written, row_beside}
use Rattle.sk_open_triples.specs.declared.mentions.Mentions.{Mentions}
use Rattle.sk_open_triples.specs.declared.row.OpenRow.{OpenRow}
use Rattle.sk_open_triples.specs.declared.lower_pairs.LowerPair.{LowerPair}
use Rattle.sk_open_triples.specs.Avoiding.{names_one_of, avoiding}
use Rattle.sk_open_triples.specs.OpenRows.{AreDropped, AreRows, IsDroppedAt, Mention, keys_of, merges_at, merges_in, merges_of, triple_of}

-- in a row
module _ (gone : List Name) (x : Name) where
  pub row_goes : is_named gone x ≡ true → (ps : List LowerPair) → avoiding gone (map (triple_of x) ps) ≡ []
  row_goes goes [] = refl
  row_goes goes (p ∷ ps) = told (is_named gone x) (is_named gone p.second || is_named gone p.third) goes (row_goes goes ps)
    where
      told : (a b : Bool) → a ≡ true → avoiding gone (map (triple_of x) ps) ≡ [] → cond (not (a || b)) (triple_of x p ∷ avoiding gone (map (triple_of x) ps)) (avoiding gone (map (triple_of x) ps)) ≡ []
      told true b is rest = rest
      told false b is rest = absurd (cc)

  pub row_stays : is_named gone x ≡ false → (ps : List LowerPair)
      → avoiding gone (map (triple_of x) ps) ≡ map (triple_of x) (filter (λ (p : LowerPair). not (is_named gone p.second || is_named gone p.third)) ps)
  row_stays stays [] = refl
  row_stays stays (p ∷ ps) = told (is_named gone x) (is_named gone p.second || is_named gone p.third) stays (row_stays stays ps)
    where
      left : List LowerPair
      left = filter (λ (q : LowerPair). not (is_named gone q.second || is_named gone q.third)) ps

      told : (a b : Bool) → a ≡ false → avoiding gone (map (triple_of x) ps) ≡ map (triple_of x) left
          → cond (not (a || b)) (triple_of x p ∷ avoiding gone (map (triple_of x) ps)) (avoiding gone (map (triple_of x) ps)) ≡ map (triple_of x) (cond (not b) (p ∷ left) left)
      told true b is rest = absurd (cc)
      told false true is rest = rest
      told false false is rest = ap (λ ms. triple_of x p ∷ ms) rest

-- what avoids the names avoids them again
avoids_again : (gone : List Name) (ms : List Merge) → avoiding gone (avoiding gone ms) ≡ avoiding gone ms
avoids_again gone ms = sym (filter_both (λ (m : Merge). not (names_one_of gone m)) (λ (m : Merge). not (names_one_of gone m)) (λ (m : Merge). not (names_one_of gone m)) (λ m. told (names_one_of gone m)) ms)
  where
    told : (a : Bool) → not a ≡ (not a && not a)
    told true = refl
    told false = refl

pub dropped_none : (gone : List Name) (keys : List ℕ) (rows : List OpenRow) → AreDropped gone (take 0 keys) rows rows
dropped_none gone keys rows = record { as_many = refl; each = λ k. inr (refl, contains_none k) }

-- a row that is written anew changes what stands under its key alone
module _ (rows : List OpenRow) (key : ℕ) (was row : OpenRow) (key_in : key < length rows) where
  pub row_there : merges_of (get_or rows key was) ≡ merges_at rows key
  row_there = sym (ap merges_in (slice_get-get_or rows key was key_in))

  pub dropped_at : (gone : List Name) → merges_of row ≡ avoiding gone (merges_of (get_or rows key was)) → IsDroppedAt gone key rows (set rows key row)
  dropped_at gone row_is = record {
    as_many = length-set rows key row;
    here = row_written rows key row key_in ∙ row_is ∙ ap (λ ms. avoiding gone ms) row_there;
    others = λ k other. row_beside rows key row k other;
  }

pub dropped_more : (gone : List Name) (keys : List ℕ) (old mid new : List OpenRow) (i d : ℕ) → i < length keys → IsDroppedAt gone (get_or keys i d) mid new → AreDropped gone (take i keys) old mid
    → AreDropped gone (take (i + 1) keys) old new
dropped_more gone keys old mid new i d i_in one so_far = record {
  as_many = one.as_many ∙ so_far.as_many;
  each = λ k. elim (nat_settles k (get_or keys i d)) [
    | inl same ↦ inl (subst (λ j. merges_at new j ≡ avoiding gone (merges_at old j)) (sym same) here)
    | inr other ↦ elim (so_far.each k) [
      | inl done ↦ inl (one.others k other ∙ done)
      | inr (as_was, apart) ↦ inr (one.others k other ∙ as_was, apart_still k other apart)
    ]
  ];
}
  where
    here : merges_at new (get_or keys i d) ≡ avoiding gone (merges_at old (get_or keys i d))
    here = elim (so_far.each (get_or keys i d)) [
      | inl done ↦ one.here ∙ ap (λ ms. avoiding gone ms) done ∙ avoids_again gone (merges_at old (get_or keys i d))
      | inr (as_was, _) ↦ one.here ∙ ap (λ ms. avoiding gone ms) as_was
    ]

    apart_still : (k : ℕ) → k ≢ get_or keys i d → ¬ Contains (take i keys) k → ¬ Contains (take (i + 1) keys) k
    apart_still k other apart h =
        elim (Contains-append_cases (take i keys) (get_or keys i d ∷ []) k (subst (λ l. Contains l k) (take_more keys i d i_in) h)) [
          | inl before ↦ apart before
          | inr last ↦ other (sym (contains_one (get_or keys i d) k last))
        ]

pub dropped_all : (gone : List Name) (keys : List ℕ) (old new : List OpenRow) (i : ℕ) → length keys ≤ i → AreDropped gone (take i keys) old new → AreDropped gone keys old new
dropped_all gone keys old new i over so_far = subst (λ l. AreDropped gone l old new) (take_all i keys over) so_far

-- a merge that names a gone cluster has its name
names_some : (gone : List Name) (m : Merge) → names_one_of gone m ≡ true → (n : Name) × Contains (names_of m) n × Contains gone n
names_some gone (Two x y) is = told (is_named gone x) (is_named gone y) refl refl is
  where
    told : (a b : Bool) → is_named gone x ≡ a → is_named gone y ≡ b → (a || b) ≡ true → (n : Name) × Contains (x ∷ y ∷ []) n × Contains gone n
    told true b a_is b_is h = (x, contains_head x (y ∷ []), among_named gone x a_is)
    told false true a_is b_is h = (y, contains_later x (y ∷ []) y (contains_head y []), among_named gone y b_is)
    told false false a_is b_is h = absurd (cc)
names_some gone (Three x y z) is = told (is_named gone x) (is_named gone y) (is_named gone z) refl refl refl is
  where
    told : (a b c : Bool) → is_named gone x ≡ a → is_named gone y ≡ b → is_named gone z ≡ c → (a || (b || c)) ≡ true → (n : Name) × Contains (x ∷ y ∷ z ∷ []) n × Contains gone n
    told true b c a_is b_is c_is h = (x, contains_head x (y ∷ z ∷ []), among_named gone x a_is)
    told false true c a_is b_is c_is h = (y, contains_later x (y ∷ z ∷ []) y (contains_head y (z ∷ [])), among_named gone y b_is)
    told false false true a_is b_is c_is h = (z, contains_later x (y ∷ z ∷ []) z (contains_later y (z ∷ []) z (contains_head z [])), among_named gone z c_is)
    told false false false a_is b_is c_is h = absurd (cc)

-- the keys of the gone names tell all that names them
module _ (gone : List Name) (old new : List OpenRow) (order : List ℕ) (mentions : Mentions) (are : AreRows old order mentions) (keys : List ℕ)
    (keys_are : (k : ℕ) → Contains keys k ↔ FromSome (Mention mentions) gone k) (dropped : AreDropped gone keys old new) where
  untold : (k : ℕ) → ¬ Contains keys k → (m : Merge) → Contains (merges_at old k) m → not (names_one_of gone m) ≡ true
  untold k apart m m_in = told (names_one_of gone m) refl
    where
      told : (b : Bool) → names_one_of gone m ≡ b → not b ≡ true
      told false is = refl
      told true is = (let (n, n_in, n_gone) = names_some gone m is in absurd (apart ((keys_are k).1 (n, n_gone, are.told k m m_in n n_in))))

  pub each_avoids : (k : ℕ) → merges_at new k ≡ avoiding gone (merges_at old k)
  each_avoids k =
      elim (dropped.each k) [
        | inl done ↦ done
        | inr (as_was, apart) ↦ as_was ∙ sym (filter_keeps (λ (m : Merge). not (names_one_of gone m)) (merges_at old k) (untold k apart))
      ]

  along : (ks : List ℕ) → flat_map (merges_at new) ks ≡ avoiding gone (flat_map (merges_at old) ks)
  along [] = refl
  along (k ∷ ks) =
      ap (λ ms. ms ++ flat_map (merges_at new) ks) (each_avoids k) ∙ ap (λ ms. avoiding gone (merges_at old k) ++ ms) (along ks)
      ∙ sym (filter-append (λ (m : Merge). not (names_one_of gone m)) (merges_at old k) (flat_map (merges_at old) ks))

  pub all_avoid : flat_map (merges_at new) order ≡ avoiding gone (flat_map (merges_at old) order)
  all_avoid = along order

  was_there : (k : ℕ) (m : Merge) → Contains (merges_at new k) m → Contains (merges_at old k) m
  was_there k m m_in = (filtered_from (λ (n : Merge). not (names_one_of gone n)) (merges_at old k) m (subst (λ l. Contains l m) (each_avoids k) m_in)).0

  pub rows_left : AreRows new order mentions
  rows_left = record {
    differ = are.differ;
    within = λ k k_in. subst (λ n. k < n) (sym dropped.as_many) (are.within k k_in);
    keys_within = λ n k h. subst (λ l. k < l) (sym dropped.as_many) (are.keys_within n k h);
    placed = λ k m m_in. are.placed k m (was_there k m m_in);
    told = λ k m m_in. are.told k m (was_there k m m_in);
  }

-- numbers that were sorted, each once
pub once_as_before : (from sorted once : List ℕ) → IsPermutation from sorted → IsFiltered (DiffersFromLast eqb) [] sorted once → (k : ℕ) → Contains once k ↔ Contains from k
once_as_before from sorted once permutation deduped k = (
  (λ h. Contains-permutation sorted from k (IsPermutation-sym from sorted permutation) (Contains-from_dedup eqb sorted k (subst (λ l. Contains l k) once_is h))),
  (λ h. subst (λ l. Contains l k) (sym once_is) (Contains-dedup_nat sorted k (Contains-permutation from sorted k permutation h))),
)
  where
    once_is : once ≡ dedup eqb sorted
    once_is = dedup_is eqb sorted once deduped

-- the keys of some names
pub keys_more : (mentions : Mentions) (names : List Name) (old mid new : List ℕ) (i : ℕ) (d : Name) → i < length names → GrowsBy (FromSome (Mention mentions) (take i names)) old mid
    → new ≡ mid ++ keys_of mentions (get_or names i d) → GrowsBy (FromSome (Mention mentions) (take (i + 1) names)) old new
keys_more mentions names old mid new i d i_in so_far new_is =
    grows_step (Mention mentions) names old mid new i d i_in so_far (λ k. (
      (λ h. Contains-append_cases mid (keys_of mentions (get_or names i d)) k (subst (λ l. Contains l k) new_is h)),
      (λ h. subst (λ l. Contains l k) (sym new_is) (elim h [
        | inl was ↦ Contains-append_left mid (keys_of mentions (get_or names i d)) k was
        | inr is ↦ Contains-append_right mid (keys_of mentions (get_or names i d)) k is
      ])),
    ))

pub keys_told : (mentions : Mentions) (names : List Name) (none all once : List ℕ) → none ≡ [] → GrowsBy (FromSome (Mention mentions) names) none all → ((k : ℕ) → Contains once k ↔ Contains all k)
    → (k : ℕ) → Contains once k ↔ FromSome (Mention mentions) names k
keys_told mentions names none all once none_is grows same k = (
  (λ h. elim ((grows k).0 ((same k).0 h)) [ inl was ↦ absurd (contains_none k (subst (λ l. Contains l k) none_is was)) | inr is ↦ is ]),
  (λ h. (same k).1 ((grows k).1 (inr h))),
)

-- such keys are keys of rows
pub keys_of_rows : (gone : List Name) (rows : List OpenRow) (order : List ℕ) (mentions : Mentions) → AreRows rows order mentions → (keys : List ℕ) → ((k : ℕ) → Contains keys k ↔ FromSome (Mention mentions) gone k)
    → (k : ℕ) → Contains keys k → k < length rows
keys_of_rows gone rows order mentions are keys keys_are k k_in = (let (n, n_in, mention) = (keys_are k).0 k_in in are.keys_within n k mention)
