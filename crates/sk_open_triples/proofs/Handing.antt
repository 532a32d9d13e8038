-- A core's row is handed on to its heir, as the last in order, with what was found.
use Rattle.std.proofs.Common.{◌≡◌, ◌≢◌, ◌⊎◌, inl, inr, refl, ℕ, ◌<◌, Bool, true, false, cond, List, [], ◌∷◌, ◌++◌, ◌+◌, length, get_or, set, take, sym, subst, ◌∙◌, ap, arith}
use Rattle.std.specs.Prelude.{◌==◌, ◌||◌, ◌↔◌, AllPairs, Contains, map, not}
use Rattle.std.specs.List.{flat_map}
use Rattle.std.proofs.lemmas.Bool.Decides.{nat_tests}
use Rattle.std.proofs.lemmas.Option.{slice_get_within}
use Rattle.std.proofs.lemmas.List.{append-nil, length-set, take_more}
use Rattle.std.proofs.lemmas.List.Concat.{flat_map-append}
use Rattle.std.proofs.lemmas.List.Elements.{Contains-append_left, Contains-append_right, Contains-append_cases, filter-append}
use Rattle.sk_base.specs.declared.Name.{Name}
use Rattle.sk_base.specs.ClusterNames.{is_named}
use Rattle.sk_base.proofs.Members.{contains_none, contains_head, contains_later, contains_cases, contains_one, contains_filtered, contains_mapped, filtered_from, mapped_from, nat_settles}
use Rattle.sk_base.proofs.Pairs.{pairs_filter, pairs_map, pairs_push, pairs_weaken}
use Rattle.sk_family.proofs.Naming.{named_among}
use Rattle.sk_family.specs.declared.Merge.{Merge}
use Rattle.sk_family.specs.declared.Merge.TheVariants.{Three}
use Rattle.sk_family.specs.Merges.{names_of}
use Rattle.sk_triangles.specs.Growing.{FromSome, GrowsBy}
use Rattle.sk_open_triples.proofs.Writing.{row_written, row_beside}
use Rattle.sk_open_triples.specs.MergeOrder.{ComesFirst}
use Rattle.sk_open_triples.specs.Inherited.{Inherits, IsBeside}
use Rattle.sk_open_triples.specs.HandedOn.{IsAdded, IsOfHeirIn, HasGreatest}
use Rattle.sk_open_triples.specs.Avoiding.{IsTriple, avoiding, names_one_of}
use Rattle.sk_open_triples.specs.OpenRows.{AreBefore, AreRows, AreTold, GainsKey, HasLowerPair, InheritsElse, IsGrownRow, IsRowOf, Mention, but, keys_of, merges_at, merges_in, merges_of, triple_of}
use Rattle.sk_open_triples.specs.declared.heir.Heir.{Heir}
use Rattle.sk_open_triples.specs.declared.mentions.Mentions.{Mentions}
use Rattle.sk_open_triples.specs.declared.row.OpenRow.{OpenRow}
use Rattle.sk_open_triples.specs.declared.lower_pairs.LowerPair.{LowerPair}
use Rattle.sk_open_triples.proofs.Dropping.{row_goes}
use Rattle.sk_open_triples.proofs.Inheritance.{beside_names, flat_contains, flat_from}
use Rattle.sk_open_triples.proofs.Inherited.{one_beside}
use Rattle.sk_open_triples.proofs.Pushing.{flat_same}

equal_by : (k key : ℕ) → (k == key) ≡ true → k ≡ key
equal_by k key is = grind (arith, nat_tests)

differs_by : (k key : ℕ) → not (k == key) ≡ true → k ≢ key
differs_by k key h same = grind (arith, nat_tests)

stays_by : (k key : ℕ) → k ≢ key → not (k == key) ≡ true
stays_by k key other = grind (arith, nat_tests)

-- the keys but for one
module _ (key : ℕ) where
  but_from : (ks : List ℕ) (k : ℕ) → Contains (but key ks) k → Contains ks k × (k ≢ key)
  but_from ks k h = (let (was, stays) = filtered_from (λ (j : ℕ). not (j == key)) ks k h in (was, differs_by k key stays))

  but_has : (ks : List ℕ) (k : ℕ) → Contains ks k → k ≢ key → Contains (but key ks) k
  but_has ks k k_in other = contains_filtered (λ (j : ℕ). not (j == key)) ks k k_in (stays_by k key other)

  -- where all under the key names a gone cluster, what is left without it is the same
  left_out : (gone : List Name) (f : ℕ → List Merge) → avoiding gone (f key) ≡ [] → (ks : List ℕ) → avoiding gone (flat_map f (but key ks)) ≡ avoiding gone (flat_map f ks)
  left_out gone f none [] = refl
  left_out gone f none (k ∷ ks) = told (k == key) refl (left_out gone f none ks)
    where
      parts : (js : List ℕ) → avoiding gone (f k ++ flat_map f js) ≡ avoiding gone (f k) ++ avoiding gone (flat_map f js)
      parts js = filter-append (λ (m : Merge). not (names_one_of gone m)) (f k) (flat_map f js)

      told : (b : Bool) → (k == key) ≡ b → avoiding gone (flat_map f (but key ks)) ≡ avoiding gone (flat_map f ks)
          → avoiding gone (flat_map f (cond (not b) (k ∷ but key ks) (but key ks))) ≡ avoiding gone (f k ++ flat_map f ks)
      told true is rest = rest ∙ sym (parts ks ∙ ap (λ l. l ++ avoiding gone (flat_map f ks)) (ap (λ j. avoiding gone (f j)) (equal_by k key is) ∙ none))
      told false is rest = parts (but key ks) ∙ ap (λ l. avoiding gone (f k) ++ l) rest ∙ sym (parts ks)

-- what avoids the gone names none of them
not_gone : (gone : List Name) (x y z : Name) → names_one_of gone (Three x y z) ≡ false → ¬ Contains gone y × ¬ Contains gone z
not_gone gone x y z is = (
  (λ y_in. told (is_named gone x) (is_named gone y) (is_named gone z) is (inl (named_among gone y y_in))),
  (λ z_in. told (is_named gone x) (is_named gone y) (is_named gone z) is (inr (named_among gone z z_in))),
)
  where
    told : (a b c : Bool) → (a || (b || c)) ≡ false → ¬ ((b ≡ true) ⊎ (c ≡ true))
    told true b c h one = absurd (cc)
    told false true c h one = absurd (cc)
    told false false true h one = absurd (cc)
    told false false false h (inl one) = absurd (cc)
    told false false false h (inr one) = absurd (cc)

-- what the heir has instead of the core's triples under other keys
pub inherited_else : (rows : List OpenRow) (order : List ℕ) (mentions : Mentions) → AreRows rows order mentions → (key : ℕ) (heir : Heir) (gone : List Name) (m : Merge)
    → FromSome (InheritsElse rows key heir gone) (keys_of mentions heir.core) m ↔ FromSome (Inherits heir gone) (flat_map (merges_at rows) (but key order)) m
inherited_else rows order mentions are key heir gone m = (
  (λ (k, k_in, (other, (t, t_in, is))). (t, flat_contains (merges_at rows) (but key order) k t (but_has key order k (are.placed k t t_in) other) t_in, is)),
  (λ (t, t_in, (p, q, beside, p_stays, q_stays, is)). (
      let (k, k_in, t_at) = flat_from (merges_at rows) (but key order) t t_in in
      (k, are.told k t t_at heir.core (beside_names t heir.core p q beside), ((but_from key order k k_in).1, (t, t_at, (p, q, beside, p_stays, q_stays, is)))))),
)

module _ (rows : List OpenRow) (order : List ℕ) (mentions : Mentions) (are : AreRows rows order mentions) (heir : Heir) (key : ℕ) (key_in : key < length rows) (of_core : IsRowOf rows heir.core key)
    (found all : List Merge) (row : OpenRow) (grown : IsGrownRow heir.name of_core.row.lower_pairs.items all row) where
  abbrev own : List LowerPair
  own = of_core.row.lower_pairs.items

  abbrev rest : List Merge
  rest = flat_map (merges_at rows) (but key order)

  abbrev new : List OpenRow
  new = set rows key row

  abbrev order' : List ℕ
  order' = but key order ++ key ∷ []

  -- the core's triples
  row_is : merges_at rows key ≡ map (triple_of heir.core) own
  row_is = ap merges_in of_core.there ∙ ap (λ n. map (triple_of n) own) of_core.has_name

  at_key : merges_at new key ≡ merges_of row
  at_key = row_written rows key row key_in

  at_other : (k : ℕ) → k ≢ key → merges_at new k ≡ merges_at rows k
  at_other k other = row_beside rows key row k other

  pub handed_view : flat_map (merges_at new) order' ≡ rest ++ merges_of row
  handed_view =
      flat_map-append (merges_at new) (but key order) (key ∷ [])
      ∙ ap (λ l. l ++ flat_map (merges_at new) (key ∷ [])) (flat_same (merges_at new) (merges_at rows) (but key order) (λ k k_in. at_other k (but_from key order k k_in).1))
      ∙ ap (λ l. rest ++ l) (append-nil (merges_at new key) ∙ at_key)

  module _ (gone : List Name) (core_gone : Contains gone heir.core) (grows : GrowsBy (FromSome (Inherits heir gone) rest) found all) where
    abbrev old : List Merge
    old = flat_map (merges_at rows) order

    had : (m : Merge) → Contains old m → Contains rest m ⊎ Contains (map (triple_of heir.core) own) m
    had m m_in =
        let (k, k_in, m_at) = flat_from (merges_at rows) order m m_in in
        elim (nat_settles k key) [
          | inl same ↦ inr (subst (λ l. Contains l m) (ap (λ j. merges_at rows j) same ∙ row_is) m_at)
          | inr other ↦ inl (flat_contains (merges_at rows) (but key order) k m (but_has key order k k_in other) m_at)
        ]

    rest_in : (m : Merge) → Contains rest m → Contains old m
    rest_in m m_in = (let (k, k_in, m_at) = flat_from (merges_at rows) (but key order) m m_in in flat_contains (merges_at rows) order k m (but_from key order k k_in).0 m_at)

    own_in : (p : LowerPair) → Contains own p → Contains old (triple_of heir.core p)
    own_in p p_in =
        let at = subst (λ l. Contains l (triple_of heir.core p)) (sym row_is) (contains_mapped (triple_of heir.core) own p p_in) in
        flat_contains (merges_at rows) order key (triple_of heir.core p) (are.placed key (triple_of heir.core p) at) at

    to_heir : (m : Merge) → names_one_of gone m ≡ false → Contains (merges_of row) m → IsOfHeirIn heir gone found old m
    to_heir m stays m_in =
        elim ((grown.exactly m).0 m_in) [
          | inl of_own ↦ (
              let (p, p_in, same) = mapped_from (triple_of heir.name) own m of_own in
              let (y_stays, z_stays) = not_gone gone heir.name p.second p.third (ap (λ t. names_one_of gone t) same ∙ stays) in
              inl (triple_of heir.core p, own_in p p_in, (p.second, p.third, inl (refl, refl, refl), y_stays, z_stays, sym same)))
          | inr in_all ↦ elim ((grows m).0 in_all) [
            | inl was ↦ inr was
            | inr (t, t_in, is) ↦ inl (t, rest_in t t_in, is)
          ]
        ]

    from_own : (t m : Merge) → Contains (map (triple_of heir.core) own) t → Inherits heir gone t m → Contains (map (triple_of heir.name) own) m
    from_own t m t_in (p, q, beside, p_stays, q_stays, m_is) =
        let (r, r_in, same) = mapped_from (triple_of heir.core) own t t_in in
        let (r_p, r_q) = one_beside (triple_of heir.core r) heir.core r.second r.third p q (inl (refl, refl, refl)) (subst (λ (u : Merge). IsBeside u heir.core p q) (sym same) beside) in
        subst (λ (u : Merge). Contains (map (triple_of heir.name) own) u)
        (ap (λ n. Three heir.name n r.third) r_p ∙ ap (λ n. Three heir.name p n) r_q ∙ sym m_is)
        (contains_mapped (triple_of heir.name) own r r_in)

    from_heir : (m : Merge) → IsOfHeirIn heir gone found old m → Contains (merges_of row) m
    from_heir m (inr was) = (grown.exactly m).1 (inr ((grows m).1 (inl was)))
    from_heir m (inl (t, t_in, is)) =
        elim (had t t_in) [
          | inl elsewhere ↦ (grown.exactly m).1 (inr ((grows m).1 (inr (t, elsewhere, is))))
          | inr of_own ↦ (grown.exactly m).1 (inl (from_own t m of_own is))
        ]

    gone_row : avoiding gone (merges_at rows key) ≡ []
    gone_row = ap (λ ms. avoiding gone ms) row_is ∙ row_goes gone heir.core (named_among gone heir.core core_gone) own

    pub handed_added : IsAdded gone (IsOfHeirIn heir gone found old) old (rest ++ merges_of row)
    handed_added = record {
      rest = rest;
      last = merges_of row;
      parts = refl;
      left = left_out key gone (merges_at rows) gone_row order;
      in_order = grown.in_order;
      exactly = λ m stays. (to_heir m stays, from_heir m);
    }

  module _ (mentions' : Mentions) (gains : GainsKey mentions mentions' key) (named : Mention mentions' heir.name key) (told : AreTold mentions' key all) where
    still_in : (k : ℕ) → k < length rows → k < length new
    still_in k less = subst (λ n. k < n) (sym (length-set rows key row)) less

    own_told : (p : LowerPair) → Contains own p → (n : Name) → Contains (names_of (triple_of heir.name p)) n → Mention mentions' n key
    own_told p p_in n n_in =
        elim (contains_cases heir.name (p.second ∷ p.third ∷ []) n n_in) [
          | inl is_name ↦ subst (λ l. Mention mentions' l key) is_name named
          | inr later ↦ gains.stay n key (are.told key (triple_of heir.core p)
              (subst (λ l. Contains l (triple_of heir.core p)) (sym row_is) (contains_mapped (triple_of heir.core) own p p_in)) n (contains_later heir.core (p.second ∷ p.third ∷ []) n later))
        ]

    row_told : (m : Merge) → Contains (merges_of row) m → (n : Name) → Contains (names_of m) n → Mention mentions' n key
    row_told m m_in n n_in =
        elim ((grown.exactly m).0 m_in) [
          | inl of_own ↦ (let (p, p_in, same) = mapped_from (triple_of heir.name) own m of_own in own_told p p_in n (subst (λ (u : Merge). Contains (names_of u) n) (sym same) n_in))
          | inr in_all ↦ told m in_all n n_in
        ]

    pub handed_rows : AreRows new order' mentions'
    handed_rows = record {
      differ = pairs_push (λ (j k : ℕ). j ≢ k) (but key order) key (pairs_filter (λ (j k : ℕ). j ≢ k) (λ (j : ℕ). not (j == key)) order are.differ) (λ k k_in. (but_from key order k k_in).1);
      within = λ k k_in. elim (Contains-append_cases (but key order) (key ∷ []) k k_in) [
        | inl was ↦ still_in k (are.within k (but_from key order k was).0)
        | inr last ↦ subst (λ j. j < length new) (contains_one key k last) (still_in key key_in)
      ];
      keys_within = λ n k h. elim (gains.only n k h) [ inl was ↦ still_in k (are.keys_within n k was) | inr same ↦ subst (λ j. j < length new) (sym same) (still_in key key_in) ];
      placed = λ k m m_in. elim (nat_settles k key) [
        | inl same ↦ subst (λ j. Contains order' j) (sym same) (Contains-append_right (but key order) (key ∷ []) key (contains_head key []))
        | inr other ↦ Contains-append_left (but key order) (key ∷ []) k (but_has key order k (are.placed k m (subst (λ l. Contains l m) (at_other k other) m_in)) other)
      ];
      told = λ k m m_in n n_in. elim (nat_settles k key) [
        | inl same ↦ subst (λ j. Mention mentions' n j) (sym same) (row_told m (subst (λ l. Contains l m) (ap (λ j. merges_at new j) same ∙ at_key) m_in) n n_in)
        | inr other ↦ gains.stay n k (are.told k m (subst (λ l. Contains l m) (at_other k other) m_in) n n_in)
      ];
    }

pub row_within : (rows : List OpenRow) (x : Name) (key : ℕ) → IsRowOf rows x key → key < length rows
row_within rows x key of_name = slice_get_within rows key of_name.row of_name.there

-- pairs in order, under one name
pub under_name : (x : Name) (ps : List LowerPair) → AllPairs AreBefore ps → AllPairs ComesFirst (map (triple_of x) ps)
under_name x ps order = pairs_map ComesFirst (triple_of x) ps (pairs_weaken AreBefore (λ p q. ComesFirst (triple_of x p) (triple_of x q)) ps order (λ p q p_in q_in before. comes p q before))
  where
    comes : (p q : LowerPair) → AreBefore p q → ComesFirst (triple_of x p) (triple_of x q)
    comes p q (inl second) = inr (refl, inl second)
    comes p q (inr (level, third)) = inr (refl, inr (level, inl third))

-- the pairs of a row and of what was found, under one name
pub grown_same : (x : Name) (ps all ordered : List LowerPair) (found : List Merge) → ((m : Merge) → Contains found m → HasGreatest x m) → GrowsBy (FromSome HasLowerPair found) ps all
    → ((p : LowerPair) → Contains ordered p ↔ Contains all p) → (m : Merge) → Contains (map (triple_of x) ordered) m ↔ (Contains (map (triple_of x) ps) m ⊎ Contains found m)
grown_same x ps all ordered found right grows same m = (
  (λ h. (
      let (p, p_in, is) = mapped_from (triple_of x) ordered m h in
      elim ((grows p).0 ((same p).0 p_in)) [
        | inl was ↦ inl (subst (λ (u : Merge). Contains (map (triple_of x) ps) u) is (contains_mapped (triple_of x) ps p was))
        | inr (t, t_in, (n, t_is)) ↦ inr (subst (λ (u : Merge). Contains found u) (renamed t t_in n p t_is ∙ is) t_in)
      ])),
  (λ h. elim h [
    | inl was ↦ (let (p, p_in, is) = mapped_from (triple_of x) ps m was in subst (λ (u : Merge). Contains (map (triple_of x) ordered) u) is (contains_mapped (triple_of x) ordered p ((same p).1 ((grows p).1 (inl p_in)))))
    | inr in_found ↦ (
        let (y, z, m_is) = right m in_found in
        let p : LowerPair = record { second = y; third = z } in
        subst (λ (u : Merge). Contains (map (triple_of x) ordered) u) (sym m_is) (contains_mapped (triple_of x) ordered p ((same p).1 ((grows p).1 (inr (m, in_found, (x, m_is)))))))
  ]),
)
  where
    renamed : (t : Merge) → Contains found t → (n : Name) (p : LowerPair) → t ≡ triple_of n p → t ≡ triple_of x p
    renamed t t_in n p t_is =
        let (y, z, is) = right t t_in in
        let both : Three n p.second p.third ≡ Three x y z = sym t_is ∙ is in
        let level : n ≡ x = cc in
        t_is ∙ ap (λ k. Three k p.second p.third) level

-- a triple has two other clusters
abbrev pair : Name → Name → LowerPair
pair y z = record { second = y; third = z }

pub one_pairs : (m : Merge) (p q : LowerPair) → HasLowerPair m p → HasLowerPair m q → p ≡ q
one_pairs m p q (x, p_is) (y, q_is) =
    let both : Three x p.second p.third ≡ Three y q.second q.third = sym p_is ∙ q_is in
    let second : p.second ≡ q.second = cc in
    let third : p.third ≡ q.third = cc in
    ap (λ n. pair n p.third) second ∙ ap (λ n. pair q.second n) third

-- triples whose names have the key
pub told_none : (mentions : Mentions) (key : ℕ) (ms : List Merge) → AreTold mentions key (take 0 ms)
told_none mentions key ms m m_in = absurd (contains_none m m_in)

pub told_more : (mentions mentions' : Mentions) (key : ℕ) (ms : List Merge) (i : ℕ) (d : Merge) → i < length ms → GainsKey mentions mentions' key
    → ((n : Name) → Contains (names_of (get_or ms i d)) n → Mention mentions' n key) → AreTold mentions key (take i ms) → AreTold mentions' key (take (i + 1) ms)
told_more mentions mentions' key ms i d i_in gains named told m m_in n n_in =
    elim (Contains-append_cases (take i ms) (get_or ms i d ∷ []) m (subst (λ l. Contains l m) (take_more ms i d i_in) m_in)) [
      | inl was ↦ gains.stay n key (told m was n n_in)
      | inr last ↦ named n (subst (λ (t : Merge). Contains (names_of t) n) (sym (contains_one (get_or ms i d) m last)) n_in)
    ]

pub triples_of : (x : Name) (ms : List Merge) → ((m : Merge) → Contains ms m → HasGreatest x m) → (m : Merge) → Contains ms m → IsTriple m
triples_of x ms right m m_in = (let (y, z, is) = right m m_in in (x, y, z, is))

-- what was found, with what the heir inherits, are triples of the heir
pub still_right : (heir : Heir) (gone : List Name) (rows : List OpenRow) (key : ℕ) (ks : List ℕ) (found all : List Merge) → ((m : Merge) → Contains found m → HasGreatest heir.name m)
    → GrowsBy (FromSome (InheritsElse rows key heir gone) ks) found all → (m : Merge) → Contains all m → HasGreatest heir.name m
still_right heir gone rows key ks found all right grows m m_in =
    elim ((grows m).0 m_in) [
      | inl was ↦ right m was
      | inr (k, k_in, (other, (t, t_in, (p, q, beside, p_stays, q_stays, is)))) ↦ (p, q, is)
    ]
