-- A pass along clusters in order, with the names of some of them side by side.
use Rattle.std.proofs.Common.{◌≡◌, refl, true, false, Bool, ℕ, suc, ◌+◌, ◌<◌, ◌≤◌, List, [], ◌∷◌, ◌++◌, length, length-drop, get_or, take, drop, drop-cons, add-one, append-nil, ap, sym, subst, ◌∙◌, cond, arith}
use Rattle.std.specs.Prelude.{AllPairs, Contains, Some, map, not, filter, slice_get, ◌↔◌}
use Rattle.std.specs.List.{swap}
use Rattle.std.proofs.lemmas.List.{take_more, length-take, get_or-take, get_or-drop, ext_get_or}
use Rattle.std.proofs.lemmas.List.Edits.{Swapped, swapped_from_swap, length-swap}
use Rattle.std.proofs.lemmas.List.Elements.{filter-append, filter_agree}
use Rattle.std.proofs.lemmas.Option.{slice_get-get_or, slice_get_within, get_or_from_slice_get}
use Rattle.sk_base.specs.declared.Name.{Name}
use Rattle.sk_base.specs.ClusterNames.{IsBelow, is_named}
use Rattle.sk_base.proofs.Filters.{same_tests}
use Rattle.sk_base.proofs.Members.{contains_head, contains_mapped, contains_filtered, filtered_from, mapped_from}
use Rattle.sk_base.proofs.Pairs.{pairs_head, pairs_filter, pairs_map, pairs_same}
use Rattle.sk_base.proofs.Splits.{pairs_drop}
use Rattle.sk_family.specs.declared.cluster.Cluster.{Cluster}
use Rattle.sk_family.specs.Clusters.{ByName, named, unnamed}
use Rattle.sk_family.specs.Joining.{AreNamesOf}
use Rattle.sk_family.proofs.Naming.{among_named, named_among, below_irreflexive, below_asymmetric, below_differs}

abbrev pub names_of : List Cluster → List Name
names_of clusters = map (λ (c : Cluster). c.name) clusters

-- names in order, each of a cluster, are those of the clusters that they name
pub are_names : (names : List Name) (clusters : List Cluster) → AllPairs IsBelow names → AllPairs ByName clusters → ((n : Name) → Contains names n → (c : Cluster) × Contains clusters c × (c.name ≡ n)) → AreNamesOf names clusters
are_names names clusters rise by_name live =
    pairs_same IsBelow below_irreflexive below_asymmetric names (names_of (named names clusters)) rise
    (pairs_map IsBelow (λ (c : Cluster). c.name) (named names clusters) (pairs_filter ByName (λ (c : Cluster). is_named names c.name) clusters by_name))
    (λ n n_in. (
    let (c, c_in, is) = live n n_in in
    subst (λ m. Contains (names_of (named names clusters)) m) is
    (contains_mapped (λ (d : Cluster). d.name) (named names clusters) c
    (contains_filtered (λ (d : Cluster). is_named names d.name) clusters c c_in (named_among names c.name (subst (λ m. Contains names m) (sym is) n_in))))))
    (λ n h. (
    let (c, c_in, is) = mapped_from (λ (d : Cluster). d.name) (named names clusters) n h in
    subst (λ m. Contains names m) is (among_named names c.name (filtered_from (λ (d : Cluster). is_named names d.name) clusters c c_in).1)))

-- the same names in another order name the same clusters
module _ (a b : List Name) (same : (n : Name) → Contains a n ↔ Contains b n) where
  pub alike : (n : Name) → is_named a n ≡ is_named b n
  alike n = same_tests (is_named a n) (is_named b n) (λ h. named_among b n ((same n).0 (among_named a n h))) (λ h. named_among a n ((same n).1 (among_named b n h)))

  pub named_alike : (clusters : List Cluster) → named a clusters ≡ named b clusters
  named_alike clusters = filter_agree (λ (c : Cluster). is_named a c.name) (λ (c : Cluster). is_named b c.name) (λ c. alike c.name) clusters

  pub unnamed_alike : (clusters : List Cluster) → unnamed a clusters ≡ unnamed b clusters
  unnamed_alike clusters = filter_agree (λ (c : Cluster). not (is_named a c.name)) (λ (c : Cluster). not (is_named b c.name)) (λ c. ap not (alike c.name)) clusters

-- a cluster at the end that has none of the names
module _ (names : List Name) (clusters : List Cluster) (last : Cluster) (apart : is_named names last.name ≡ false) where
  pub names_before : AreNamesOf names clusters → AreNamesOf names (clusters ++ last ∷ [])
  names_before are =
      let none : named names (last ∷ []) ≡ [] = ap (λ b. cond b (last ∷ []) []) apart in
      are ∙ ap names_of (sym (filter-append (λ (c : Cluster). is_named names c.name) clusters (last ∷ []) ∙ ap (λ cs. named names clusters ++ cs) none ∙ append-nil (named names clusters)))

  pub last_stays : unnamed names (clusters ++ last ∷ []) ≡ unnamed names clusters ++ last ∷ []
  last_stays =
      let stays : unnamed names (last ∷ []) ≡ last ∷ [] = ap (λ b. cond b (last ∷ []) []) (ap not apart) in
      filter-append (λ (c : Cluster). not (is_named names c.name)) clusters (last ∷ []) ∙ ap (λ cs. unnamed names clusters ++ cs) stays

-- one step: the next cluster has the next name, or none of the names
module _ (names : List Name) (clusters : List Cluster) (by_name : AllPairs ByName clusters) (i place : ℕ) (d : Cluster) (i_in : i < length clusters)
    (so_far : drop place names ≡ names_of (named names (drop i clusters))) where
  abbrev here : Cluster
  here = get_or clusters i d

  abbrev rest : List Cluster
  rest = drop (i + 1) clusters

  pub record Takes : Type 0 where
    pub within : place < length names
    pub left : drop (place + 1) names ≡ names_of (named names rest)
    pub gained : named names (take (i + 1) clusters) ≡ named names (take i clusters) ++ here ∷ []
    pub kept : unnamed names (take (i + 1) clusters) ≡ unnamed names (take i clusters)

  pub record Passes : Type 0 where
    pub left : drop place names ≡ names_of (named names rest)
    pub gained : named names (take (i + 1) clusters) ≡ named names (take i clusters)
    pub kept : unnamed names (take (i + 1) clusters) ≡ unnamed names (take i clusters) ++ here ∷ []

  split : drop i clusters ≡ here ∷ rest
  split = rw add-one (drop-cons clusters i d i_in)

  left_here : drop place names ≡ names_of (named names (here ∷ rest))
  left_here = so_far ∙ ap (λ cs. names_of (named names cs)) split

  module _ (p : Cluster → Bool) where
    more : filter p (take (i + 1) clusters) ≡ filter p (take i clusters) ++ cond (p here) (here ∷ []) []
    more = ap (λ cs. filter p cs) (take_more clusters i d i_in) ∙ filter-append p (take i clusters) (here ∷ [])

    more_true : p here ≡ true → filter p (take (i + 1) clusters) ≡ filter p (take i clusters) ++ here ∷ []
    more_true is = more ∙ ap (λ b. filter p (take i clusters) ++ cond b (here ∷ []) []) is

    more_false : p here ≡ false → filter p (take (i + 1) clusters) ≡ filter p (take i clusters)
    more_false is = more ∙ ap (λ b. filter p (take i clusters) ++ cond b (here ∷ []) []) is ∙ append-nil (filter p (take i clusters))

  module _ (is : is_named names here.name ≡ true) where
    left_named : drop place names ≡ here.name ∷ names_of (named names rest)
    left_named = left_here ∙ ap (λ b. names_of (cond b (here ∷ named names rest) (named names rest))) is

    within_named : place < length names
    within_named = omega (arith, length-drop place names, ap (λ (ns : List Name). length ns) left_named)

    both : get_or names place here.name ∷ drop (place + 1) names ≡ here.name ∷ names_of (named names rest)
    both = sym (rw add-one (drop-cons names place here.name within_named)) ∙ left_named

    found_named : slice_get names place ≡ Some here.name
    found_named = (let first : get_or names place here.name ≡ here.name = cc (both) in slice_get-get_or names place here.name within_named ∙ ap Some first)

    takes_named : Takes
    takes_named = record {
      within = within_named;
      left = cc (both);
      gained = more_true (λ (c : Cluster). is_named names c.name) is;
      kept = more_false (λ (c : Cluster). not (is_named names c.name)) (ap not is);
    }

  module _ (is : is_named names here.name ≡ false) where
    left_unnamed : drop place names ≡ names_of (named names rest)
    left_unnamed = left_here ∙ ap (λ b. names_of (cond b (here ∷ named names rest) (named names rest))) is

    lost_unnamed : slice_get names place ≡ Some here.name → ⊥
    lost_unnamed found =
        let within : place < length names = slice_get_within names place here.name found in
        let first : drop place names ≡ here.name ∷ drop (suc place) names = drop-cons names place here.name within ∙ ap (λ n. n ∷ drop (suc place) names) (get_or_from_slice_get names place here.name here.name found) in
        let among : Contains (names_of (named names rest)) here.name = subst (λ ns. Contains ns here.name) (sym first ∙ left_unnamed) (contains_head here.name (drop (suc place) names)) in
        let (c, c_in, named) = mapped_from (λ (e : Cluster). e.name) (named names rest) here.name among in
        let (c_rest, c_named) = filtered_from (λ (e : Cluster). is_named names e.name) rest c c_in in
        let pairs : AllPairs ByName (here ∷ rest) = subst (λ cs. AllPairs ByName cs) split (pairs_drop ByName i clusters by_name) in
        below_differs here.name c.name (pairs_head ByName here rest pairs c c_rest) (sym named)

    passes_unnamed : Passes
    passes_unnamed = record {
      left = left_unnamed;
      gained = more_false (λ (c : Cluster). is_named names c.name) is;
      kept = more_true (λ (c : Cluster). not (is_named names c.name)) (ap not is);
    }

  pub takes : slice_get names place ≡ Some here.name → Takes
  takes found = told (is_named names here.name) refl
    where
      told : (b : Bool) → is_named names here.name ≡ b → Takes
      told true is = takes_named is
      told false is = absurd (lost_unnamed is found)

  pub passes : (slice_get names place ≡ Some here.name → ⊥) → Passes
  passes lost = told (is_named names here.name) refl
    where
      told : (b : Bool) → is_named names here.name ≡ b → Passes
      told true is = absurd (lost (found_named is))
      told false is = passes_unnamed is

-- an item exchanged with one in front of it: the front grows by it, and what is behind it stays
module _ {X : Type 0} (xs : List X) (i j : ℕ) (d : X) (order : i ≤ j) (j_in : j < length xs) where
  swapped : Swapped (λ k. get_or xs k d) (λ k. get_or (swap xs i j) k d) i j
  swapped = swapped_from_swap xs (swap xs i j) i j d (omega arith) j_in refl

  pub front_swapped : take (i + 1) (swap xs i j) ≡ take i xs ++ get_or xs j d ∷ []
  front_swapped =
      let long = length-swap xs i j in
      let same : take i (swap xs i j) ≡ take i xs =
      ext_get_or d (take i (swap xs i j)) (take i xs) (omega (arith, long, length-take i (swap xs i j), length-take i xs))
      (λ k k_in. (
      let k_i : k < i = omega (arith, k_in, length-take i (swap xs i j)) in
      get_or-take i (swap xs i j) k d k_i ∙ swapped.2 k (λ e. omega arith) (λ e. omega arith) ∙ sym (get_or-take i xs k d k_i))) in
      take_more (swap xs i j) i d (omega (arith, long)) ∙ ap (λ l. l ++ get_or (swap xs i j) i d ∷ []) same ∙ ap (λ x. take i xs ++ x ∷ []) swapped.0

  pub back_swapped : drop (j + 1) (swap xs i j) ≡ drop (j + 1) xs
  back_swapped =
      let long = length-swap xs i j in
      ext_get_or d (drop (j + 1) (swap xs i j)) (drop (j + 1) xs) (omega (arith, long, length-drop (j + 1) (swap xs i j), length-drop (j + 1) xs))
      (λ k k_in. get_or-drop (j + 1) (swap xs i j) k d ∙ swapped.2 (j + 1 + k) (λ e. omega arith) (λ e. omega arith) ∙ sym (get_or-drop (j + 1) xs k d))

-- lists that are the same from a place on have the same item there
module _ {X : Type 0} (xs ys : List X) (i : ℕ) (d : X) (same : drop i xs ≡ drop i ys) (x_in : i < length xs) (y_in : i < length ys) where
  both_next : get_or xs i d ∷ drop (i + 1) xs ≡ get_or ys i d ∷ drop (i + 1) ys
  both_next =
      let first : drop i xs ≡ get_or xs i d ∷ drop (i + 1) xs = rw add-one (drop-cons xs i d x_in) in
      let second : drop i ys ≡ get_or ys i d ∷ drop (i + 1) ys = rw add-one (drop-cons ys i d y_in) in
      sym first ∙ same ∙ second

  pub same_here : get_or xs i d ≡ get_or ys i d
  same_here = cc (both_next)

  pub same_behind : drop (i + 1) xs ≡ drop (i + 1) ys
  same_behind = cc (both_next)
