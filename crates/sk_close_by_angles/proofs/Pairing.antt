-- Merges in rows, one for each greater cluster.
use Rattle.std.proofs.Common.{◌≡◌, ◌≢◌, inl, inr, ℕ, zero, suc, ◌+◌, ◌-◌, ◌<◌, ◌≤◌, Bool, true, false, cond, List, [], ◌∷◌, ◌++◌, refl, ap, sym, subst, ◌∙◌, arith, length, get_or, take, drop, length-append}
use Rattle.std.specs.Prelude.{All, AllPairs, Contains, filter, map, not, remove, slice_get, Some, ◌||◌, ◌&&◌}
use Rattle.std.specs.List.{flat_map}
use Rattle.std.proofs.lemmas.List.{length-map, length-take-le, take_at, drop_at, take_more, drop_more, get_or_at}
use Rattle.std.proofs.lemmas.List.Concat.{flat_map-append}
use Rattle.std.proofs.lemmas.List.Folds.{length-flat_map-take}
use Rattle.std.proofs.lemmas.List.Elements.{All-nil, All-cons, filter-append}
use Rattle.std.proofs.lemmas.Option.{same_Some}
use Rattle.sk_base.specs.declared.Name.{Name}
use Rattle.sk_base.specs.ClusterNames.{IsBelow, is_named, name_eq}
use Rattle.sk_base.proofs.Filters.{filter_keeps, filter_both}
use Rattle.sk_base.proofs.Members.{contains_mapped, contains_one}
use Rattle.sk_base.proofs.Pairs.{pairs_none, pairs_tail, pairs_head, pairs_cons}
use Rattle.sk_base.proofs.Splits.{pairs_take, pairs_drop}
use Rattle.sk_family.proofs.Naming.{below_irreflexive, below_differs, unnamed_true, named_among}
use Rattle.sk_neighbours.proofs.Holding.{in_list}
use Rattle.sk_family.specs.declared.Merge.{Merge}
use Rattle.sk_family.specs.declared.Merge.TheVariants.{Two}
use Rattle.sk_open_triples.specs.MergeOrder.{ComesFirst}
use Rattle.sk_open_triples.specs.Avoiding.{names_one_of, avoiding}
use Rattle.sk_close_by_angles.specs.declared.pairs.Partners.{Partners}
use Rattle.sk_close_by_angles.specs.MergeRows.{merges_of, merges_with, names_but, without}

-- merges are dropped row by row
module _ (gone : List Name) where
  row_stays : (x : Name) → is_named gone x ≡ false → (ns : List Name) → avoiding gone (merges_with x ns) ≡ merges_with x (names_but gone ns)
  row_stays x stays [] = refl
  row_stays x stays (n ∷ ns) = told (is_named gone x) (is_named gone n) stays (row_stays x stays ns)
    where
      told : (a b : Bool) → a ≡ false → avoiding gone (merges_with x ns) ≡ merges_with x (names_but gone ns)
          → cond (not (a || b)) (Two x n ∷ avoiding gone (merges_with x ns)) (avoiding gone (merges_with x ns)) ≡ merges_with x (cond (not b) (n ∷ names_but gone ns) (names_but gone ns))
      told true b is rest = absurd (cc)
      told false true is rest = rest
      told false false is rest = ap (λ ms. Two x n ∷ ms) rest

  row_goes : (x : Name) → is_named gone x ≡ true → (ns : List Name) → avoiding gone (merges_with x ns) ≡ []
  row_goes x goes [] = refl
  row_goes x goes (n ∷ ns) = told (is_named gone x) (is_named gone n) goes (row_goes x goes ns)
    where
      told : (a b : Bool) → a ≡ true → avoiding gone (merges_with x ns) ≡ [] → cond (not (a || b)) (Two x n ∷ avoiding gone (merges_with x ns)) (avoiding gone (merges_with x ns)) ≡ []
      told true b is rest = rest
      told false b is rest = absurd (cc)

  abbrev stays : Partners → Bool
  stays p = not (is_named gone p.greater)

  pub rows_avoid : (rows : List Partners) → flat_map merges_of (map (without gone) (filter stays rows)) ≡ avoiding gone (flat_map merges_of rows)
  rows_avoid [] = refl
  rows_avoid (p ∷ rows) = told (is_named gone p.greater) refl (rows_avoid rows) ∙ sym (filter-append (λ (m : Merge). not (names_one_of gone m)) (merges_of p) (flat_map merges_of rows))
    where
      told : (a : Bool) → is_named gone p.greater ≡ a → flat_map merges_of (map (without gone) (filter stays rows)) ≡ avoiding gone (flat_map merges_of rows)
          → flat_map merges_of (map (without gone) (cond (not a) (p ∷ filter stays rows) (filter stays rows))) ≡ avoiding gone (merges_of p) ++ avoiding gone (flat_map merges_of rows)
      told true is rest = rest ∙ ap (λ ms. ms ++ avoiding gone (flat_map merges_of rows)) (sym (row_goes p.greater is p.lessers))
      told false is rest =
          ap (λ ms. merges_of (without gone p) ++ ms) rest ∙ ap (λ ms. ms ++ avoiding gone (flat_map merges_of rows)) (sym (row_stays p.greater is p.lessers))

-- in each row of merges in order the names rise
lesser_below : (x m n : Name) → ComesFirst (Two x m) (Two x n) → IsBelow m n
lesser_below x m n (inl below) = absurd (below_irreflexive x below)
lesser_below x m n (inr (same, inl below)) = below
lesser_below x m n (inr (same, inr (level, never))) = absurd never

row_rises : (x : Name) (ns : List Name) → AllPairs ComesFirst (merges_with x ns) → AllPairs IsBelow ns
row_rises x [] order = pairs_none IsBelow
row_rises x (n ∷ ns) order =
    pairs_cons IsBelow n ns (row_rises x ns (pairs_tail ComesFirst (Two x n) (merges_with x ns) order))
    (λ m m_in. lesser_below x n m (pairs_head ComesFirst (Two x n) (merges_with x ns) order (Two x m) (contains_mapped (λ (k : Name). Two x k) ns m m_in)))

module _ {X : Type 0} (R : X → X → Type 0) (xs ys : List X) (order : AllPairs R (xs ++ ys)) where
  in_front : AllPairs R xs
  in_front = subst (λ zs. AllPairs R zs) (take_at xs ys (length xs) refl) (pairs_take R (length xs) (xs ++ ys) order)

  behind : AllPairs R ys
  behind = subst (λ zs. AllPairs R zs) (drop_at xs ys (length xs) refl) (pairs_drop R (length xs) (xs ++ ys) order)

pub rows_rise : (rows : List Partners) → AllPairs ComesFirst (flat_map merges_of rows) → All (λ (p : Partners). AllPairs IsBelow p.lessers) rows
rows_rise [] order = All-nil (λ (p : Partners). AllPairs IsBelow p.lessers)
rows_rise (p ∷ rows) order =
    All-cons (λ (q : Partners). AllPairs IsBelow q.lessers) p rows
    (row_rises p.greater p.lessers (in_front ComesFirst (merges_of p) (flat_map merges_of rows) order))
    (rows_rise rows (behind ComesFirst (merges_of p) (flat_map merges_of rows) order))

-- of a list in order, of which just one item fails a test, that item is taken out
module _ {X : Type 0} (R : X → X → Type 0) (p : X → Bool) (x : X) (fails : p x ≡ false) (before : (y : X) → R y x → p y ≡ true) (after : (y : X) → R x y → p y ≡ true) where
  one_taken : (xs : List X) (i : ℕ) → AllPairs R xs → slice_get xs i ≡ Some x → remove xs i ≡ filter p xs
  one_taken [] i order at = absurd (cc)
  one_taken (y ∷ ys) zero order at =
      let is : y ≡ x = same_Some y x at in
      sym (ap (λ b. cond b (y ∷ filter p ys) (filter p ys)) (ap p is ∙ fails) ∙ filter_keeps p ys (λ z z_in. after z (subst (λ w. R w z) is (pairs_head R y ys order z z_in))))
  one_taken (y ∷ ys) (suc i) order at =
      ap (λ l. y ∷ l) (one_taken ys i (pairs_tail R y ys order) at)
      ∙ sym (ap (λ b. cond b (y ∷ filter p ys) (filter p ys)) (before y (pairs_head R y ys order x (in_list ys i x at))))

module _ (ns : List Name) (name : Name) where
  differs : (n : Name) → n ≢ name → not (is_named (name ∷ []) n) ≡ true
  differs n other = unnamed_true (name ∷ []) n (λ h. other (sym (contains_one name n h)))

  pub name_taken : AllPairs IsBelow ns → (i : ℕ) → slice_get ns i ≡ Some name → remove ns i ≡ names_but (name ∷ []) ns
  name_taken rise i at =
      one_taken IsBelow (λ (n : Name). not (is_named (name ∷ []) n)) name (ap not (named_among (name ∷ []) name (0, omega arith, refl)))
      (λ n below. differs n (below_differs n name below)) (λ n above. differs n (λ same. below_differs name n above (sym same))) ns i rise at

  pub name_absent : is_named ns name ≡ false → ns ≡ names_but (name ∷ []) ns
  name_absent absent =
      sym (filter_keeps (λ (n : Name). not (is_named (name ∷ []) n)) ns (λ n n_in. differs n (λ same. (let is = named_among ns name (subst (λ m. Contains ns m) same n_in) in absurd (cc)))))

pub both_dropped : (x y : Name) (ns mid new : List Name) → mid ≡ names_but (x ∷ []) ns → new ≡ names_but (y ∷ []) mid → new ≡ names_but (x ∷ y ∷ []) ns
both_dropped x y ns mid new mid_is new_is =
    new_is ∙ ap (λ l. names_but (y ∷ []) l) mid_is
    ∙ sym (filter_both (λ (n : Name). not (is_named (x ∷ []) n)) (λ (n : Name). not (is_named (y ∷ []) n)) (λ (n : Name). not (is_named (x ∷ y ∷ []) n)) (λ n. told (name_eq x n) (name_eq y n)) ns)
  where
    told : (a b : Bool) → not (a || (b || false)) ≡ (not (a || false) && not (b || false))
    told true b = refl
    told false true = refl
    told false false = refl

-- what a walk that changes each item has not come to yet
pub still_there : {X : Type 0} (f : X → X) (xs ys : List X) (i : ℕ) (d : X) → i < length xs → ys ≡ map f (take i xs) ++ drop i xs → get_or ys i d ≡ get_or xs i d
still_there f xs ys i d i_in is =
    ap (λ l. get_or l i d) (is ∙ ap (λ l. map f (take i xs) ++ l) (drop_more xs i d i_in))
    ∙ get_or_at (map f (take i xs)) (get_or xs i d) (drop (i + 1) xs) d i (length-map (take i xs) f ∙ length-take-le i xs (omega arith))

-- a place among the merges of a row and those behind it
front_get : (x : Name) (ns : List Name) (rest : List Merge) (k : ℕ) (d : Name) → k < length ns → slice_get (merges_with x ns ++ rest) k ≡ Some (Two x (get_or ns k d))
front_get x [] rest k d within = absurd (omega arith)
front_get x (n ∷ ns) rest zero d within = refl
front_get x (n ∷ ns) rest (suc k) d within = front_get x ns rest k d (omega arith)

back_get : (x : Name) (ns : List Name) (rest : List Merge) (k : ℕ) → length ns ≤ k → slice_get (merges_with x ns ++ rest) k ≡ slice_get rest (k - length ns)
back_get x [] rest k past = (let same : k ≡ k - 0 = omega arith in ap (λ j. slice_get rest j) same)
back_get x (n ∷ ns) rest zero past = absurd (omega arith)
back_get x (n ∷ ns) rest (suc k) past = (let same : k - length ns ≡ suc k - suc (length ns) = omega arith in back_get x ns rest k (omega arith) ∙ ap (λ j. slice_get rest j) same)

-- the next of some rows
module _ (rows : List Partners) (i : ℕ) (row : Partners) (i_in : i < length rows) (is : row ≡ get_or rows i row) where
  split : drop i rows ≡ row ∷ drop (i + 1) rows
  split = drop_more rows i row i_in ∙ ap (λ p. p ∷ drop (i + 1) rows) (sym is)

  pub rest_length : length (flat_map merges_of (drop i rows)) ≡ length row.lessers + length (flat_map merges_of (drop (i + 1) rows))
  rest_length =
      ap (λ l. length (flat_map merges_of l)) split ∙ length-append (merges_of row) (flat_map merges_of (drop (i + 1) rows))
      ∙ ap (λ n. n + length (flat_map merges_of (drop (i + 1) rows))) (length-map row.lessers (λ (n : Name). Two row.greater n))

  pub front_length : length (flat_map merges_of (take (i + 1) rows)) ≡ length (flat_map merges_of (take i rows)) + length row.lessers
  front_length =
      ap (λ l. length (flat_map merges_of l)) (take_more rows i row i_in ∙ ap (λ p. take i rows ++ p ∷ []) (sym is))
      ∙ ap length (flat_map-append merges_of (take i rows) (row ∷ [])) ∙ length-append (flat_map merges_of (take i rows)) (merges_of row ++ [])
      ∙ ap (λ n. length (flat_map merges_of (take i rows)) + n)
      (let one = length-append (merges_of row) [] in let all = length-map row.lessers (λ (n : Name). Two row.greater n) in omega (arith, one, all))

  pub front_within : length (flat_map merges_of (take i rows)) + length row.lessers ≤ length (flat_map merges_of rows)
  front_within =
      let most = length-flat_map-take merges_of rows i row i_in in
      let long : length (merges_of (get_or rows i row)) ≡ length row.lessers = ap (λ p. length (merges_of p)) (sym is) ∙ length-map row.lessers (λ (n : Name). Two row.greater n) in
      omega (arith, most, long)

  pub merge_here : (k : ℕ) (d : Name) → k < length row.lessers → slice_get (flat_map merges_of (drop i rows)) k ≡ Some (Two row.greater (get_or row.lessers k d))
  merge_here k d within = ap (λ l. slice_get (flat_map merges_of l) k) split ∙ front_get row.greater row.lessers (flat_map merges_of (drop (i + 1) rows)) k d within

  pub merge_later : (k : ℕ) → length row.lessers ≤ k → slice_get (flat_map merges_of (drop i rows)) k ≡ slice_get (flat_map merges_of (drop (i + 1) rows)) (k - length row.lessers)
  merge_later k past = ap (λ l. slice_get (flat_map merges_of l) k) split ∙ back_get row.greater row.lessers (flat_map merges_of (drop (i + 1) rows)) k past
