-- What stands in rows, what an heir inherits of one, and how many triples stand in all.
use Rattle.std.proofs.Common.{◌≡◌, inl, inr, refl, zero, suc, ℕ, ◌+◌, ◌-◌, ◌<◌, ◌≤◌, List, [], ◌∷◌, ◌++◌, length, get_or, take, drop, sym, subst, ◌∙◌, ap, arith, length-append}
use Rattle.std.specs.Prelude.{◌↔◌, Contains, map, slice_get}
use Rattle.std.specs.List.{flat_map}
use Rattle.std.proofs.lemmas.List.{append-nil, drop_more, take_more}
use Rattle.std.proofs.lemmas.List.Concat.{flat_map-append}
use Rattle.std.proofs.lemmas.List.Elements.{Contains-append_left, Contains-append_right, Contains-append_cases}
use Rattle.std.proofs.lemmas.Option.{slice_get-get_or}
use Rattle.sk_base.specs.declared.Name.{Name}
use Rattle.sk_base.proofs.Members.{contains_none, contains_head, contains_later, contains_cases, contains_mapped, mapped_from}
use Rattle.sk_family.specs.declared.Merge.{Merge}
use Rattle.sk_family.specs.declared.Merge.TheVariants.{Two, Three}
use Rattle.sk_family.specs.Merges.{names_of}
use Rattle.sk_triangles.specs.Growing.{FromSome}
use Rattle.sk_open_triples.specs.declared.heir.Heir.{Heir}
use Rattle.sk_open_triples.specs.declared.row.OpenRow.{OpenRow}
use Rattle.sk_open_triples.specs.declared.lower_pairs.LowerPair.{LowerPair}
use Rattle.sk_open_triples.specs.Inherited.{Inherits, IsBeside}
use Rattle.sk_open_triples.specs.OpenRows.{InheritsFrom, merges_at, merges_in, merges_of, triple_of}

pub flat_contains : {X : Type 0} (f : ℕ → List X) (ks : List ℕ) (k : ℕ) (x : X) → Contains ks k → Contains (f k) x → Contains (flat_map f ks) x
flat_contains f [] k x k_in x_in = absurd (contains_none k k_in)
flat_contains f (j ∷ ks) k x k_in x_in =
    elim (contains_cases j ks k k_in) [
      | inl here ↦ Contains-append_left (f j) (flat_map f ks) x (subst (λ i. Contains (f i) x) (sym here) x_in)
      | inr later ↦ Contains-append_right (f j) (flat_map f ks) x (flat_contains f ks k x later x_in)
    ]

pub flat_from : {X : Type 0} (f : ℕ → List X) (ks : List ℕ) (x : X) → Contains (flat_map f ks) x → (k : ℕ) × Contains ks k × Contains (f k) x
flat_from f [] x h = absurd (contains_none x h)
flat_from f (k ∷ ks) x h =
    elim (Contains-append_cases (f k) (flat_map f ks) x h) [
      | inl here ↦ (k, contains_head k ks, here)
      | inr later ↦ (let (j, j_in, x_in) = flat_from f ks x later in (j, contains_later k ks j j_in, x_in))
    ]

-- a triple that has a name names it
pub beside_names : (t : Merge) (n p q : Name) → IsBeside t n p q → Contains (names_of t) n
beside_names (Two x y) n p q none = absurd none
beside_names (Three x y z) n p q (inl (is, _, _)) = subst (λ m. Contains (x ∷ y ∷ z ∷ []) m) is (contains_head x (y ∷ z ∷ []))
beside_names (Three x y z) n p q (inr (inl (_, is, _, _))) = subst (λ m. Contains (x ∷ y ∷ z ∷ []) m) is (contains_later x (y ∷ z ∷ []) y (contains_head y (z ∷ [])))
beside_names (Three x y z) n p q (inr (inr (_, _, is, _, _))) =
    subst (λ m. Contains (x ∷ y ∷ z ∷ []) m) is (contains_later x (y ∷ z ∷ []) z (contains_later y (z ∷ []) z (contains_head z [])))

-- what the heir has instead of the triples of a row
pub inherited_by_row : (heir : Heir) (gone : List Name) (x : Name) (ps : List LowerPair) (m : Merge) → FromSome (InheritsFrom heir gone x) ps m ↔ FromSome (Inherits heir gone) (map (triple_of x) ps) m
inherited_by_row heir gone x ps m = (
  (λ (p, p_in, is). (triple_of x p, contains_mapped (triple_of x) ps p p_in, is)),
  (λ (t, t_in, is). (let (p, p_in, same) = mapped_from (triple_of x) ps t t_in in (p, p_in, subst (λ n. Inherits heir gone n m) (sym same) is))),
)

-- a place among the items of two lists
pub place_in_front : {X : Type 0} (xs ys : List X) (k : ℕ) → k < length xs → slice_get (xs ++ ys) k ≡ slice_get xs k
place_in_front [] ys k within = absurd (omega arith)
place_in_front (x ∷ xs) ys zero within = refl
place_in_front (x ∷ xs) ys (suc k) within = place_in_front xs ys k (omega arith)

pub place_behind : {X : Type 0} (xs ys : List X) (k : ℕ) → length xs ≤ k → slice_get (xs ++ ys) k ≡ slice_get ys (k - length xs)
place_behind [] ys k past = (let same : k ≡ k - 0 = omega arith in ap (λ j. slice_get ys j) same)
place_behind (x ∷ xs) ys zero past = absurd (omega arith)
place_behind (x ∷ xs) ys (suc k) past = (let same : k - length xs ≡ suc k - suc (length xs) = omega arith in place_behind xs ys k (omega arith) ∙ ap (λ j. slice_get ys j) same)

module _ {X : Type 0} (f : ℕ → List X) (ks : List ℕ) (i d : ℕ) (i_in : i < length ks) where
  split : drop i ks ≡ get_or ks i d ∷ drop (i + 1) ks
  split = drop_more ks i d i_in

  pub rest_length : length (flat_map f (drop i ks)) ≡ length (f (get_or ks i d)) + length (flat_map f (drop (i + 1) ks))
  rest_length = ap (λ l. length (flat_map f l)) split ∙ length-append (f (get_or ks i d)) (flat_map f (drop (i + 1) ks))

  pub front_length : length (flat_map f (take (i + 1) ks)) ≡ length (flat_map f (take i ks)) + length (f (get_or ks i d))
  front_length =
      ap (λ l. length (flat_map f l)) (take_more ks i d i_in) ∙ ap length (flat_map-append f (take i ks) (get_or ks i d ∷ [])) ∙ length-append (flat_map f (take i ks)) (f (get_or ks i d) ++ [])
      ∙ ap (λ l. length (flat_map f (take i ks)) + length l) (append-nil (f (get_or ks i d)))

  pub item_here : (k : ℕ) → k < length (f (get_or ks i d)) → slice_get (flat_map f (drop i ks)) k ≡ slice_get (f (get_or ks i d)) k
  item_here k within = ap (λ l. slice_get (flat_map f l) k) split ∙ place_in_front (f (get_or ks i d)) (flat_map f (drop (i + 1) ks)) k within

  pub item_later : (k : ℕ) → length (f (get_or ks i d)) ≤ k → slice_get (flat_map f (drop i ks)) k ≡ slice_get (flat_map f (drop (i + 1) ks)) (k - length (f (get_or ks i d)))
  item_later k past = ap (λ l. slice_get (flat_map f l) k) split ∙ place_behind (f (get_or ks i d)) (flat_map f (drop (i + 1) ks)) k past

pub row_of_key : (rows : List OpenRow) (key : ℕ) (d : OpenRow) → key < length rows → merges_of (get_or rows key d) ≡ merges_at rows key
row_of_key rows key d key_in = sym (ap merges_in (slice_get-get_or rows key d key_in))
