-- The derived orders of triples and of their lesser clusters are those in which they stand, and names that stand in order are searched by halves.
use Rattle.std.proofs.Common.{◌≡◌, ◌⊎◌, inl, inr, refl, Less, Equal, Greater, Ordering, Bool, true, false, ℕ, ◌+◌, List, [], length, get_or, sym, subst, ◌∙◌, ap, arith}
use Rattle.std.specs.Prelude.{◌↔◌, Contains, AllPairs, Result, Ok, Err, is_ok}
use Rattle.std.specs.Ordering.{ordering_then, ordering_index, is_lt}
use Rattle.std.specs.Cmp.{ranked}
use Rattle.std.specs.List.{dedup}
use Rattle.std.specs.List.Retain.{IsFiltered, DiffersFromLast}
use Rattle.std.specs.List.Sorted.{IsSorted, IsPermutation, IsSearchInRange, IsBinarySearchResult, IsNonDecreasingBy, IsPartitionPoint}
use Rattle.std.proofs.lemmas.List.Filters.{dedup_is}
use Rattle.std.proofs.lemmas.List.Sorted.{searchable_from_sorted}
use Rattle.std.proofs.lemmas.List.Elements.{Contains-get_or}
use Rattle.std.proofs.lemmas.Bool.{cases_lt}
use Rattle.std.proofs.lemmas.Bool.Decides.{nat_tests}
use Rattle.sk_base.specs.ClusterNames.{IsBelow, is_named}
use Rattle.sk_base.specs.declared.Name.{Name}
use Rattle.sk_base.specs.declared.Name.TheVariants.{Con, Step}
use Rattle.sk_base.specs.contracts.name.NameOrd.TheImpl as names
use Rattle.sk_base.proofs.NameOrder.{same_name}
use Rattle.sk_base.proofs.Pairs.{pairs_weaken}
use Rattle.sk_family.proofs.Naming.{below_irreflexive, among_named, named_among}
use Rattle.sk_family.proofs.Once.{once_same, once_strict, strict_pairs}
use Rattle.sk_family.specs.declared.Merge.{Merge}
use Rattle.sk_family.specs.declared.Merge.TheVariants.{Two, Three}
use Rattle.sk_family.specs.contracts.merge.MergeOrd.TheImpl as merges
use Rattle.sk_family.specs.contracts.merge.MergePartialEq.TheImpl as equal_merges
use Rattle.sk_family.specs.contracts.merge.MergeEq.TheImpl as merge_laws
use Rattle.sk_open_triples.specs.declared.lower_pairs.LowerPair.{LowerPair}
use Rattle.sk_open_triples.specs.contracts.lower_pairs.LowerPairOrd.TheImpl as ordered_pairs
use Rattle.sk_open_triples.specs.contracts.lower_pairs.LowerPairPartialEq.TheImpl as equal_pairs
use Rattle.sk_open_triples.specs.contracts.lower_pairs.LowerPairEq.TheImpl as pairs_laws
use Rattle.sk_open_triples.specs.Avoiding.{IsTriple}
use Rattle.sk_open_triples.specs.OpenRows.{AreBefore}
use Rattle.sk_open_triples.specs.MergeOrder.{ComesFirst}

name_less : (m n : Name) → names.ghosts.cmp m n ≡ Less → IsBelow m n
name_less (Con j) (Con k) h = ranked j k Less (sym h)
name_less (Con j) (Step k) h = tt
name_less (Step j) (Con k) h = absurd (cc)
name_less (Step j) (Step k) h = ranked j k Less (sym h)

name_more : (m n : Name) → names.ghosts.cmp m n ≡ Greater → IsBelow n m
name_more (Con j) (Con k) h = ranked j k Greater (sym h)
name_more (Con j) (Step k) h = absurd (cc)
name_more (Step j) (Con k) h = tt
name_more (Step j) (Step k) h = ranked j k Greater (sym h)

behind : (m n : Name) → IsBelow m n → is_lt (names.ghosts.cmp n m) ≡ false
behind (Con j) (Con k) below = grind (arith, nat_tests)
behind (Con j) (Step k) below = refl
behind (Step j) (Con k) below = absurd below
behind (Step j) (Step k) below = grind (arith, nat_tests)

-- a search by halves finds a name just where it is one of these, which stand in order
module _ (xs : List Name) (n : Name) (order : AllPairs IsBelow xs) where
  sorted : IsSorted names.ghosts.cmp xs
  sorted k d from within = behind (get_or xs k d) (get_or xs (k + 1) d) (order k (k + 1) d (omega arith) within)

  missed : (i : ℕ) → (IsNonDecreasingBy (λ (m : Name). ordering_index (names.ghosts.cmp m n)) xs → IsPartitionPoint (λ (m : Name). names.ghosts.cmp m n ≡ Less) (λ (m : Name). names.ghosts.cmp m n ≡ Greater) xs i)
      → ¬ Contains xs n
  missed i parted (k, k_in, is) =
      let point = parted (searchable_from_sorted names.Laws.total-law (λ (m : Name). m) xs n sorted) in
      elim (cases_lt k i) [
        | inl front ↦ below_irreflexive n (subst (λ m. IsBelow m n) is (name_less (get_or xs k n) n (point.0 k n (omega arith) front)))
        | inr back ↦ below_irreflexive n (subst (λ m. IsBelow n m) is (name_more (get_or xs k n) n (point.1 k n back k_in)))
      ]

  pub found_among : (r : Result ℕ ℕ) → IsSearchInRange r (length xs) → IsBinarySearchResult (λ (m : Name). names.ghosts.cmp m n) xs r → is_ok r ≡ is_named xs n
  found_among (Ok i) within found = sym (named_among xs n (subst (λ m. Contains xs m) (same_name (get_or xs i n) n (found n)) (Contains-get_or xs i n within)))
  found_among (Err i) within parted = absent (is_named xs n) refl
    where
      absent : (b : Bool) → is_named xs n ≡ b → false ≡ is_named xs n
      absent false is = sym is
      absent true is = absurd (missed i parted (among_named xs n is))

then_less : (a b : Ordering) → ordering_then a b ≡ Less → (a ≡ Less) ⊎ ((a ≡ Equal) × (b ≡ Less))
then_less Less b h = inl refl
then_less Equal b h = inr (refl, h)
then_less Greater b h = absurd (cc)

then_equal : (a b : Ordering) → ordering_then a b ≡ Equal → (a ≡ Equal) × (b ≡ Equal)
then_equal Less b h = absurd (cc)
then_equal Equal b h = (refl, h)
then_equal Greater b h = absurd (cc)

triple_less : (x y z p q r : Name) → merges.ghosts.cmp (Three x y z) (Three p q r) ≡ Less → ComesFirst (Three x y z) (Three p q r)
triple_less x y z p q r h =
    elim (then_less (names.ghosts.cmp x p) (ordering_then (names.ghosts.cmp y q) (names.ghosts.cmp z r)) h) [
      | inl first ↦ inl (name_less x p first)
      | inr (same, rest) ↦ inr (
        same_name x p same,
        elim (then_less (names.ghosts.cmp y q) (names.ghosts.cmp z r) rest) [
          | inl second ↦ inl (name_less y q second)
          | inr (level, third) ↦ inr (same_name y q level, inl (name_less z r third))
        ],
      )
    ]

merge_equal : (m n : Merge) → merges.ghosts.cmp m n ≡ Equal → m ≡ n
merge_equal (Two x y) (Two p q) h =
    let (first, second) = then_equal (names.ghosts.cmp x p) (names.ghosts.cmp y q) h in
    let x_p = same_name x p first in
    let y_q = same_name y q second in
    cc
merge_equal (Two x y) (Three p q r) h = absurd (cc)
merge_equal (Three x y z) (Two p q) h = absurd (cc)
merge_equal (Three x y z) (Three p q r) h =
    let (first, rest) = then_equal (names.ghosts.cmp x p) (ordering_then (names.ghosts.cmp y q) (names.ghosts.cmp z r)) h in
    let (second, third) = then_equal (names.ghosts.cmp y q) (names.ghosts.cmp z r) rest in
    let x_p = same_name x p first in
    let y_q = same_name y q second in
    let z_r = same_name z r third in
    cc

less_first : (m n : Merge) → IsTriple m → IsTriple n → merges.ghosts.cmp m n ≡ Less → ComesFirst m n
less_first m n (x, y, z, m_is) (p, q, r, n_is) h =
    subst (λ k. ComesFirst k n) (sym m_is) (subst (λ k. ComesFirst (Three x y z) k) (sym n_is)
    (triple_less x y z p q r (sym (ap (λ (k : Merge). merges.ghosts.cmp k (Three p q r)) m_is) ∙ sym (ap (λ (k : Merge). merges.ghosts.cmp m k) n_is) ∙ h)))

module _ (from sorted once : List Merge) (permutation : IsPermutation from sorted) (deduped : IsFiltered (DiffersFromLast equal_merges.ghosts.eq) [] sorted once) where
  once_is : once ≡ dedup equal_merges.ghosts.eq sorted
  once_is = dedup_is equal_merges.ghosts.eq sorted once deduped

  pub sorted_same : (m : Merge) → Contains once m ↔ Contains from m
  sorted_same = once_same merges.ghosts.cmp equal_merges.ghosts.eq merges.Laws.total-law merges.Laws.matches_eq-law merge_laws.Laws.laws-law merge_equal from sorted once permutation once_is

  -- two of them that are triples stand in order
  abbrev AsTriples : Merge → Merge → Type 0
  AsTriples m n = IsTriple m → IsTriple n → ComesFirst m n

  pub sorted_order : IsSorted merges.ghosts.cmp sorted → ((m : Merge) → Contains from m → IsTriple m) → AllPairs ComesFirst once
  sorted_order rises triples =
      pairs_weaken AsTriples ComesFirst once
      (strict_pairs merges.ghosts.cmp AsTriples once (λ m n less m_is n_is. less_first m n m_is n_is less)
      (once_strict merges.ghosts.cmp equal_merges.ghosts.eq merges.Laws.total-law merges.Laws.matches_eq-law merge_laws.Laws.laws-law merge_equal from sorted once permutation once_is rises))
      (λ m n m_in n_in before. before (triples m ((sorted_same m).0 m_in)) (triples n ((sorted_same n).0 n_in)))

pairs_less : (p q : LowerPair) → ordered_pairs.ghosts.cmp p q ≡ Less → AreBefore p q
pairs_less p q h =
    elim (then_less (names.ghosts.cmp p.second q.second) (names.ghosts.cmp p.third q.third) h) [
      | inl first ↦ inl (name_less p.second q.second first)
      | inr (same, rest) ↦ inr (same_name p.second q.second same, name_less p.third q.third rest)
    ]

abbrev pair : Name → Name → LowerPair
pair y z = record { second = y; third = z }

pairs_equal : (p q : LowerPair) → ordered_pairs.ghosts.cmp p q ≡ Equal → p ≡ q
pairs_equal p q h =
    let (first, rest) = then_equal (names.ghosts.cmp p.second q.second) (names.ghosts.cmp p.third q.third) h in
    ap (λ n. pair n p.third) (same_name p.second q.second first) ∙ ap (λ n. pair q.second n) (same_name p.third q.third rest)

module _ (from sorted once : List LowerPair) (permutation : IsPermutation from sorted) (deduped : IsFiltered (DiffersFromLast equal_pairs.ghosts.eq) [] sorted once) where
  once_pairs : once ≡ dedup equal_pairs.ghosts.eq sorted
  once_pairs = dedup_is equal_pairs.ghosts.eq sorted once deduped

  pub pairs_same : (p : LowerPair) → Contains once p ↔ Contains from p
  pairs_same = once_same ordered_pairs.ghosts.cmp equal_pairs.ghosts.eq ordered_pairs.Laws.total-law ordered_pairs.Laws.matches_eq-law pairs_laws.Laws.laws-law pairs_equal from sorted once permutation once_pairs

  pub pairs_order : IsSorted ordered_pairs.ghosts.cmp sorted → AllPairs AreBefore once
  pairs_order rises =
      strict_pairs ordered_pairs.ghosts.cmp AreBefore once pairs_less
      (once_strict ordered_pairs.ghosts.cmp equal_pairs.ghosts.eq ordered_pairs.Laws.total-law ordered_pairs.Laws.matches_eq-law pairs_laws.Laws.laws-law pairs_equal from sorted once permutation once_pairs rises)
