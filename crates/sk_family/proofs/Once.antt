-- What a sort and a `dedup` leave: each item once, in order.
use Rattle.std.proofs.Common.{◌≡◌, Less, Equal, Greater, Ordering, Bool, true, refl, ℕ, ◌<◌, ◌==◌, List, [], sym, subst, ◌∙◌}
use Rattle.std.specs.Prelude.{◌↔◌, Contains, AllPairs}
use Rattle.std.specs.Ordering.{eq_by_cmp, is_eq, nat_cmp}
use Rattle.std.specs.Cmp.{ranked, unsigned_ties, IsTotalOrder, IsEquivalence}
use Rattle.std.specs.List.{dedup}
use Rattle.std.specs.List.Retain.{IsFiltered, DiffersFromLast}
use Rattle.std.specs.List.Sorted.{IsStrictlySortedBy, IsSorted, IsSortedByKey, IsPermutation}
use Rattle.std.proofs.lemmas.Cmp.{nat_cmp_total, nat_eq_equiv}
use Rattle.std.proofs.lemmas.List.Filters.{dedup_is}
use Rattle.std.proofs.lemmas.List.Kept.{IsStrictlySortedBy-dedup, Contains-dedup, Contains-from_dedup}
use Rattle.std.proofs.lemmas.List.Sorted.{Contains-permutation, IsPermutation-sym}
use Rattle.std.proofs.lemmas.Map.Keys.{Less-from_sorted}
use Rattle.sk_base.specs.Rising.{IsRising}
use Rattle.sk_base.specs.declared.Name.{Name}
use Rattle.sk_base.specs.declared.Name.TheVariants.{Con, Step}
use Rattle.sk_base.specs.ClusterNames.{IsBelow}
use Rattle.sk_base.specs.contracts.name.NameOrd.TheImpl as names
use Rattle.sk_base.specs.contracts.name.NamePartialEq.TheImpl as equal_names
use Rattle.sk_base.specs.contracts.name.NameEq.TheImpl as name_laws
use Rattle.sk_base.proofs.NameOrder.{same_name}

is_equal : (o : Ordering) → is_eq o ≡ true → o ≡ Equal
is_equal Less e = absurd (cc)
is_equal Equal e = refl
is_equal Greater e = absurd (cc)

-- a strict order by a comparison is one by what `Less` gives
pub strict_pairs : {X : Type 0} (R : X → X → Ordering) (S : X → X → Type 0) (xs : List X) → ((x y : X) → R x y ≡ Less → S x y) → IsStrictlySortedBy R xs → AllPairs S xs
strict_pairs R S xs less strict i j d i_j j_in = less _ _ (Less-from_sorted R xs i j d strict i_j j_in)

module _ {X : Type 0} (R : X → X → Ordering) (E : X → X → Bool) (total : IsTotalOrder R) (ties : (x y : X) → E x y ≡ eq_by_cmp R x y) (equivalence : IsEquivalence E)
    (exact : (x y : X) → R x y ≡ Equal → x ≡ y) (from sorted once : List X) (permutation : IsPermutation from sorted) (once_is : once ≡ dedup E sorted) where
  pub once_same : (x : X) → Contains once x ↔ Contains from x
  once_same x = (
    (λ h. Contains-permutation sorted from x (IsPermutation-sym from sorted permutation) (Contains-from_dedup E sorted x (subst (λ l. Contains l x) once_is h))),
    (λ h. subst (λ l. Contains l x) (sym once_is)
        (Contains-dedup equivalence (λ y z e. exact y z (is_equal (R y z) (sym (ties y z) ∙ e))) sorted x (Contains-permutation from sorted x permutation h))),
  )

  pub once_strict : IsSorted R sorted → IsStrictlySortedBy R once
  once_strict rises = subst (λ l. IsStrictlySortedBy R l) (sym once_is) (IsStrictlySortedBy-dedup total ties sorted rises)

name_less : (m n : Name) → names.ghosts.cmp m n ≡ Less → IsBelow m n
name_less (Con j) (Con k) h = ranked j k Less (sym h)
name_less (Con j) (Step k) h = tt
name_less (Step j) (Con k) h = absurd (cc)
name_less (Step j) (Step k) h = ranked j k Less (sym h)

module _ (from sorted once : List Name) (permutation : IsPermutation from sorted) (deduped : IsFiltered (DiffersFromLast equal_names.ghosts.eq) [] sorted once) where
  pub names_same : (n : Name) → Contains once n ↔ Contains from n
  names_same =
      once_same names.ghosts.cmp equal_names.ghosts.eq names.Laws.total-law names.Laws.matches_eq-law name_laws.Laws.laws-law same_name from sorted once permutation
      (dedup_is equal_names.ghosts.eq sorted once deduped)

  pub names_order : IsSorted names.ghosts.cmp sorted → AllPairs IsBelow once
  names_order rises =
      strict_pairs names.ghosts.cmp IsBelow once name_less
      (once_strict names.ghosts.cmp equal_names.ghosts.eq names.Laws.total-law names.Laws.matches_eq-law name_laws.Laws.laws-law same_name from sorted once permutation
      (dedup_is equal_names.ghosts.eq sorted once deduped) rises)

-- the same of items by their numbers
module _ {X : Type 0} (number : X → ℕ) (exact : (x y : X) → number x ≡ number y → x ≡ y) (from sorted once : List X) (permutation : IsPermutation from sorted)
    (once_is : once ≡ dedup (λ x y. number x == number y) sorted) where
  abbrev by_number : X → X → Ordering
  by_number x y = nat_cmp (number x) (number y)

  abbrev alike : X → X → Bool
  alike x y = number x == number y

  total : IsTotalOrder by_number
  total = record {
    antisymm = λ x y. nat_cmp_total.antisymm (number x) (number y);
    trans = λ x y z. nat_cmp_total.trans (number x) (number y) (number z);
    congr = λ x y z. nat_cmp_total.congr (number x) (number y) (number z);
  }

  equivalence : IsEquivalence alike
  equivalence = record {
    refl = λ x. nat_eq_equiv.refl (number x);
    symm = λ x y. nat_eq_equiv.symm (number x) (number y);
    congr = λ x y z. nat_eq_equiv.congr (number x) (number y) (number z);
  }

  ties : (x y : X) → alike x y ≡ eq_by_cmp by_number x y
  ties x y = unsigned_ties (number x) (number y)

  pub numbers_same : (x : X) → Contains from x ↔ Contains once x
  numbers_same x =
      (let same = once_same by_number alike total ties equivalence (λ y z e. exact y z (ranked (number y) (number z) Equal (sym e))) from sorted once permutation once_is x in (same.1, same.0))

  pub numbers_rise : IsSortedByKey number nat_cmp sorted → IsRising number once
  numbers_rise rises =
      strict_pairs by_number (λ x y. number x < number y) once (λ x y e. ranked (number x) (number y) Less (sym e))
      (once_strict by_number alike total ties equivalence (λ y z e. exact y z (ranked (number y) (number z) Equal (sym e))) from sorted once permutation once_is rises)
