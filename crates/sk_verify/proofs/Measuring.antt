-- The first line, constraint or block that doesn't hold as claimed.
use Rattle.std.proofs.Common.{◌≡◌, inl, inr, ℕ, ◌+◌, ◌<◌, List, [], ◌∷◌, ◌++◌, length, get_or, take, refl, sym, subst}
use Rattle.std.specs.Prelude.{map, Option, Some, None}
use Rattle.std.specs.List.{flat_map}
use Rattle.std.proofs.lemmas.List.Elements.{Contains-append_cases}
use Rattle.std.proofs.lemmas.List.Concat.{flat_map_single}
use Rattle.sk_base.proofs.Members.{contains_none, contains_one}
use Rattle.sk_tolerance.specs.declared.Spotted.{Spotted}
use Rattle.sk_measure.specs.Items.{Item}
use Rattle.sk_tolerance.specs.Tolerances.{AreMerged, spotted_as, number_in}
use Rattle.sk_tolerance.specs.First.{earlier}
use Rattle.sk_tolerance.proofs.Firsts.{appended, behind, all_so_far, first_there}
use Rattle.sk_tolerance.proofs.Merging.{found_in_both}
use Rattle.sk_claims.specs.declared.Claim.{Claim}
use Rattle.sk_verify.specs.AsClaimed.{HoldsAsClaimed}
use Rattle.sk_verify.specs.Failing.{AllHoldAsClaimed, IsFirstOff}
use Rattle.sk_verify.specs.Stepping.{IsMeasured}

module _ (c : Claim) where
  abbrev Fails : Item → Type 0
  Fails item = ¬ HoldsAsClaimed c item

  excludes : (item : Item) → HoldsAsClaimed c item → ¬ Fails item
  excludes item holds fails = fails holds

  pub hold_one : (item : Item) → HoldsAsClaimed c item → AllHoldAsClaimed c (item ∷ [])
  hold_one item holds y h = subst (HoldsAsClaimed c) (contains_one item y h) holds

  pub off_one : (item : Item) (at : Spotted) → spotted_as item ≡ at → ¬ HoldsAsClaimed c item → IsFirstOff c (item ∷ []) at
  off_one item at named not = (item, record { before = []; after = []; parts = refl; has = not; none_before = λ y h. absurd (contains_none y h) }, named)

  pub off_appended : (xs ys : List Item) (at : Spotted) → IsFirstOff c xs at → IsFirstOff c (xs ++ ys) at
  off_appended xs ys at (item, first, named) = (item, appended Fails xs ys item first, named)

  pub measured_behind : (xs ys : List Item) (o : Option Spotted) → AllHoldAsClaimed c xs → IsMeasured c ys o → IsMeasured c (xs ++ ys) o
  measured_behind xs ys None all rest = λ item h. elim (Contains-append_cases xs ys item h) [ inl early ↦ all item early | inr late ↦ rest item late ]
  measured_behind xs ys (Some at) all (item, first, named) = (item, behind Fails (HoldsAsClaimed c) excludes xs ys item all first, named)

  module _ {Y : Type 0} (f : Y → List Item) (ys : List Y) (i : ℕ) (d : Y) (inside : i < length ys) where
    pub hold_more : AllHoldAsClaimed c (flat_map f (take i ys)) → AllHoldAsClaimed c (f (get_or ys i d)) → AllHoldAsClaimed c (flat_map f (take (i + 1) ys))
    hold_more early here = all_so_far Fails (HoldsAsClaimed c) excludes f ys i d inside early here

    pub off_there : (at : Spotted) → AllHoldAsClaimed c (flat_map f (take i ys)) → IsFirstOff c (f (get_or ys i d)) at → IsFirstOff c (flat_map f ys) at
    off_there at early (item, first, named) = (item, first_there Fails (HoldsAsClaimed c) excludes f ys i d inside item early first, named)

  -- of items that are looked through one by one
  module _ {Y : Type 0} (f : Y → Item) (ys : List Y) (i : ℕ) (d : Y) (inside : i < length ys) where
    as_flat : (zs : List Y) → flat_map (λ y. f y ∷ []) zs ≡ map f zs
    as_flat zs = flat_map_single f zs

    pub mapped_more : AllHoldAsClaimed c (map f (take i ys)) → HoldsAsClaimed c (f (get_or ys i d)) → AllHoldAsClaimed c (map f (take (i + 1) ys))
    mapped_more early here =
        subst (AllHoldAsClaimed c) (as_flat (take (i + 1) ys))
        (hold_more (λ y. f y ∷ []) ys i d inside (subst (AllHoldAsClaimed c) (sym (as_flat (take i ys))) early) (hold_one _ here))

    pub mapped_there : AllHoldAsClaimed c (map f (take i ys)) → ¬ HoldsAsClaimed c (f (get_or ys i d)) → (at : Spotted) → spotted_as (f (get_or ys i d)) ≡ at → IsFirstOff c (map f ys) at
    mapped_there early not at named =
        subst (λ xs. IsFirstOff c xs at) (as_flat ys)
        (off_there (λ y. f y ∷ []) ys i d inside at (subst (AllHoldAsClaimed c) (sym (as_flat (take i ys))) early) (off_one _ at named not))

  -- of two lists that are put together in order of number
  pub measured_merged : (xs ys all : List Item) → AreMerged xs ys all → (one other : Option Spotted) → IsMeasured c xs one → IsMeasured c ys other → IsMeasured c all (earlier number_in one other)
  measured_merged xs ys all merged = found_in_both (λ at. at) Fails (HoldsAsClaimed c) excludes (IsFirstOff c) (λ items at off. off) (λ items others at (item, first, named) there. (item, there, named)) xs ys all merged
