-- Two or three names that differ have one merge.
use Rattle.std.proofs.Common.{◌≡◌, ◌≢◌, ◌⊎◌, inl, inr, ◌<◌, ℕ, Bool, true, false, List, [], ◌∷◌, refl, sym, ap, subst, ◌∙◌, arith}
use Rattle.std.specs.Prelude.{Contains, ◌||◌}
use Rattle.std.proofs.lemmas.Bool.Decides.{nat_tests}
use Rattle.sk_base.specs.declared.Name.{Name}
use Rattle.sk_base.specs.declared.Name.TheVariants.{Con, Step}
use Rattle.sk_base.specs.ClusterNames.{IsBelow, name_eq, is_named}
use Rattle.sk_base.proofs.Members.{contains_head, contains_later, contains_one, contains_cases}
use Rattle.sk_family.proofs.Naming.{below_irreflexive, name_eq_same}
use Rattle.sk_family.specs.declared.Merge.{Merge}
use Rattle.sk_family.specs.declared.Merge.TheVariants.{Two, Three}
use Rattle.sk_family.specs.Merges.{IsMergeOf}
use Rattle.sk_family.proofs.Ordering.{AreInOrder, merge_of_three}
use Rattle.sk_offers.specs.OfferLines.{has_twins}

three_ways : (j k : ℕ) → (j ≡ k) ⊎ ((j < k) ⊎ (k < j))
three_ways j k = grind (arith, nat_tests)

below_total : (x y : Name) → (x ≡ y) ⊎ (IsBelow x y ⊎ IsBelow y x)
below_total (Con j) (Con k) = elim (three_ways j k) [ inl same ↦ inl (ap Con same) | inr other ↦ inr other ]
below_total (Con j) (Step k) = inr (inl tt)
below_total (Step j) (Con k) = inr (inr tt)
below_total (Step j) (Step k) = elim (three_ways j k) [ inl same ↦ inl (ap Step same) | inr other ↦ inr other ]

-- the higher one and the lower one
record Ordered (x y : Name) : Type 0 where
  high : Name
  low : Name
  order : AreInOrder x y high low

ordered : (x y : Name) → x ≢ y → Ordered x y
ordered x y differ =
    elim (below_total x y) [
      | inl same ↦ absurd (differ same)
      | inr other ↦ elim other [
        | inl below ↦ record { high = y; low = x; order = record { falls = below; same = inr (refl, refl) } }
        | inr below ↦ record { high = x; low = y; order = record { falls = below; same = inl (refl, refl) } }
      ]
    ]

swapped : (x y n : Name) → Contains (y ∷ x ∷ []) n → Contains (x ∷ y ∷ []) n
swapped x y n h =
    elim (contains_cases y (x ∷ []) n h) [
      | inl here ↦ contains_later x (y ∷ []) n (subst (λ (m : Name). Contains (y ∷ []) m) here (contains_head y []))
      | inr later ↦ subst (λ (m : Name). Contains (x ∷ y ∷ []) m) (contains_one x n later) (contains_head x (y ∷ []))
    ]

merge_of_two : (x y high low : Name) → AreInOrder x y high low → IsMergeOf (x ∷ y ∷ []) (Two high low)
merge_of_two x y high low o =
    elim o.same [
      | inl (is_x, is_y) ↦ rw (← is_x, ← is_y) (record { falls = o.falls; as_many = refl; same = λ n. ((λ h. h), (λ h. h)) })
      | inr (is_y, is_x) ↦ rw (← is_x, ← is_y) (record { falls = o.falls; as_many = refl; same = λ n. (swapped low high n, swapped high low n) })
    ]

-- names that aren't twins differ
either_false : (a b : Bool) → (a || b) ≡ false → (a ≡ false) × (b ≡ false)
either_false true b e = cc
either_false false b e = (refl, e)

differ : (x y : Name) → name_eq y x ≡ false → x ≢ y
differ x y others e = let same = subst (λ (m : Name). name_eq m x ≡ true) e (name_eq_same x) in cc

pub some_pair : (x y : Name) → has_twins (x ∷ y ∷ []) ≡ false → (m : Merge) × IsMergeOf (x ∷ y ∷ []) m
some_pair x y apart =
    let first = either_false (is_named (y ∷ []) x) (has_twins (y ∷ [])) apart in
    let o = ordered x y (differ x y (either_false (name_eq y x) false first.0).0) in
    (Two o.high o.low, merge_of_two x y o.high o.low o.order)

pub some_three : (x y z : Name) → has_twins (x ∷ y ∷ z ∷ []) ≡ false → (m : Merge) × IsMergeOf (x ∷ y ∷ z ∷ []) m
some_three x y z apart =
    let first = either_false (is_named (y ∷ z ∷ []) x) (has_twins (y ∷ z ∷ [])) apart in
    let second = either_false (is_named (z ∷ []) y) (has_twins (z ∷ [])) first.1 in
    let of_x = either_false (name_eq y x) (is_named (z ∷ []) x) first.0 in
    let x_y = differ x y of_x.0 in
    let x_z = differ x z (either_false (name_eq z x) false of_x.1).0 in
    let y_z = differ y z (either_false (name_eq z y) false second.0).0 in
    let o = ordered x y x_y in
    let high_z : o.high ≢ z = elim o.order.same [ inl (is, other) ↦ (λ e. x_z (sym is ∙ e)) | inr (is, other) ↦ (λ e. y_z (sym is ∙ e)) ] in
    let low_z : o.low ≢ z = elim o.order.same [ inl (other, is) ↦ (λ e. y_z (sym is ∙ e)) | inr (other, is) ↦ (λ e. x_z (sym is ∙ e)) ] in
    let p = ordered o.high z high_z in
    let high_low : o.high ≢ o.low = λ e. below_irreflexive o.low (subst (λ (m : Name). IsBelow o.low m) e o.order.falls) in
    let other_low : p.low ≢ o.low = elim p.order.same [ inl (other, is) ↦ (λ e. low_z (sym e ∙ is)) | inr (other, is) ↦ (λ e. high_low (sym is ∙ e)) ] in
    let q = ordered p.low o.low other_low in
    (Three p.high q.high q.low, merge_of_three x y z o.high o.low p.high p.low q.high q.low o.order p.order q.order)
