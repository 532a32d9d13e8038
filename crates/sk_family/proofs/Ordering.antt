-- Three names put in order, two at a time.
use Rattle.std.proofs.Common.{◌≡◌, ◌⊎◌, inl, inr, refl, [], ◌∷◌, sym, subst, arith}
use Rattle.std.specs.Prelude.{Contains}
use Rattle.sk_base.specs.declared.Name.{Name}
use Rattle.sk_base.specs.ClusterNames.{IsBelow}
use Rattle.sk_base.proofs.Members.{contains_head, contains_later, contains_one, contains_cases}
use Rattle.sk_family.proofs.Naming.{below_chain}
use Rattle.sk_family.specs.declared.merge.Merge.TheVariants.{Three}
use Rattle.sk_family.specs.Merges.{IsMergeOf}

-- the higher one and the lower one of two names
pub record AreInOrder (x y high low : Name) : Type 0 where
  pub falls : IsBelow low high
  pub same : ((high ≡ x) × (low ≡ y)) ⊎ ((high ≡ y) × (low ≡ x))

in_three : (x y z n : Name) → (x ≡ n) ⊎ ((y ≡ n) ⊎ (z ≡ n)) → Contains (x ∷ y ∷ z ∷ []) n
in_three x y z n (inl is) = subst (λ m. Contains (x ∷ y ∷ z ∷ []) m) is (contains_head x (y ∷ z ∷ []))
in_three x y z n (inr (inl is)) = contains_later x (y ∷ z ∷ []) n (subst (λ m. Contains (y ∷ z ∷ []) m) is (contains_head y (z ∷ [])))
in_three x y z n (inr (inr is)) = contains_later x (y ∷ z ∷ []) n (contains_later y (z ∷ []) n (subst (λ m. Contains (z ∷ []) m) is (contains_head z [])))

of_three : (x y z n : Name) → Contains (x ∷ y ∷ z ∷ []) n → (x ≡ n) ⊎ ((y ≡ n) ⊎ (z ≡ n))
of_three x y z n h =
    elim (contains_cases x (y ∷ z ∷ []) n h) [
      | inl is ↦ inl is
      | inr rest ↦ elim (contains_cases y (z ∷ []) n rest) [ inl is ↦ inr (inl is) | inr last ↦ inr (inr (contains_one z n last)) ]
    ]

-- what is one of the two is one of the others
ordered_from : (x y high low : Name) → AreInOrder x y high low → (n : Name) → (high ≡ n) ⊎ (low ≡ n) → (x ≡ n) ⊎ (y ≡ n)
ordered_from x y high low o n h = (let same = o.same in grind arith)

ordered_to : (x y high low : Name) → AreInOrder x y high low → (n : Name) → (x ≡ n) ⊎ (y ≡ n) → (high ≡ n) ⊎ (low ≡ n)
ordered_to x y high low o n h = (let same = o.same in grind arith)

module _ (x y z high low first other second third : Name) (o : AreInOrder x y high low) (p : AreInOrder high z first other) (q : AreInOrder other low second third) where
  low_first : IsBelow low first
  low_first =
      elim p.same [
        | inl (first_is, other_is) ↦ subst (λ m. IsBelow low m) (sym first_is) o.falls
        | inr (first_is, other_is) ↦ below_chain low other first (subst (λ m. IsBelow low m) (sym other_is) o.falls) p.falls
      ]

  second_first : IsBelow second first
  second_first =
      elim q.same [
        | inl (second_is, third_is) ↦ subst (λ m. IsBelow m first) (sym second_is) p.falls
        | inr (second_is, third_is) ↦ subst (λ m. IsBelow m first) (sym second_is) low_first
      ]

  all_from : (n : Name) → (first ≡ n) ⊎ ((second ≡ n) ⊎ (third ≡ n)) → (x ≡ n) ⊎ ((y ≡ n) ⊎ (z ≡ n))
  all_from n h =
      let one : (high ≡ n) ⊎ (low ≡ n) → (x ≡ n) ⊎ (y ≡ n) = ordered_from x y high low o n in
      let two : (first ≡ n) ⊎ (other ≡ n) → (high ≡ n) ⊎ (z ≡ n) = ordered_from high z first other p n in
      let three : (second ≡ n) ⊎ (third ≡ n) → (other ≡ n) ⊎ (low ≡ n) = ordered_from other low second third q n in
      grind arith

  all_to : (n : Name) → (x ≡ n) ⊎ ((y ≡ n) ⊎ (z ≡ n)) → (first ≡ n) ⊎ ((second ≡ n) ⊎ (third ≡ n))
  all_to n h =
      let one : (x ≡ n) ⊎ (y ≡ n) → (high ≡ n) ⊎ (low ≡ n) = ordered_to x y high low o n in
      let two : (high ≡ n) ⊎ (z ≡ n) → (first ≡ n) ⊎ (other ≡ n) = ordered_to high z first other p n in
      let three : (other ≡ n) ⊎ (low ≡ n) → (second ≡ n) ⊎ (third ≡ n) = ordered_to other low second third q n in
      grind arith

  pub merge_of_three : IsMergeOf (x ∷ y ∷ z ∷ []) (Three first second third)
  merge_of_three = record {
    falls = (second_first, q.falls);
    as_many = refl;
    same = λ n. ((λ h. in_three x y z n (all_from n (of_three first second third n h))), (λ h. in_three first second third n (all_to n (of_three x y z n h))));
  }
