-- Where the steps' names rise, a name has one tree.
use Rattle.std.proofs.Common.{◌≡◌, inl, inr, List, refl, ap, sym, subst, ◌∙◌, ℕ, arith}
use Rattle.std.specs.Prelude.{Contains}
use Rattle.sk_base.specs.declared.Name.{Name}
use Rattle.sk_base.specs.declared.Name.TheVariants.{Con, Step}
use Rattle.sk_base.specs.ClusterNames.{IsBelow}
use Rattle.sk_base.specs.Numbering.{con_exact}
use Rattle.sk_base.proofs.Pairs.{pairs_tell}
use Rattle.sk_family.specs.declared.Merge.TheVariants.{Three}
use Rattle.sk_rules.specs.declared.Shared.{Shared}
use Rattle.sk_rules.specs.declared.Taken.{Taken}
use Rattle.sk_tree.specs.declared.tree.Tree.{Tree}
use Rattle.sk_tree.specs.declared.tree.Tree.TheVariants.{Leaf, Join'}
use Rattle.sk_tree.specs.Trees.{IsTreeOf, HasRisingSteps, AreAlike}

never_below : (n : Name) → ¬ IsBelow n n
never_below (Con k) below = omega arith
never_below (Step k) below = omega arith

-- the same merges are of the same three, at the same elements
record SameParts (x y z u v w : Name) (shared meeting : Shared) : Type 0 where
  first : x ≡ u
  second : y ≡ v
  third : z ≡ w
  elements : shared ≡ meeting

parts : {t s : Taken} {x y z u v w : Name} → t ≡ s → t.merge ≡ Three x y z → s.merge ≡ Three u v w → SameParts x y z u v w t.shared s.shared
parts same one other = record { first = cc; second = cc; third = cc; elements = ap (λ (t : Taken). t.shared) same }

module _ (taken : List Taken) (steps : HasRisingSteps taken) where
  -- a step is one merge
  one_merge : (t u : Taken) → Contains taken t → Contains taken u → t.step ≡ u.step → t ≡ u
  one_merge t u t_in u_in same =
      elim (pairs_tell (λ (x y : Taken). IsBelow x.step y.step) taken steps.rise t u t_in u_in) [
        | inl is ↦ is
        | inr (inl before) ↦ absurd (never_below u.step (subst (λ (n : Name). IsBelow n u.step) same before))
        | inr (inr after) ↦ absurd (never_below u.step (subst (λ (n : Name). IsBelow u.step n) same after))
      ]

  -- no step has a constraint's name
  no_constraint : (t : Taken) (k : ℕ) → Contains taken t → Con k ≡ t.step → ⊥
  no_constraint t k t_in is =
      let named = steps.named t t_in in
      let never : Con k ≡ Step named.0 = is ∙ named.1 in absurd (cc)

  pub alike : (n : Name) (one other : Tree) → IsTreeOf taken n one → IsTreeOf taken n other → AreAlike one other
  alike n (Leaf c) (Leaf d) is has = con_exact c d (numbers c.0 d.0 (sym is ∙ has))
    where
      numbers : (j k : ℕ) → Con j ≡ Con k → j ≡ k
      numbers j k e = cc
  alike n (Leaf c) (Join' q other meeting first second third) is (has, (x, y, z, there, a, b, d)) =
      no_constraint _ c.0 there (sym is ∙ has)
  alike n (Join' p step shared one two three) (Leaf d) (is, (x, y, z, there, a, b, e)) has =
      no_constraint _ d.0 there (sym has ∙ is)
  alike n (Join' p step shared one two three) (Join' q other meeting first second third) (is, (x, y, z, there, a, b, c)) (has, (u, v, w, other_there, d, e, f)) =
      let same = parts (one_merge _ _ there other_there (sym is ∙ has)) refl refl in (
        sym is ∙ has,
        same.elements,
        alike u one first (subst (λ (m : Name). IsTreeOf taken m one) same.first a) d,
        alike v two second (subst (λ (m : Name). IsTreeOf taken m two) same.second b) e,
        alike w three third (subst (λ (m : Name). IsTreeOf taken m three) same.third c) f,
      )
