-- Which of three clusters is kept, told by their sizes.
use Rattle.std.proofs.Common.{◌≡◌, ◌⊎◌, inl, inr, ℕ, ◌<◌, ◌≤◌, [], ◌∷◌, length, sym, subst, arith}
use Rattle.std.specs.Prelude.{Contains}
use Rattle.sk_base.specs.declared.Name.{Name}
use Rattle.sk_base.specs.ClusterNames.{IsBelow}
use Rattle.sk_family.specs.declared.Cluster.{Cluster}
use Rattle.sk_family.specs.Clusters.{Clusters, IsNamed, IsLive}
use Rattle.sk_base.proofs.Members.{contains_one, contains_cases}
use Rattle.sk_base.proofs.Unions.{which}
use Rattle.sk_tree.specs.LegalPlan.{IsPreferred, IsKept}

-- the clusters of that name have that many elements
abbrev pub HasSize : Clusters → Name → ℕ → Type 0
HasSize f n size = (c : Cluster) → IsNamed f n c → size ≡ length c.elements

-- a cluster of the one name and size may stand behind one of the other
abbrev pub MayGive : Name → ℕ → Name → ℕ → Type 0
MayGive n size k kept = (size ≤ kept) × ((size < kept) ⊎ ¬ IsBelow n k)

gives : (f : Clusters) (n k : Name) (size kept : ℕ) (a b : Cluster) → IsNamed f k a → IsNamed f n b → HasSize f n size → HasSize f k kept → MayGive n size k kept → IsPreferred a b
gives f n k size kept a b a_is b_is n_size k_size (most, why) =
    let here = n_size b b_is in
    let there = k_size a a_is in
    elim (which size kept) [
      | inl less ↦ inl (omega arith)
      | inr (inl level) ↦ inr (omega arith, not_below why level)
      | inr (inr more) ↦ absurd (omega arith)
    ]
  where
    not_below : (size < kept) ⊎ ¬ IsBelow n k → size ≡ kept → ¬ IsBelow b.name a.name
    not_below (inl less) level h = absurd (omega arith)
    not_below (inr not) level h = not (subst (λ m. IsBelow m k) b_is.has_name (subst (λ m. IsBelow b.name m) a_is.has_name h))

pub kept_is : (f : Clusters) (x y z : Name) (sx sy sz : ℕ) → HasSize f x sx → HasSize f y sy → HasSize f z sz → (k : Name) (kept : ℕ) → Contains (x ∷ y ∷ z ∷ []) k → IsLive f k → HasSize f k kept → MayGive x sx k kept → MayGive y sy k kept → MayGive z sz k kept → IsKept f (x ∷ y ∷ z ∷ []) k
kept_is f x y z sx sy sz x_size y_size z_size k kept k_in (a, a_is) k_size gx gy gz = (
  k_in,
  (
    a,
    a_is,
    λ n b n_in b_is. elim (contains_cases x (y ∷ z ∷ []) n n_in) [
      | inl is ↦ gives f x k sx kept a b a_is (subst (λ m. IsNamed f m b) (sym is) b_is) x_size k_size gx
      | inr rest ↦ elim (contains_cases y (z ∷ []) n rest) [
        | inl is ↦ gives f y k sy kept a b a_is (subst (λ m. IsNamed f m b) (sym is) b_is) y_size k_size gy
        | inr last ↦ gives f z k sz kept a b a_is (subst (λ m. IsNamed f m b) (sym (contains_one z n last)) b_is) z_size k_size gz
      ]
    ],
  ),
)
