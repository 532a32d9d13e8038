-- What a merge that may be taken tells of its clusters.
use Rattle.std.proofs.Common.{◌∙◌, inl, inr, refl, ◌<◌, List, [], ◌∷◌, ap, sym, subst, length, length-append, arith}
use Rattle.std.specs.Prelude.{Contains}
use Rattle.sk_base.specs.declared.Name.{Name}
use Rattle.sk_base.specs.declared.Name.TheVariants.{Step as StepName}
use Rattle.sk_base.specs.declared.Elem.{Elem}
use Rattle.sk_base.specs.declared.Graph.{Graph}
use Rattle.sk_base.specs.ClusterNames.{IsBelow}
use Rattle.sk_base.proofs.Members.{contains_one, contains_cases}
use Rattle.sk_family.specs.declared.Cluster.{Cluster}
use Rattle.sk_family.specs.declared.Merge.{Merge}
use Rattle.sk_family.specs.declared.Merge.TheVariants.{Two, Three}
use Rattle.sk_family.specs.Body.{Body}
use Rattle.sk_family.specs.Clusters.{Clusters, HasElements, IsNamed, IsSound, unnamed, whole_from}
use Rattle.sk_family.specs.Merges.{IsPairFrom, IsTripleFrom, names_of}
use Rattle.sk_family.specs.Rules.{MeetsInThree, SharesTwo}
use Rattle.sk_family.proofs.Naming.{one_of_name}
use Rattle.sk_rules.specs.Merges.{CanTake, TakesFrom}
use Rattle.sk_rules.specs.Reach.{Reach, stays, goes}
use Rattle.sk_rules.proofs.Merging.{merge_lessens}

pub reach_on : (g : Graph) (f m n : List Body) → Reach g f m → Reach g m n → Reach g f n
reach_on g f m n stays rest = rest
reach_on g f m n (goes {mid = mid} first more) rest = goes first (reach_on g mid m n more rest)

-- a merge that may be taken has two clusters
pub two_live : (g : Graph) (f : Clusters) → IsSound f → (m : Merge) → CanTake g f m → 1 < length f.live
two_live g f sound m can =
    let less = merge_lessens g f sound m can.0 can.1 in
    let some = length-append (unnamed (names_of m) f.live) (whole_from (StepName f.next_step) (names_of m) f.live ∷ []) in
    omega (arith, less, some)

-- the clusters of a merge that may be taken have elements
pub have_elements : (g : Graph) (f : Clusters) → IsSound f → (m : Merge) → CanTake g f m → (n : Name) → Contains (names_of m) n → HasElements f n
have_elements g f sound (Two x y) (falls, (a, b, a_is, b_is, (p, q, pair))) n n_in c c_is =
    elim (contains_cases x (y ∷ []) n n_in) [
      | inl at_x ↦ (p, subst (λ (d : Cluster). Contains d.elements p) (one_of_name f sound n a c (subst (λ k. IsNamed f k a) at_x a_is) c_is) pair.a_shared.0)
      | inr later ↦ (p, subst (λ (d : Cluster). Contains d.elements p) (one_of_name f sound n b c (subst (λ k. IsNamed f k b) (contains_one y n later) b_is) c_is) pair.a_shared.1)
    ]
have_elements g f sound (Three x y z) (falls, (a, b, d, a_is, b_is, d_is, (p, q, r, t))) n n_in c c_is =
    elim (contains_cases x (y ∷ z ∷ []) n n_in) [
      | inl at_x ↦ (p, subst (λ (e : Cluster). Contains e.elements p) (one_of_name f sound n a c (subst (λ k. IsNamed f k a) at_x a_is) c_is) t.a_shared.0)
      | inr rest ↦ elim (contains_cases y (z ∷ []) n rest) [
        | inl at_y ↦ (p, subst (λ (e : Cluster). Contains e.elements p) (one_of_name f sound n b c (subst (λ k. IsNamed f k b) at_y b_is) c_is) t.a_shared.1)
        | inr later ↦ (r, subst (λ (e : Cluster). Contains e.elements r) (one_of_name f sound n d c (subst (λ k. IsNamed f k d) (contains_one z n later) d_is) c_is) t.c_shared.0)
      ]
    ]

-- the pairs and the triples of a cluster that may be taken are those with lower ones where the rule holds
module _ (g : Graph) (f : Clusters) (sound : IsSound f) (x : Cluster) (x_in : Contains f.live x) where
  pub triple_can : (m : Merge) → IsTripleFrom g f.live x m → TakesFrom g f x m
  triple_can m (y, z, y_in, z_in, y_below, z_below, meets, m_is) =
      let can : CanTake g f (Three x.name y.name z.name) =
      ((y_below, z_below), (x, y, z, record { lives = x_in; has_name = refl }, record { lives = y_in; has_name = refl }, record { lives = z_in; has_name = refl }, meets)) in
      (subst (λ n. CanTake g f n) (sym m_is) can, (y.name, z.name, m_is))

  pub can_triple : (m : Merge) → TakesFrom g f x m → IsTripleFrom g f.live x m
  can_triple m (can, (yn, zn, m_is)) = told (subst (λ n. CanTake g f n) m_is can)
    where
      told : CanTake g f (Three x.name yn zn) → IsTripleFrom g f.live x m
      told ((y_below, z_below), (p, y, z, p_is, y_is, z_is, meets)) = (
        y,
        z,
        y_is.lives,
        z_is.lives,
        subst (λ n. IsBelow n x.name) (sym y_is.has_name) y_below,
        subst (λ n. IsBelow z.name n) (sym y_is.has_name) (subst (λ n. IsBelow n yn) (sym z_is.has_name) z_below),
        subst (λ (w : Cluster). MeetsInThree g w.elements y.elements z.elements) (one_of_name f sound x.name p x p_is (record { lives = x_in; has_name = refl })) meets,
        m_is ∙ ap (λ n. Three x.name n zn) (sym y_is.has_name) ∙ ap (λ n. Three x.name y.name n) (sym z_is.has_name),
      )

  pub pair_can : (n : Name) → IsPairFrom f.live x n → CanTake g f (Two x.name n)
  pair_can n (y, y_in, below, two, named) = (subst (λ l. IsBelow l x.name) named below, (x, y, record { lives = x_in; has_name = refl }, record { lives = y_in; has_name = named }, two))

  pub can_pair : (n : Name) → CanTake g f (Two x.name n) → IsPairFrom f.live x n
  can_pair n (below, (p, y, p_is, y_is, two)) = (
    y,
    y_is.lives,
    subst (λ l. IsBelow l x.name) (sym y_is.has_name) below,
    subst (λ (w : Cluster). SharesTwo w.elements y.elements) (one_of_name f sound x.name p x p_is (record { lives = x_in; has_name = refl })) two,
    y_is.has_name,
  )
