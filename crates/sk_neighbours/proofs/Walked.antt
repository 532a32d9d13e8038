-- Walks along keys, to partners and to triples.
use Rattle.std.proofs.Common.{◌≡◌, ◌≢◌, ◌∙◌, inl, inr, ℕ, sym, subst}
use Rattle.std.specs.Prelude.{◌↔◌, Contains, Some}
use Rattle.std.proofs.lemmas.Option.{same_Some}
use Rattle.sk_base.specs.declared.Elem.{Elem}
use Rattle.sk_base.specs.declared.Name.{Name}
use Rattle.sk_base.specs.ClusterNames.{IsBelow}
use Rattle.sk_family.specs.declared.Cluster.{Cluster}
use Rattle.sk_family.specs.declared.Merge.{Merge}
use Rattle.sk_family.proofs.Naming.{below_asymmetric, below_chain, below_differs}
use Rattle.sk_neighbours.specs.declared.index.Index.{Index}
use Rattle.sk_neighbours.specs.Indexed.{IsBelowAt, IsIndex, cluster_at, holders_of}
use Rattle.sk_neighbours.specs.declared.triples.Third.{Third}
use Rattle.sk_neighbours.specs.declared.triples.Third.TheVariants.{Below, Either}
use Rattle.sk_neighbours.specs.Triples.{AtCorner, IsPlaced, IsTripleOf}
use Rattle.sk_neighbours.specs.Walked.{FromCorner, limit_of}

-- three names have one triple
pub one_triple : (x y z : Name) (m n : Merge) → IsTripleOf x y z m → IsTripleOf x y z n → m ≡ n
one_triple x y z m n (inl (z_y, m_is)) (inl (again, n_is)) = m_is ∙ sym n_is
one_triple x y z m n (inl (z_y, m_is)) (inr (y_z, n_is)) = absurd (below_asymmetric z y z_y y_z)
one_triple x y z m n (inr (y_z, m_is)) (inl (z_y, n_is)) = absurd (below_asymmetric z y z_y y_z)
one_triple x y z m n (inr (y_z, m_is)) (inr (again, n_is)) = m_is ∙ sym n_is

-- the third cluster isn't the second
pub placed_apart : (third : Third) (y z : Name) → IsPlaced third y z → z ≢ y
placed_apart Below y z placed = below_differs z y placed
placed_apart Either y z other = other

-- another one stands below the name up to which it is looked for just where it is below the greatest and
-- stands where it is to
placed_to : (third : Third) (x y z : Name) → IsBelow y x → z ≢ y → IsBelow z (limit_of third x y) → IsBelow z x × IsPlaced third y z
placed_to Below x y z y_x other z_y = (below_chain z y x z_y y_x, z_y)
placed_to Either x y z y_x other z_x = (z_x, other)

placed_from : (third : Third) (x y z : Name) → IsBelow z x → IsPlaced third y z → IsBelow z (limit_of third x y)
placed_from Below x y z z_x z_y = z_y
placed_from Either x y z z_x other = z_x

-- the cluster of a key that is below a name
pub below_named : (ix : Index) (n : Name) (k : ℕ) (c : Cluster) → cluster_at ix k ≡ Some c → IsBelowAt ix n k → IsBelow c.name n
below_named ix n k c is (d, d_is, below) = subst (λ (w : Cluster). IsBelow w.name n) (same_Some _ _ (sym d_is ∙ is)) below

module _ (ix : Index) (index : IsIndex ix) where
  pub holds : (e : Elem) (k : ℕ) (c : Cluster) → cluster_at ix k ≡ Some c → Contains (holders_of ix e) k → Contains c.elements e
  holds e k c is k_in = (let (d, d_is, e_d) = index.leads e k k_in in subst (λ (w : Cluster). Contains w.elements e) (same_Some _ _ (sym d_is ∙ is)) e_d)

-- what the walk from a corner finds are the triples at it
pub corner_walked : (ix : Index) (third : Third) (x : Cluster) (a : Elem) (m : Merge) → FromCorner third ix x a m ↔ AtCorner third ix x a m
corner_walked ix third x a m = (
  (λ (y, y_held, a_y, y_x, (b, b_y, (z, z_held, b_z, z_limit, ((a_b, other, (c, c_x, c_z, makes)), m_is)))). (
      let (z_x, placed) = placed_to third x.name y.name z.name y_x other z_limit in
      (y, z, y_held, z_held, y_x, z_x, placed, a_y, (b, c, a_b, (b_y, b_z), (c_z, c_x), makes), m_is))),
  (λ (y, z, y_held, z_held, y_x, z_x, placed, a_y, (b, c, a_b, (b_y, b_z), (c_z, c_x), makes), m_is).
      (y, y_held, a_y, y_x, (b, b_y, (z, z_held, b_z, placed_from third x.name y.name z.name z_x placed, ((a_b, placed_apart third y.name z.name placed, (c, c_x, c_z, makes)), m_is))))),
)
