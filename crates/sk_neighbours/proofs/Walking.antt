-- Walks along the keys that are below a name.
use Rattle.std.proofs.Common.{◌≡◌, ◌∙◌, inl, inr, refl, ℕ, Bool, true, false, List, take, drop, sym, ap}
use Rattle.std.specs.Prelude.{◌↔◌, Contains, AllPairs, IsTrue, Option, None, Some}
use Rattle.std.specs.List.Sorted.{IsPartitionedBy}
use Rattle.sk_base.specs.declared.Name.{Name}
use Rattle.sk_base.specs.ClusterNames.{IsBelow}
use Rattle.sk_family.specs.declared.Cluster.{Cluster}
use Rattle.sk_family.proofs.Halving.{is_before, passing_front, before_below, below_before}
use Rattle.sk_family.proofs.Naming.{below_chain}
use Rattle.sk_base.proofs.Splits.{in_take, in_either}
use Rattle.sk_neighbours.specs.declared.index.Index.{Index}
use Rattle.sk_neighbours.specs.Indexed.{cluster_at, IsBelowAt, RisesIn}

abbrev is_below_in : Option Cluster → Name → Bool
is_below_in None n = false
is_below_in (Some c) n = is_before c.name n

-- whether the cluster of that key is below the name
abbrev pub below_at : Index → Name → ℕ → Bool
below_at ix n k = is_below_in (cluster_at ix k) n

passes_below : (o : Option Cluster) (n : Name) → is_below_in o n ≡ true → (c : Cluster) × (o ≡ Some c) × IsBelow c.name n
passes_below None n passes = absurd (cc)
passes_below (Some c) n passes = (c, refl, before_below c.name n passes)

below_passes : (o : Option Cluster) (n : Name) (c : Cluster) → o ≡ Some c → IsBelow c.name n → is_below_in o n ≡ true
below_passes o n c is below = ap (λ x. is_below_in x n) is ∙ below_before c.name n below

module _ (ix : Index) (n : Name) where
  pub at_below : (k : ℕ) → below_at ix n k ≡ true → IsBelowAt ix n k
  at_below k = passes_below (cluster_at ix k) n

  pub at_not_below : (k : ℕ) → below_at ix n k ≡ false → ¬ IsBelowAt ix n k
  at_not_below k fails (c, is, below) = (let passes : below_at ix n k ≡ true = below_passes (cluster_at ix k) n c is below in absurd (cc))

  pub keys_partition : (keys : List ℕ) → AllPairs (RisesIn ix.live) keys → ((k : ℕ) → Contains keys k → (c : Cluster) × (cluster_at ix k ≡ Some c)) → IsPartitionedBy (below_at ix n) keys
  keys_partition keys order held =
      passing_front (below_at ix n) keys (RisesIn ix.live) order
      (λ j k j_in k_in rises passes.
      let (b, b_is) = held j j_in in
      let (c, c_is, below) = at_below k passes in
      below_passes (cluster_at ix j) n b b_is (below_chain b.name c.name n (rises b c b_is c_is) below))

-- a test that tells whether the cluster of a key is below a name
pub tells_below : (b : Bool) (ix : Index) (n : Name) (k : ℕ) → IsTrue b ↔ IsBelowAt ix n k → b ≡ below_at ix n k
tells_below b ix n k tests = told b (below_at ix n k) refl refl
  where
    told : (p q : Bool) → b ≡ p → below_at ix n k ≡ q → b ≡ below_at ix n k
    told true true b_is q_is = b_is ∙ sym q_is
    told false false b_is q_is = b_is ∙ sym q_is
    told true false b_is q_is = absurd (at_not_below ix n k q_is (tests.0 b_is))
    told false true b_is q_is = (let both : false ≡ true = sym b_is ∙ tests.1 (at_below ix n k q_is) in absurd (cc))

-- the front up to a place are just those of a kind
pub in_front_of : {X : Type 0} (P : X → Type 0) (xs : List X) (place : ℕ) → ((x : X) → Contains (take place xs) x → P x) → ((x : X) → Contains (drop place xs) x → ¬ P x)
    → (x : X) → Contains (take place xs) x ↔ (Contains xs x × P x)
in_front_of P xs place before after x = (
  (λ h. (in_take place xs x h, before x h)),
  (λ (x_in, is). elim (in_either place xs x x_in) [ inl front ↦ front | inr back ↦ absurd (after x back is) ]),
)
