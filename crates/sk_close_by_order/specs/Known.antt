-- What is known of the merges of a family, and which triples are kept.
use Rattle.std.specs.Prelude.{◌≡◌, ◌≢◌, false, List, Contains, AllPairs}
use Rattle.sk_base.specs.declared.Name.{Name}
use Rattle.sk_base.specs.declared.Name.TheVariants.{Step}
use Rattle.sk_base.specs.declared.Graph.{Graph}
use Rattle.sk_base.specs.ClusterNames.{IsBelow, is_named}
use Rattle.sk_family.specs.declared.Cluster.{Cluster}
use Rattle.sk_family.specs.Clusters.{Clusters, IsWithin}
use Rattle.sk_family.specs.declared.Merge.{Merge}
use Rattle.sk_family.specs.declared.Merge.TheVariants.{Three}
use Rattle.sk_family.specs.Rules.{SharesTwo}
use Rattle.sk_family.specs.Merges.{names_of}
use Rattle.sk_rules.specs.Merges.{CanTake}
use Rattle.sk_open_triples.specs.Avoiding.{avoiding}
use Rattle.sk_open_triples.specs.MergeOrder.{ComesFirst}

-- the name is that of a cluster that a merge of those leaves as it is
pub record IsLeft (f : Clusters) (gone : List Name) (n : Name) : Type 0 where
  pub not_gone : is_named gone n ≡ false
  pub not_new : n ≢ Step f.next_step

-- each name of the merge is
abbrev pub Avoids : Clusters → List Name → Merge → Type 0
Avoids f gone m = (n : Name) → Contains (names_of m) n → IsLeft f gone n

-- just the triples that may merge and whose greatest cluster is of that kind, in order
pub record AreKept (g : Graph) (f : Clusters) (kind : Name → Type 0) (kept : List Merge) : Type 0 where
  pub in_order : AllPairs ComesFirst kept
  pub right : (m : Merge) → Contains kept m → CanTake g f m × ((x : Name) × (y : Name) × (z : Name) × (m ≡ Three x y z) × kind x)
  pub all : (x y z : Name) → kind x → CanTake g f (Three x y z) → Contains kept (Three x y z)

-- no pair whose greater cluster is below the name may merge
abbrev pub NoPairBelow : Clusters → Name → Type 0
NoPairBelow f bound = (x y : Cluster) → Contains f.live x → Contains f.live y → IsBelow x.name bound → IsBelow y.name x.name → ¬ SharesTwo x.elements y.elements

-- what is known of the merges of a family: no pair below one name may merge, and just the triples below
-- another are kept, in order, beside some that name a cluster that is gone
pub record Knows (clear covered : Name) (kept : List Merge) (gone : List Name) (g : Graph) (f : Clusters) : Type 0 where
  pub clear_within : IsWithin f clear
  pub covered_within : IsWithin f covered
  pub no_pair : NoPairBelow f clear
  pub keeps : AreKept g f (λ x. IsBelow x covered) (avoiding gone kept)
