-- Which merges by the three rules may be taken next, and in which order they stand.
use Rattle.std.specs.Prelude.{◌≢◌, ◌↔◌, ◌⊎◌, List, [], Contains, AllPairs}
use Rattle.sk_base.specs.declared.Graph.{Graph}
use Rattle.sk_family.specs.declared.Cluster.{Cluster}
use Rattle.sk_family.specs.Clusters.{Clusters, IsNamed, bodies}
use Rattle.sk_family.specs.declared.Merge.{Merge}
use Rattle.sk_family.specs.declared.Merge.TheVariants.{Two, Three}
use Rattle.sk_family.specs.Merges.{Falls}
use Rattle.sk_open_triples.specs.MergeOrder.{ComesFirst}
use Rattle.sk_close_by_order.specs.Choices.{AreChoices}
use Rattle.sk_close_by_angles.specs.Ties.{MeetsByTie}

-- two clusters of these names live, and the tie rule holds of them
abbrev pub HoldsByTie : Graph → Clusters → Merge → Type 0
HoldsByTie g f (Two x y) = (a : Cluster) × (b : Cluster) × IsNamed f x a × IsNamed f y b × MeetsByTie g (bodies f) a.elements b.elements
HoldsByTie g f (Three x y z) = ⊥

-- the names fall and the tie rule holds
abbrev pub CanTakeByTie : Graph → Clusters → Merge → Type 0
CanTakeByTie g f m = Falls m × HoldsByTie g f m

-- these are all merges by the tie rule, in order
pub record AreTieMerges (g : Graph) (f : Clusters) (merges : List Merge) : Type 0 where
  pub in_order : AllPairs ComesFirst merges
  pub exactly : (m : Merge) → Contains merges m ↔ CanTakeByTie g f m

-- the first pair alone where some pair may merge, else all triples in order where some triple may, else
-- all merges by the tie rule in order
abbrev pub AreWideChoices : Graph → Clusters → List Merge → Type 0
AreWideChoices g f choices = (AreChoices g f choices × (choices ≢ [])) ⊎ (AreChoices g f [] × AreTieMerges g f choices)
