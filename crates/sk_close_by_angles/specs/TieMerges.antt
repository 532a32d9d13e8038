-- What is found on the way to all merges by the tie rule.
use Rattle.std.specs.Prelude.{◌≡◌, ◌⊎◌, List, [], ◌∷◌, ◌++◌, Contains}
use Rattle.sk_base.specs.declared.Name.{Name}
use Rattle.sk_base.specs.declared.Graph.{Graph}
use Rattle.sk_base.specs.ClusterNames.{IsBelow}
use Rattle.sk_family.specs.declared.cluster.Cluster.{Cluster}
use Rattle.sk_family.specs.Clusters.{Clusters, IsNamed, bodies}
use Rattle.sk_family.specs.declared.Merge.{Merge}
use Rattle.sk_family.specs.declared.Merge.TheVariants.{Two}
use Rattle.sk_family.specs.Merges.{greatest_of}
use Rattle.sk_triangles.specs.Growing.{GrowsBy, FromSome}
use Rattle.sk_close_by_angles.specs.Ties.{HaveTiedLines, MeetsByTie}

-- the merge is of a and a cluster below it, one of these, and the tie rule holds of the two
abbrev pub IsTieMergeOf : Graph → Clusters → Cluster → List Cluster → Merge → Type 0
IsTieMergeOf g f a below m = (b : Cluster) × Contains below b × IsBelow b.name a.name × MeetsByTie g (bodies f) a.elements b.elements × (m ≡ Two a.name b.name)

-- each of the merges has its greatest name below this one
abbrev pub AreBelow : List Merge → Name → Type 0
AreBelow merges n = (m : Merge) → Contains merges m → IsBelow (greatest_of m) n

-- new has what old has, and the merges of a with these clusters
abbrev pub FindsOf : Graph → Clusters → Cluster → List Cluster → List Merge → List Merge → Type 0
FindsOf g f a below old new = GrowsBy (IsTieMergeOf g f a below) old new

-- a cluster of that name has a line that is tied to one of a
abbrev pub IsTiedTo : Graph → Clusters → Cluster → Name → Type 0
IsTiedTo g f a n = (b : Cluster) × IsNamed f n b × HaveTiedLines g (bodies f) a.elements b.elements

-- the merge is that of a with the cluster of that name, which is tied to it
abbrev pub TieWith : Graph → Clusters → Cluster → Name → Merge → Type 0
TieWith g f a n m = IsTiedTo g f a n × (m ≡ Two a.name n)

-- new has what old has, and the merges of a with those of these names that are tied to it
abbrev pub FindsAmong : Graph → Clusters → Cluster → List Name → List Merge → List Merge → Type 0
FindsAmong g f a names old new = GrowsBy (FromSome (TieWith g f a) names) old new

-- the item is added where that holds, and only there
abbrev pub AddsWhere : {X : Type 0} → Type 0 → List X → List X → X → Type 0
AddsWhere holds old new x = (holds × (new ≡ old ++ x ∷ [])) ⊎ ((¬ holds) × (new ≡ old))
