-- What is known of the ties of a family, and which of its merges a picker takes.
use Rattle.std.specs.Prelude.{◌≡◌, ℕ, List, [], Option, None, Some, AllPairs, length, slice_get}
use Rattle.sk_base.specs.declared.Graph.{Graph}
use Rattle.sk_family.specs.declared.Cluster.{Cluster}
use Rattle.sk_family.specs.Clusters.{Clusters, IsSound, bodies}
use Rattle.sk_family.specs.declared.Merge.{Merge}
use Rattle.sk_rules.specs.Merges.{merged}
use Rattle.sk_open_triples.specs.MergeOrder.{ComesFirst}
use Rattle.sk_neighbours.specs.Indexed.{IsLast}
use Rattle.sk_close_by_angles.specs.Classes.{AreClasses}
use Rattle.sk_close_by_angles.specs.WideChoices.{AreTieMerges, CanTakeByTie}
use Rattle.sk_close_by_angles.specs.TieMerges.{AreBelow, FindsOf}

-- the classes of tied lines, and all merges by the tie rule
pub record AreTies (g : Graph) (f : Clusters) (classes : List ℕ) (merges : List Merge) : Type 0 where
  pub told : AreClasses g (bodies f) classes
  pub all : AreTieMerges g f merges

-- the family is that behind the merge, of a family with these classes and merges
abbrev pub IsAfterOne : Graph → List ℕ → List Merge → Merge → Clusters → Type 0
IsAfterOne g classes merges m after = (f : Clusters) × (IsSound f × AreTies g f classes merges × CanTakeByTie g f m × (after ≡ merged f m))

-- new has what old has, and the merges of the last cluster with those below it, in order where old is and
-- stands before them
abbrev pub FindsOfLast : Graph → Clusters → List Merge → List Merge → Type 0
FindsOfLast g f old new =
    (a : Cluster) → IsLast f.live a → FindsOf g f a f.live old new × (AllPairs ComesFirst old → AreBelow old a.name → AllPairs ComesFirst new)

-- the merge that a picker takes of these, and its state then: none where there is none
abbrev pub Takes : {P : Type 0} → (P → ℕ → ℕ) → (P → ℕ → P) → List Merge → P → Option Merge → P → Type 0
Takes answer after merges p None q = (merges ≡ []) × (q ≡ p)
Takes answer after merges p (Some m) q = (slice_get merges (answer p (length merges)) ≡ Some m) × (q ≡ after p (length merges))
