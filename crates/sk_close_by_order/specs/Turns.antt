-- What a worklist knows, and what it answers at a turn.
use Rattle.std.specs.Prelude.{◌≡◌, ◌++◌, ℕ, List, [], Option, None, Some, length, slice_get}
use Rattle.sk_base.specs.declared.Name.{Name}
use Rattle.sk_base.specs.declared.Graph.{Graph}
use Rattle.sk_family.specs.Clusters.{Clusters, unnamed}
use Rattle.sk_family.specs.declared.Merge.{Merge}
use Rattle.sk_family.specs.declared.Merge.TheVariants.{Two}
use Rattle.sk_rules.specs.Merges.{merged, CanTake}
use Rattle.sk_family.specs.Merges.{names_of}
use Rattle.sk_close_by_order.specs.declared.worklist.Worklist.{Worklist}
use Rattle.sk_close_by_order.specs.Choices.{AreChoices}
use Rattle.sk_neighbours.specs.Indexed.{Represents}
use Rattle.sk_close_by_order.specs.Known.{Knows}
use Rattle.sk_close_by_order.specs.Heirs.{IsHeirOf}

-- what the worklist knows of the merges of the family
abbrev pub KnowsOf : Worklist → Graph → Clusters → Type 0
KnowsOf w g f = Knows w.clear w.covered w.kept w.gone g f

-- the index stands for the family, and what the worklist knows is so
pub record Follows (w : Worklist) (g : Graph) (f : Clusters) : Type 0 where
  pub represents : Represents w.index g f.live
  pub knows : KnowsOf w g f
  pub heirs : IsHeirOf g f w.covered w.kept w.gone w.heir w.fresh

-- the same, with the clusters of the merge taken out of the index, and what it makes of the heir
pub record HasLeft (w : Worklist) (g : Graph) (f : Clusters) (m : Merge) : Type 0 where
  pub represents : Represents w.index g (unnamed (names_of m) f.live)
  pub knows : KnowsOf w g f
  pub heirs : IsHeirOf g (merged f m) w.covered w.kept (w.gone ++ names_of m) w.heir w.fresh

-- all but the heir and its fresh elements is the same
pub record IsSameButHeir (old new : Worklist) : Type 0 where
  pub index : new.index ≡ old.index
  pub clear : new.clear ≡ old.clear
  pub covered : new.covered ≡ old.covered
  pub kept : new.kept ≡ old.kept
  pub gone : new.gone ≡ old.gone

abbrev pub HasNoPair : Graph → Clusters → Type 0
HasNoPair g f = (p q : Name) → ¬ CanTake g f (Two p q)

-- the choice that a picker takes, and its state then: none where there is none
abbrev pub Answers : {P : Type 0} → (P → ℕ → ℕ) → (P → ℕ → P) → Graph → Clusters → P → Option Merge → P → Type 0
Answers answer after g f p None q = AreChoices g f [] × (q ≡ p)
Answers answer after g f p (Some m) q =
    (choices : List Merge) × AreChoices g f choices × (slice_get choices (answer p (length choices)) ≡ Some m) × (q ≡ after p (length choices))
