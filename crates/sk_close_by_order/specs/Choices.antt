-- Which merges may be taken next.
use Rattle.std.specs.Prelude.{◌≡◌, ◌↔◌, ◌⊎◌, List, [], ◌∷◌, Contains, AllPairs}
use Rattle.sk_base.specs.declared.Name.{Name}
use Rattle.sk_base.specs.declared.Graph.{Graph}
use Rattle.sk_family.specs.Clusters.{Clusters}
use Rattle.sk_family.specs.declared.Merge.{Merge}
use Rattle.sk_family.specs.declared.Merge.TheVariants.{Two}
use Rattle.sk_open_triples.specs.MergeOrder.{ComesFirst}
use Rattle.sk_rules.specs.Merges.{CanTake}

-- the first of the pairs that may merge
pub record IsFirstPair (g : Graph) (f : Clusters) (m : Merge) : Type 0 where
  pub can_take : CanTake g f m
  pub is_pair : (x : Name) × (y : Name) × (m ≡ Two x y)
  pub first : (p q : Name) → CanTake g f (Two p q) → ¬ ComesFirst (Two p q) m

-- no pair may merge, and these are all triples that may, in order
pub record AreTriples (g : Graph) (f : Clusters) (choices : List Merge) : Type 0 where
  pub no_pair : (p q : Name) → ¬ CanTake g f (Two p q)
  pub in_order : AllPairs ComesFirst choices
  pub exactly : (m : Merge) → Contains choices m ↔ CanTake g f m

-- the first pair alone where some pair may merge, else all triples in order
abbrev pub AreChoices : Graph → Clusters → List Merge → Type 0
AreChoices g f choices = ((m : Merge) × (choices ≡ m ∷ []) × IsFirstPair g f m) ⊎ AreTriples g f choices
