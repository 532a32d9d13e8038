-- Merges that lead from one family to another, each of three clusters that meet once.
use Rattle.std.specs.Prelude.{◌≡◌, List, [], ◌∷◌, Some}
use Rattle.sk_base.specs.declared.Elem.{Elem}
use Rattle.sk_base.specs.declared.Name.{Name}
use Rattle.sk_base.specs.declared.Graph.{Graph}
use Rattle.sk_family.specs.Clusters.{Clusters}
use Rattle.sk_family.specs.declared.Merge.TheVariants.{Three}
use Rattle.sk_rules.specs.declared.Taken.{Taken}
use Rattle.sk_rules.specs.Merges.{merged}
use Rattle.sk_tree.specs.Meeting.{JoinsOnce}

-- the merge is one of three live clusters that meet once in the shared elements
pub record TakesOnce (g : Graph) (f : Clusters) (t : Taken) : Type 0 where
  pub one : Name
  pub two : Name
  pub three : Name
  pub third : Elem
  pub merge : t.merge ≡ Three one two three
  pub shared : t.shared.c ≡ Some third
  pub joins : JoinsOnce g f one two three t.shared.a t.shared.b third

-- each of the merges, at its turn, is such a one
abbrev pub EachTakesOnce : Graph → Clusters → List Taken → Type 0
EachTakesOnce g f [] = Unit {0}
EachTakesOnce g f (t ∷ ts) = TakesOnce g f t × EachTakesOnce g (merged f t.merge) ts
