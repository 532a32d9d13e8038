-- Three clusters that meet in a triangle, and each two of which share one element.
use Rattle.std.specs.Prelude.{◌≡◌, List}
use Rattle.sk_base.specs.declared.Elem.{Elem}
use Rattle.sk_base.specs.declared.Name.{Name}
use Rattle.sk_base.specs.declared.Graph.{Graph}
use Rattle.sk_family.specs.declared.Cluster.{Cluster}
use Rattle.sk_family.specs.Clusters.{Clusters, IsNamed}
use Rattle.sk_family.specs.Rules.{IsShared, IsTriangle}

-- what the two lists share is that element
abbrev pub SharesNoOther : List Elem → List Elem → Elem → Type 0
SharesNoOther xs ys elem = (e : Elem) → IsShared xs ys e → e ≡ elem

-- three elements meet the triangle rule, and no two of the three lists share any other
pub record MeetsOnce (g : Graph) (xs ys zs : List Elem) (a b c : Elem) : Type 0 where
  pub triangle : IsTriangle g xs ys zs a b c
  pub only_a : SharesNoOther xs ys a
  pub only_b : SharesNoOther ys zs b
  pub only_c : SharesNoOther zs xs c

-- live clusters of these three names meet so
pub record JoinsOnce (g : Graph) (f : Clusters) (x y z : Name) (a b c : Elem) : Type 0 where
  pub one : Cluster
  pub two : Cluster
  pub three : Cluster
  pub one_named : IsNamed f x one
  pub two_named : IsNamed f y two
  pub three_named : IsNamed f z three
  pub meets : MeetsOnce g one.elements two.elements three.elements a b c
