-- What holds some elements together. A graph's constraints are looked at once each, from the greatest number to the least, and
-- one leaves where the elements lie in one cluster without it.
use Rattle.std.specs.Prelude.{◌≡◌, List, Contains, filter}
use Rattle.sk_base.specs.declared.Elem.{Elem}
use Rattle.sk_base.specs.declared.ConId.{ConId}
use Rattle.sk_base.specs.declared.Graph.{Graph}
use Rattle.sk_family.specs.Body.{Body, Start, starts}
use Rattle.sk_rules.specs.Reach.{IsNormal}
use Rattle.sk_tree.specs.LegalPlan.{numbers_of}
use Rattle.sk_spare.specs.Sparing.{HoldsAll, without}
use Rattle.sk_excess.specs.LeftOut.{is_kept, kept_graph}
use Rattle.sk_excess.specs.Going.{AreGoneOf}

-- one cluster of the graph's normal family has all of these elements
pub record AreTogether (g : Graph) (elements : List Elem) : Type 0 where
  pub family : List Body
  pub normal : IsNormal g family
  pub holds : HoldsAll family elements

-- the elements are together without the constraint
abbrev pub MayLeave : List Elem → Graph → ConId → Type 0
MayLeave elements g k = AreTogether (without k g) elements

-- what holds the elements together: the graph's constraints without those that leave, one of them exactly where it may without
-- the greater ones that do
pub record AreBecause (g : Graph) (elements : List Elem) (because : List ConId) : Type 0 where
  pub gone : List ConId
  pub leave : AreGoneOf (MayLeave elements) g (numbers_of g) gone
  pub others : because ≡ filter (is_kept gone) (numbers_of g)

-- of the graph without those that are left out, what holds the elements of one of the graph's constraints together
pub record FollowsFrom (g : Graph) (left : List ConId) (c : ConId) (because : List ConId) : Type 0 where
  pub start : Start
  pub there : Contains (starts g) start
  pub numbered : start.number ≡ c
  pub are : AreBecause (kept_graph left g) start.elements because
