-- The state of a session, and what its commands do to it.
use Rattle.std.specs.Prelude.{◌≡◌, ℕ, ◌+◌, List, [], ◌∷◌, ◌++◌}
use Rattle.sk_base.specs.declared.Graph.{Graph}
use Rattle.sk_base.specs.declared.Sketch.{Sketch}
use Rattle.sk_family.specs.Clusters.{Clusters, bodies}
use Rattle.sk_family.specs.declared.Merge.{Merge}
use Rattle.sk_rules.specs.Reach.{Reach, IsNormal, IsTheOnlyNormal}
use Rattle.sk_graph.specs.SketchGraph.{graph_of}
use Rattle.sk_close_by_order.specs.declared.Order.{Order}
use Rattle.sk_close_by_order.specs.Orders.{Choosing, place_of, next_call}
use Rattle.sk_close_by_order.specs.Run.{IsRun, IsOnTheWay}
use Rattle.sk_plan.specs.PlanBy.{fresh}
use Rattle.sk_session.specs.declared.closing.Closing.{Closing}
use Rattle.sk_session.specs.declared.closing.Closing.TheVariants.{ByRun, InAnyOrder}
use Rattle.sk_edits.specs.declared.Edit.{Edit}
use Rattle.sk_edits.specs.Edits.{sketch_of}
use Rattle.sk_session.specs.Following.{Follows, FollowsBack}

-- the order of merges, how checks close the kept family, the edits that stand, how many edits and undos were accepted,
-- and the kept family
pub record State : Type 0 where
  pub order : Order
  pub closing : Closing
  pub edits : List Edit
  pub count : ℕ
  pub family : Clusters

-- the sketch that the standing edits make, and its graph
abbrev pub sketch_in : State → Sketch
sketch_in state = sketch_of state.edits

abbrev pub graph_in : State → Graph
graph_in state = graph_of (sketch_in state)

-- the edit stands now, and the kept family has followed it
pub record Accepts (old : State) (e : Edit) (new : State) : Type 0 where
  pub order : new.order ≡ old.order
  pub closing : new.closing ≡ old.closing
  pub edits : new.edits ≡ old.edits ++ e ∷ []
  pub count : new.count ≡ old.count + 1
  pub family : Follows e (sketch_in old) old.family new.family

-- the last edit stands no more, and the kept family has followed
pub record TakesBack (old new : State) : Type 0 where
  pub last : Edit
  pub order : new.order ≡ old.order
  pub closing : new.closing ≡ old.closing
  pub edits : old.edits ≡ new.edits ++ last ∷ []
  pub count : new.count ≡ old.count + 1
  pub family : FollowsBack last (sketch_in new) old.family new.family

-- but for the kept family and how it is closed, the two are the same
pub record IsSameElse (old new : State) : Type 0 where
  pub order : new.order ≡ old.order
  pub edits : new.edits ≡ old.edits
  pub count : new.count ≡ old.count

-- closing ends in a family to which merges lead, and which is the only normal one
pub record IsClosedFrom (g : Graph) (from end : Clusters) : Type 0 where
  pub reached : Reach g (bodies from) (bodies end)
  pub normal : IsNormal g (bodies end)
  pub only : IsTheOnlyNormal g (bodies end)

-- where closing ends: by the run, at the end of the run, from there, of a fresh picker of the order; in any order, at the
-- only normal family
abbrev pub EndsBy : Closing → Order → Graph → Clusters → Clusters → Type 0
EndsBy ByRun order g from end = (ms : List Merge) × ((last : Choosing) × IsRun place_of next_call g from (fresh order) ms end last)
EndsBy InAnyOrder order g from end = IsClosedFrom g from end

-- how far it may be before: by the run, where choices of this run lead; in any order, where merges lead
abbrev pub HasBegunBy : Closing → Order → Graph → Clusters → Clusters → Type 0
HasBegunBy ByRun order g from now = IsOnTheWay place_of next_call g from (fresh order) now
HasBegunBy InAnyOrder order g from now = Reach g (bodies from) (bodies now)

-- the kept family is the one in which the session's way of closing ends from it
pub record Closes (old new : State) : Type 0 where
  pub else_same : IsSameElse old new
  pub closing : new.closing ≡ old.closing
  pub ends : EndsBy old.closing old.order (graph_in old) old.family new.family

-- the kept family is one on the way there
pub record IsHeldUp (old new : State) : Type 0 where
  pub else_same : IsSameElse old new
  pub closing : new.closing ≡ old.closing
  pub begun : HasBegunBy old.closing old.order (graph_in old) old.family new.family
