-- The two ways of closing: what is on the way of each.
use Rattle.std.proofs.Common.{refl, []}
use Rattle.sk_base.specs.declared.Graph.{Graph}
use Rattle.sk_family.specs.Clusters.{Clusters}
use Rattle.sk_rules.specs.Reach.{stays}
use Rattle.sk_close_by_order.specs.declared.Order.{Order}
use Rattle.sk_plan.specs.PlanBy.{fresh}
use Rattle.sk_session.specs.declared.closing.Closing.{Closing}
use Rattle.sk_session.specs.declared.closing.Closing.TheVariants.{ByRun, InAnyOrder}
use Rattle.sk_session.specs.State.{EndsBy, HasBegunBy}

-- a family is on its own way
pub begun_there : (closing : Closing) (order : Order) (g : Graph) (f : Clusters) → HasBegunBy closing order g f f
begun_there ByRun order g f = ([], fresh order, (refl, refl))
begun_there InAnyOrder order g f = stays

-- and so is the end
pub begun_at_end : (closing : Closing) (order : Order) (g : Graph) (f end : Clusters) → EndsBy closing order g f end → HasBegunBy closing order g f end
begun_at_end ByRun order g f end (ms, (last, run)) = (ms, last, run.leads)
begun_at_end InAnyOrder order g f end ends = ends.reached
