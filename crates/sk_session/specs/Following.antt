-- How the kept family follows edits.
use Rattle.std.specs.Prelude.{◌≡◌, Contains}
use Rattle.sk_base.specs.declared.ConId.{ConId}
use Rattle.sk_base.specs.declared.Constraint.{Constraint}
use Rattle.sk_base.specs.declared.Graph.{Graph}
use Rattle.sk_base.specs.declared.Name.{Name}
use Rattle.sk_base.specs.declared.Sketch.{Sketch}
use Rattle.sk_family.specs.Body.{initial_bodies}
use Rattle.sk_family.specs.Clusters.{Clusters, bodies}
use Rattle.sk_family.specs.Starts.{HasStart, IsDissolved}
use Rattle.sk_rules.specs.Reach.{Reach}
use Rattle.sk_graph.specs.SketchGraph.{graph_of}
use Rattle.sk_plan.specs.ConstraintStarts.{constraint_start}
use Rattle.sk_edits.specs.declared.Edit.{Edit}
use Rattle.sk_edits.specs.declared.Edit.TheVariants as edit

-- the cluster that owns the constraint is dissolved without it
abbrev pub DissolvesOwner : Graph → ConId → Clusters → Clusters → Type 0
DissolvesOwner g k old new = (n : Name) × ((d : IsDissolved g n k old new) × Contains d.owner.owned k)

-- merging leads from the start of the sketch's graph to the family
abbrev pub IsReachedIn : Sketch → Clusters → Type 0
IsReachedIn s f = Reach (graph_of s) (initial_bodies (graph_of s)) (bodies f)

-- what an edit that is made in the sketch does to the kept family
abbrev pub Follows : Edit → Sketch → Clusters → Clusters → Type 0
Follows (edit.Constraint c) s old new = HasStart (constraint_start c) old new
Follows (edit.Dropped k) s old new = DissolvesOwner (graph_of s) k old new
Follows _ s old new = new ≡ old

-- what undoing it does, which leads back to the sketch
abbrev pub FollowsBack : Edit → Sketch → Clusters → Clusters → Type 0
FollowsBack (edit.Constraint c) s old new = DissolvesOwner (graph_of s) c.number old new
FollowsBack (edit.Dropped k) s old new = (c : Constraint) × Contains s.constraints c × (c.number ≡ k) × HasStart (constraint_start c) old new
FollowsBack _ s old new = new ≡ old
