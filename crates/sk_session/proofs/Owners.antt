-- Which clusters of the kept family own the constraints of the sketch.
use Rattle.std.proofs.Common.{◌≢◌, ◌≤◌, [], length, ap, sym, subst, ◌∙◌, arith}
use Rattle.std.specs.Prelude.{Contains}
use Rattle.sk_base.specs.declared.ConId.{ConId}
use Rattle.sk_base.specs.declared.Name.{Name}
use Rattle.sk_base.specs.declared.Constraint.{Constraint}
use Rattle.sk_base.specs.declared.Sketch.{Sketch}
use Rattle.sk_base.specs.Numbering.{con_number}
use Rattle.sk_base.specs.SoundSketch.{IsSoundSketch}
use Rattle.sk_base.proofs.Members.{contains_head}
use Rattle.sk_family.specs.declared.Cluster.{Cluster}
use Rattle.sk_family.specs.Clusters.{Clusters, IsSound, IsNamed}
use Rattle.sk_family.specs.Starts.{IsFree, CanBeDissolved}
use Rattle.sk_family.specs.Body.{Start}
use Rattle.sk_rules.proofs.KeptClusters.{owner_lives, owned_is_constraint, owned_are_few}
use Rattle.sk_graph.specs.SketchGraph.{graph_of}
use Rattle.sk_graph.proofs.Soundness.{graph_is_sound}
use Rattle.sk_plan.specs.ConstraintStarts.{constraint_start}
use Rattle.sk_edits.specs.Making.{HasConstraint}
use Rattle.sk_session.specs.Following.{IsReachedIn}
use Rattle.sk_plan.proofs.Starts.{rises, start_there, start_of_some}

module _ (s : Sketch) (sound : IsSoundSketch s) (f : Clusters) (f_sound : IsSound f) (reach : IsReachedIn s f) where
  owned_in : (c : Cluster) (k : ConId) → Contains f.live c → Contains c.owned k → HasConstraint s k
  owned_in c k c_in c_k =
      let e = owned_is_constraint (graph_of s) f reach (rises s sound) c k c_in c_k in
      let found = start_of_some s sound e.0 e.1 in
      (found.0, found.1, ap (λ (d : Start). d.number) found.2 ∙ e.2)

  -- a number that no constraint has is free
  pub free_number : (k : ConId) → ((x : Constraint) → Contains s.constraints x → x.number.0 ≢ k.0) → IsFree f k
  free_number k other c c_in =
      let owns : Contains c.owned k → ⊥ = λ c_k. (let has = owned_in c k c_in c_k in other has.0 has.1 (ap con_number has.2)) in (
        owns,
        λ has_name. owns (subst (λ ks. Contains ks k) (sym (f_sound.starts_own_their_own c k.0 c_in has_name)) (contains_head k [])),
      )

  pub owner_of : (k : ConId) → HasConstraint s k → (c : Cluster) × Contains f.live c × Contains c.owned k
  owner_of k (x, x_in, is) =
      let owner = owner_lives (graph_of s) f reach (constraint_start x) (start_there s sound x x_in) in
      (owner.0, owner.1, subst (λ j. Contains owner.0.owned j) is owner.2)

  pub few_owned : (c : Cluster) → Contains f.live c → length c.owned ≤ 4000
  few_owned c c_in =
      let few = owned_are_few (graph_of s) f reach (rises s sound) f_sound c c_in in
      let all = (graph_is_sound s sound).few_constraints in
      omega arith

  pub can_dissolve : (n : Name) (k : ConId) (c : Cluster) → IsNamed f n c → Contains c.owned k → length f.live ≤ 4294963297 → CanBeDissolved (graph_of s) f n k
  can_dissolve n k c named owns room = record {
    owner = c;
    named = named;
    owns = owns;
    others = λ j c_j differ. owned_is_constraint (graph_of s) f reach (rises s sound) c j named.lives c_j;
    room = (let few = few_owned c named.lives in omega arith);
  }
