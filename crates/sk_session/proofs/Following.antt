-- The kept family stays one that merging leads to.
use Rattle.std.proofs.Common.{◌≡◌, inl, inr, sym, subst}
use Rattle.sk_base.specs.declared.ConId.{ConId}
use Rattle.sk_base.specs.declared.Name.{Name}
use Rattle.sk_base.specs.declared.Graph.{Graph}
use Rattle.sk_base.specs.declared.Sketch.{Sketch}
use Rattle.sk_family.specs.Body.{initial_bodies}
use Rattle.sk_family.specs.Clusters.{Clusters, IsSound}
use Rattle.sk_family.specs.Starts.{IsDissolved}
use Rattle.sk_rules.specs.Keeping.{HasAllBut}
use Rattle.sk_rules.proofs.KeptClusters.{adopted, dissolved, unchanged}
use Rattle.sk_graph.specs.SketchGraph.{graph_of}
use Rattle.sk_edits.specs.declared.Edit.{Edit}
use Rattle.sk_edits.specs.declared.Edit.TheVariants as edit
use Rattle.sk_edits.specs.Edits.{applied}
use Rattle.sk_plan.specs.ConstraintStarts.{constraint_start}
use Rattle.sk_edits.specs.Making.{CanMake}
use Rattle.sk_session.specs.Following.{Follows, FollowsBack, IsReachedIn}
use Rattle.sk_session.proofs.Graphs.{kinds_on, kinds_back, one_more, all_but, all_but_new, one_more_dropped, starts_same_element, starts_same_length, starts_same_ratio, starts_same_erased}
use Rattle.sk_plan.proofs.Starts.{rises}

-- without the constraint the graph has the others too
abbrev pub dissolved_in : (g h : Graph) (n : Name) (k : ConId) (old new : Clusters) → HasAllBut k g h → IsDissolved g n k old new → IsDissolved h n k old new
dissolved_in g h n k old new less d = record {
  owner = d.owner;
  named = d.named;
  live = λ c. (
    (λ x. elim ((d.live c).0 x) [
      | inl stays ↦ inl stays
      | inr (e, other, is) ↦ inr (e, record { is_start = (less e).1 (other.is_start, other.differs); owned = other.owned; differs = other.differs }, is)
    ]),
    (λ x. elim x [
      | inl stays ↦ (d.live c).1 (inl stays)
      | inr (e, other, is) ↦ (d.live c).1 (inr (e, record { is_start = ((less e).0 other.is_start).0; owned = other.owned; differs = other.differs }, is))
    ]),
  );
  next_step = d.next_step;
}

module _ (s : Sketch) (old new : Clusters) (was_sound : IsSound old) (sound : IsSound new) where
  same_on : (e : Edit) → CanMake e s → initial_bodies (graph_of (applied e s)) ≡ initial_bodies (graph_of s) → IsReachedIn s old → new ≡ old → IsReachedIn (applied e s) new
  same_on e can starts reach is =
      subst (λ f. IsReachedIn (applied e s) f) (sym is)
      (unchanged (graph_of s) (graph_of (applied e s)) old (rises (applied e s) can.stays_sound) (kinds_on e s can) was_sound reach (sym starts))

  same_back : (e : Edit) → CanMake e s → initial_bodies (graph_of (applied e s)) ≡ initial_bodies (graph_of s) → IsReachedIn (applied e s) old → new ≡ old → IsReachedIn s new
  same_back e can starts reach is =
      subst (λ f. IsReachedIn s f) (sym is)
      (unchanged (graph_of (applied e s)) (graph_of s) old (rises s can.sound) (kinds_back e s can) was_sound reach starts)

  pub follows_edit : (e : Edit) → CanMake e s → IsReachedIn s old → Follows e s old new → IsReachedIn (applied e s) new
  follows_edit (edit.Element e) can reach is = same_on (edit.Element e) can (starts_same_element s e can) reach is
  follows_edit (edit.Constraint c) can reach has =
      adopted (graph_of s) (graph_of (applied (edit.Constraint c) s)) old new (rises s can.sound) (rises (applied (edit.Constraint c) s) can.stays_sound) (kinds_on (edit.Constraint c) s can) sound reach
      (constraint_start c) (one_more s c can) has
  follows_edit (edit.Dropped k) can reach (n, (d, owns)) =
      dissolved (graph_of s) (graph_of (applied (edit.Dropped k) s)) old new (rises s can.sound) (rises (applied (edit.Dropped k) s) can.stays_sound) (kinds_on (edit.Dropped k) s can) sound reach
      was_sound n k (all_but s k can) (dissolved_in (graph_of s) (graph_of (applied (edit.Dropped k) s)) n k old new (all_but s k can) d) owns
  follows_edit (edit.Length k len) can reach is = same_on (edit.Length k len) can (starts_same_length s k len can) reach is
  follows_edit (edit.Turned k ratio) can reach is = same_on (edit.Turned k ratio) can (starts_same_ratio s k ratio can) reach is
  follows_edit (edit.Erased x) can reach is = same_on (edit.Erased x) can (starts_same_erased s x can) reach is

  pub follows_undo : (e : Edit) → CanMake e s → IsReachedIn (applied e s) old → FollowsBack e s old new → IsReachedIn s new
  follows_undo (edit.Element e) can reach is = same_back (edit.Element e) can (starts_same_element s e can) reach is
  follows_undo (edit.Constraint c) can reach (n, (d, owns)) =
      dissolved (graph_of (applied (edit.Constraint c) s)) (graph_of s) old new (rises (applied (edit.Constraint c) s) can.stays_sound) (rises s can.sound) (kinds_back (edit.Constraint c) s can) sound reach
      was_sound n c.number (all_but_new s c can) d owns
  follows_undo (edit.Dropped k) can reach (c, c_in, is_k, has) =
      adopted (graph_of (applied (edit.Dropped k) s)) (graph_of s) old new (rises (applied (edit.Dropped k) s) can.stays_sound) (rises s can.sound) (kinds_back (edit.Dropped k) s can) sound reach
      (constraint_start c) (one_more_dropped s k can c c_in is_k) has
  follows_undo (edit.Length k len) can reach is = same_back (edit.Length k len) can (starts_same_length s k len can) reach is
  follows_undo (edit.Turned k ratio) can reach is = same_back (edit.Turned k ratio) can (starts_same_ratio s k ratio can) reach is
  follows_undo (edit.Erased x) can reach is = same_back (edit.Erased x) can (starts_same_erased s x can) reach is
