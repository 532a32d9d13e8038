-- Right steps that leave the whole are those of a legal plan, and what else an accepted claim says.
use Rattle.std.proofs.Common.{◌≡◌, List, [], ◌∷◌, refl}
use Rattle.std.specs.Prelude.{All, Contains}
use Rattle.std.proofs.lemmas.List.Elements.{All-nil, All-cons, Contains-append_left, Contains-append_right}
use Rattle.sk_base.specs.declared.Edge.{Edge}
use Rattle.sk_base.specs.declared.Graph.{Graph}
use Rattle.sk_base.specs.declared.Kind.TheVariants as kinds
use Rattle.sk_base.specs.declared.Node.{Node}
use Rattle.sk_base.specs.declared.Sketch.{Sketch}
use Rattle.sk_base.specs.SoundGraph.{IsSoundGraph, HasRisingBlocks, HasBlocksApart}
use Rattle.sk_base.proofs.Members.{contains_head, contains_mapped}
use Rattle.sk_base.proofs.Unions.{union_right}
use Rattle.sk_tree.specs.DrawnChoice.{HasDrawnChoice}
use Rattle.sk_family.specs.Clusters.{Clusters, initial_clusters}
use Rattle.sk_graph.specs.SketchGraph.{graph_of}
use Rattle.sk_measure.specs.Placing.{PlacesExactly}
use Rattle.sk_measure.specs.Items.{Item, normal, constraint, block}
use Rattle.sk_tolerance.specs.Tolerances.{number_of, normals, normal_of_kind, between, rigid, constraints, AllHoldWithin}
use Rattle.sk_tolerance.proofs.Merging.{block_in}
use Rattle.sk_tolerance.proofs.Worsts.{contains_flat}
use Rattle.sk_tree.specs.declared.PlanStep.{PlanStep}
use Rattle.sk_tree.specs.LegalPlan.{IsWhole, next_after, AreLegalSteps, IsLegalPlan}
use Rattle.sk_claims.specs.declared.Claim.{Claim}
use Rattle.sk_claims.specs.Claims.{IsFitting}
use Rattle.sk_verify.specs.AsClaimed.{HoldsAsClaimed, plan_claimed}
use Rattle.sk_verify.specs.Failing.{IsJoined, IsAccepted}
use Rattle.sk_verify.specs.RightSteps.{AreRight, after}
use Rattle.sk_verify.proofs.Complete.{told_exactly}

legal_steps : (s : Sketch) (g : Graph) (f : Clusters) (steps : List PlanStep) → AreRight s g f steps → IsWhole g (after f steps) → AreLegalSteps g f steps
legal_steps s g f [] right whole = whole
legal_steps s g f (step ∷ steps) right whole = (right.0.legal, legal_steps s g (next_after f step) steps right.1 whole)

pub legal_claimed : (s : Sketch) (g : Graph) (c : Claim) → IsJoined s g c → IsLegalPlan g (plan_claimed g c)
legal_claimed s g c joined = record { leaves = refl; steps = legal_steps s g (initial_clusters g) c.steps joined.steps joined.whole }

drawn_choices : (s : Sketch) (g : Graph) (f : Clusters) (steps : List PlanStep) → AreRight s g f steps → All (HasDrawnChoice s) steps
drawn_choices s g f [] right = All-nil (HasDrawnChoice s)
drawn_choices s g f (step ∷ steps) right = All-cons (HasDrawnChoice s) step steps right.0.drawn (drawn_choices s g (next_after f step) steps right.1)

module _ (s : Sketch) (g : Graph) (c : Claim) (is : IsAccepted s g c) where
  pub legal : IsLegalPlan g (plan_claimed g c)
  legal = legal_claimed s g c is.met.complete.joined

  pub drawn : All (HasDrawnChoice s) c.steps
  drawn = drawn_choices s g (initial_clusters g) c.steps is.met.complete.joined.steps

  pub placed : g ≡ graph_of s → IsSoundGraph g → IsFitting g c → PlacesExactly g c.at
  placed same sound fits = told_exactly s g same sound c fits is.met.complete.told

  of_constraints : (item : Item) → Contains (constraints g) item → HoldsAsClaimed c item
  of_constraints item inside = is.met.holds item (Contains-append_right (normals g.nodes) (constraints g) item inside)

  pub holds : HasRisingBlocks g → HasBlocksApart g → AllHoldWithin c.at g c.t c.w
  holds rise apart = record {
    lines = λ line node. is.met.holds (normal line) (Contains-append_left (normals g.nodes) (constraints g) (normal line) (contains_flat (λ (n : Node). normal_of_kind n.elem n.kind) g.nodes (record { elem = line; kind = kinds.Line }) (normal line) node (contains_head (normal line) [])));
    edges = λ e inside. of_constraints (constraint e) (union_right number_of (rigid g.blocks) (between g.edges) (constraint e) (contains_mapped (λ (x : Edge). constraint x) g.edges e inside));
    blocks = λ b inside. of_constraints (block b) (block_in g rise apart b inside);
  }
