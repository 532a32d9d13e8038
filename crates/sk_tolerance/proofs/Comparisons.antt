-- Which sign is the first that is turned over, and the corners of the steps of a legal plan.
use Rattle.std.proofs.Common.{inl, inr, ◌≡◌, ℕ, ◌+◌, ◌<◌, List, [], ◌∷◌, ◌++◌, length, get_or, take, refl, sym, subst, ap}
use Rattle.std.specs.Prelude.{Contains, Option, Some, None, IsSome, IsNone, IfSome, ◌↔◌}
use Rattle.std.specs.List.{flat_map}
use Rattle.std.specs.Option.{option_map}
use Rattle.std.proofs.lemmas.List.Elements.{Contains-append_right, Contains-append_cases}
use Rattle.sk_base.specs.declared.Elem.{Elem}
use Rattle.sk_base.specs.declared.Element.{Element}
use Rattle.sk_base.specs.declared.Graph.{Graph}
use Rattle.sk_base.specs.declared.Kind.{Kind}
use Rattle.sk_base.specs.declared.Name.TheVariants.{Con}
use Rattle.sk_base.specs.declared.Node.{Node}
use Rattle.sk_base.specs.declared.Sign.TheVariants.{Plus}
use Rattle.sk_base.specs.declared.Sketch.{Sketch}
use Rattle.sk_base.specs.Drawn.{shape_of}
use Rattle.sk_base.specs.SoundGraph.{HasNode}
use Rattle.sk_base.specs.SoundSketch.{IsSoundSketch}
use Rattle.sk_base.proofs.Finding.{found_rising}
use Rattle.sk_base.proofs.Members.{contains_none, contains_head, contains_cases, mapped_from}
use Rattle.sk_family.specs.Clusters.{Clusters, initial_clusters}
use Rattle.sk_graph.specs.SketchGraph.{node_of, graph_of}
use Rattle.sk_tree.specs.declared.Choice.{Choice}
use Rattle.sk_tree.specs.declared.Choice.TheVariants.{Turn, Advance, Nothing}
use Rattle.sk_tree.specs.declared.Plan.{Plan}
use Rattle.sk_tree.specs.declared.PlanStep.{PlanStep}
use Rattle.sk_tree.specs.LegalPlan.{FitsKinds, IsLegalStep, AreLegalSteps, IsLegalPlan, next_after}
use Rattle.sk_tolerance.specs.declared.turned.Turned.{Turned}
use Rattle.sk_tolerance.specs.First.{IsFirst}
use Rattle.sk_tolerance.specs.Turns.{IsAsDrawn, IsTurned, AllAsDrawn}
use Rattle.sk_tolerance.specs.Telling.{HasCorners, IsCompared}
use Rattle.sk_tolerance.proofs.Firsts.{behind, all_so_far, first_there}

excludes : (sign : Turned) → IsAsDrawn sign → ¬ IsTurned sign
excludes sign as_drawn turned = turned as_drawn

module _ {Y : Type 0} (f : Y → List Turned) (ys : List Y) (i : ℕ) (d : Y) (inside : i < length ys) where
  -- of lists that are looked through one by one
  pub as_drawn_more : AllAsDrawn (flat_map f (take i ys)) → AllAsDrawn (f (get_or ys i d)) → AllAsDrawn (flat_map f (take (i + 1) ys))
  as_drawn_more early here = all_so_far IsTurned IsAsDrawn excludes f ys i d inside early here

  pub turned_there : (sign : Turned) → AllAsDrawn (flat_map f (take i ys)) → IsFirst IsTurned (f (get_or ys i d)) sign → IsFirst IsTurned (flat_map f ys) sign
  turned_there sign early here = first_there IsTurned IsAsDrawn excludes f ys i d inside sign early here

-- where all of the first are as drawn, what is found is found in the second
pub compared_behind : (xs ys : List Turned) (o : Option Turned) → AllAsDrawn xs → IsCompared ys o → IsCompared (xs ++ ys) o
compared_behind xs ys None all rest = λ sign h. elim (Contains-append_cases xs ys sign h) [ inl early ↦ all sign early | inr late ↦ rest sign late ]
compared_behind xs ys (Some sign) all rest = behind IsTurned IsAsDrawn excludes xs ys sign all rest

-- what is found tells whether all are as drawn
pub none_exactly : (signs : List Turned) (o : Option Turned) → IsCompared signs o → IsNone o ↔ AllAsDrawn signs
none_exactly signs None compared = ((λ is. compared), (λ all. refl))
none_exactly signs (Some sign) first = (
  (λ is. absurd (cc)),
  (λ all. absurd (
      let inside : Contains signs sign = subst (λ xs. Contains xs sign) (sym first.parts) (Contains-append_right first.before (sign ∷ first.after) sign (contains_head sign first.after)) in
      first.has (all sign inside))),
)

pub some_first : (signs : List Turned) (o : Option Turned) → IsCompared signs o → IfSome o (IsFirst IsTurned signs)
some_first signs None compared = tt
some_first signs (Some sign) first = first

-- each step of a legal plan is one that its family may take
pub legal_step : (g : Graph) (f : Clusters) (steps : List PlanStep) → AreLegalSteps g f steps → (step : PlanStep) → Contains steps step → (at : Clusters) × IsLegalStep g at step
legal_step g f [] legal step h = absurd (contains_none step h)
legal_step g f (s ∷ ss) legal step h =
    elim (contains_cases s ss step h) [
      | inl here ↦ subst (λ x. (at : Clusters) × IsLegalStep g at x) here (f, legal.0)
      | inr later ↦ legal_step g (next_after f s) ss legal.1 step later
    ]

abbrev IsSomeNode : Graph → Elem → Type 0
IsSomeNode g e = (kind : Kind) × HasNode g e kind

nodes_of : (g : Graph) (a b c : Elem) (choice : Choice) → FitsKinds g a b c choice → IsSomeNode g a × IsSomeNode g b × IsSomeNode g c
nodes_of g a b c (Turn sign) h = ((_, h.0), (_, h.1), (_, h.2))
nodes_of g a b c (Advance sign) (inl h) = ((_, h.0), (_, h.1), (_, h.2))
nodes_of g a b c (Advance sign) (inr (inl h)) = ((_, h.2), (_, h.0), (_, h.1))
nodes_of g a b c (Advance sign) (inr (inr h)) = ((_, h.1), (_, h.2), (_, h.0))
nodes_of g a b c Nothing (inl h) = ((_, h.0), (_, h.1), (_, h.2))
nodes_of g a b c Nothing (inr (inl h)) = ((_, h.2), (_, h.0), (_, h.1))
nodes_of g a b c Nothing (inr (inr h)) = ((_, h.1), (_, h.2), (_, h.0))

module _ (s : Sketch) (sound : IsSoundSketch s) where
  node_drawn : (e : Elem) → IsSomeNode (graph_of s) e → IsSome (shape_of s e)
  node_drawn e (kind, node) =
      let found = mapped_from node_of s.elements (record { elem = e; kind = kind }) node in
      let number : found.0.number ≡ e = ap (λ (n : Node). n.elem) found.2 in
      let drawn = found_rising (λ (x : Element). x.number.0) s.elements sound.elements_rise found.0 found.1 in
      subst (λ (x : Elem). IsSome (shape_of s x)) number (subst (λ (o : Option Element). IsSome (option_map (λ (x : Element). x.shape) o)) (sym drawn) refl)

  -- of a step that some family may take
  pub corners_at : (f : Clusters) (step : PlanStep) → IsLegalStep (graph_of s) f step → HasCorners s step
  corners_at f step legal =
      let nodes = nodes_of (graph_of s) step.a step.b step.c step.choice legal.choice in
      record {
        differ = legal.joins.meets.triangle.differ;
        a = node_drawn step.a nodes.0;
        b = node_drawn step.b nodes.1;
        c = node_drawn step.c nodes.2;
      }

  pub corners_of : (plan : Plan) → IsLegalPlan (graph_of s) plan → (step : PlanStep) → Contains plan.steps step → HasCorners s step
  corners_of plan legal step h =
      let taken = legal_step (graph_of s) (initial_clusters (graph_of s)) plan.steps legal.steps step h in
      corners_at taken.0 step taken.1

abbrev pub any_step : PlanStep
any_step = record { step = Con 0; one = Con 0; two = Con 0; three = Con 0; a = record { 0 = 0 }; b = record { 0 = 0 }; c = record { 0 = 0 }; keeps = Con 0; choice = Turn Plus }
