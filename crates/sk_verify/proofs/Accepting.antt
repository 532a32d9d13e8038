-- Legal steps with the choices of the drawing are right, and what holds within the tolerances holds as claimed.
use Rattle.std.proofs.Common.{◌≡◌, inl, inr, List, [], ◌∷◌, refl, subst}
use Rattle.std.specs.Prelude.{All, Contains}
use Rattle.std.proofs.lemmas.List.Elements.{All-head, All-tail, Contains-append_cases}
use Rattle.sk_base.specs.declared.Block.{Block}
use Rattle.sk_base.specs.declared.Edge.{Edge}
use Rattle.sk_base.specs.declared.Elem.{Elem}
use Rattle.sk_base.specs.declared.Graph.{Graph}
use Rattle.sk_base.specs.declared.Kind.{Kind}
use Rattle.sk_base.specs.declared.Kind.TheVariants as kinds
use Rattle.sk_base.specs.declared.Node.{Node}
use Rattle.sk_base.specs.declared.Sketch.{Sketch}
use Rattle.sk_base.proofs.Members.{contains_none, contains_head, contains_later, contains_one, mapped_from}
use Rattle.sk_base.proofs.Unions.{union_cases}
use Rattle.sk_tree.specs.DrawnChoice.{HasDrawnChoice}
use Rattle.sk_family.specs.Clusters.{Clusters, initial_clusters}
use Rattle.sk_measure.specs.Items.{Item, normal, constraint, block}
use Rattle.sk_tolerance.specs.Tolerances.{number_of, normals, normal_of_kind, between, rigid, constraints, everything, AllHoldWithin}
use Rattle.sk_tolerance.specs.Turns.{signs, AllAsDrawn}
use Rattle.sk_tree.specs.declared.PlanStep.{PlanStep}
use Rattle.sk_tree.specs.LegalPlan.{IsWhole, next_after, AreLegalSteps, IsLegalPlan}
use Rattle.sk_claims.specs.declared.Claim.{Claim}
use Rattle.sk_verify.specs.AsClaimed.{HoldsAsClaimed, plan_claimed}
use Rattle.sk_verify.specs.Failing.{AllTold, AllHoldAsClaimed, IsAccepted}
use Rattle.sk_verify.specs.RightSteps.{AreRight, after}

right_steps : (s : Sketch) (g : Graph) (f : Clusters) (steps : List PlanStep) → AreLegalSteps g f steps → All (HasDrawnChoice s) steps → AreRight s g f steps × IsWhole g (after f steps)
right_steps s g f [] whole drawn = (tt, whole)
right_steps s g f (step ∷ steps) legal drawn =
    let rest = right_steps s g (next_after f step) steps legal.1 (All-tail (HasDrawnChoice s) step steps drawn) in
    ((record { legal = legal.0; drawn = All-head (HasDrawnChoice s) step steps drawn }, rest.0), rest.1)

-- a normal is that of a line
on_normal : (nodes : List Node) (item : Item) → Contains (normals nodes) item → (e : Elem) × Contains nodes (record { elem = e; kind = kinds.Line }) × (normal e ≡ item)
on_normal [] item h = absurd (contains_none item h)
on_normal (n ∷ nodes) item h =
    elim (Contains-append_cases (normal_of_kind n.elem n.kind) (normals nodes) item h) [
      | inl here ↦ at_node n.kind refl here
      | inr later ↦ let found = on_normal nodes item later in (found.0, contains_later n nodes (record { elem = found.0; kind = kinds.Line }) found.1, found.2)
    ]
  where
    at_node : (k : Kind) → n.kind ≡ k → Contains (normal_of_kind n.elem k) item → (e : Elem) × Contains (n ∷ nodes) (record { elem = e; kind = kinds.Line }) × (normal e ≡ item)
    at_node kinds.Point is here = absurd (contains_none item here)
    at_node kinds.Line is here = (
      n.elem,
      subst (λ (k : Kind). Contains (n ∷ nodes) (record { elem = n.elem; kind = k })) is (contains_head n nodes),
      contains_one (normal n.elem) item here,
    )

hold_as_claimed : (g : Graph) (c : Claim) → AllHoldWithin c.at g c.t c.w → AllHoldAsClaimed c (everything g)
hold_as_claimed g c within item h =
    elim (Contains-append_cases (normals g.nodes) (constraints g) item h) [
      | inl line ↦ (let found = on_normal g.nodes item line in subst (HoldsAsClaimed c) found.2 (within.lines found.0 found.1))
      | inr other ↦ elim (union_cases number_of (rigid g.blocks) (between g.edges) item other) [
        | inl of_block ↦ (let found = mapped_from (λ (b : Block). block b) g.blocks item of_block in subst (HoldsAsClaimed c) found.2 (within.blocks found.0 found.1))
        | inr of_edge ↦ (let found = mapped_from (λ (e : Edge). constraint e) g.edges item of_edge in subst (HoldsAsClaimed c) found.2 (within.edges found.0 found.1))
      ]
    ]

pub accepted_so : (s : Sketch) (g : Graph) (c : Claim) → IsLegalPlan g (plan_claimed g c) → All (HasDrawnChoice s) c.steps → AllTold c s.elements → AllHoldWithin c.at g c.t c.w
    → AllAsDrawn (signs s c.at (plan_claimed g c)) → IsAccepted s g c
accepted_so s g c legal drawn told within as_drawn =
    let steps = right_steps s g (initial_clusters g) c.steps legal.steps drawn in
    record {
      met = record {
        complete = record { joined = record { steps = steps.0; whole = steps.1 }; told = told };
        holds = hold_as_claimed g c within;
      };
      signs = as_drawn;
    }
