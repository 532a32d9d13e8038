-- The steps of a legal plan have words in a claim.
use Rattle.std.proofs.Common.{inl, inr, ℕ, ◌+◌, ◌<◌, ◌≤◌, not, List, [], ◌∷◌, length, sym, ap, subst, arith}
use Rattle.std.specs.Prelude.{Contains}
use Rattle.std.proofs.lemmas.List.Elements.{Contains-push_cases}
use Rattle.sk_base.specs.declared.ConId.{ConId}
use Rattle.sk_base.specs.declared.Elem.{Elem}
use Rattle.sk_base.specs.declared.Graph.{Graph}
use Rattle.sk_base.specs.declared.Kind.{Kind}
use Rattle.sk_base.specs.declared.Name.{Name}
use Rattle.sk_base.specs.declared.Name.TheVariants.{Con, Step}
use Rattle.sk_base.specs.declared.Node.{Node}
use Rattle.sk_base.specs.declared.Sketch.{Sketch}
use Rattle.sk_base.specs.ClusterNames.{is_named}
use Rattle.sk_base.specs.SoundGraph.{HasNode}
use Rattle.sk_base.proofs.Members.{contains_none, contains_cases, contains_mapped, mapped_from, filtered_from}
use Rattle.sk_family.specs.declared.Cluster.{Cluster}
use Rattle.sk_family.specs.Body.{Start, starts}
use Rattle.sk_family.specs.Clusters.{Clusters, IsNamed, initial_clusters, start_of, unnamed, whole_from}
use Rattle.sk_graph.specs.SketchGraph.{graph_of, node_of}
use Rattle.sk_family.specs.Merges.{names_of}
use Rattle.sk_tree.specs.declared.Choice.{Choice}
use Rattle.sk_tree.specs.declared.Choice.TheVariants.{Turn, Advance, Nothing}
use Rattle.sk_tree.specs.declared.Plan.{Plan}
use Rattle.sk_tree.specs.declared.PlanStep.{PlanStep}
use Rattle.sk_claims.specs.ClaimText.{IsDeclared, CanBeSaid}
use Rattle.sk_claims.specs.Printed.{HasPlainNumber}
use Rattle.sk_tree.specs.LegalPlan.{numbers_of, merge_told, FitsKinds, IsLegalStep, AreLegalSteps, IsLegalPlan, next_after}

-- the names of the live clusters, and of so many steps, are plain
record IsPlain (f : Clusters) (steps : ℕ) : Type 0 where
  names : (c : Cluster) → Contains f.live c → HasPlainNumber c.name
  first : 0 < f.next_step
  room : f.next_step + steps ≤ 1000000

next_plain : (f : Clusters) (steps : ℕ) → IsPlain f (1 + steps) → HasPlainNumber (Step f.next_step)
next_plain f steps plain = (let room = plain.room in (plain.first, omega arith))

plain_merged : (f : Clusters) (steps : ℕ) (x : PlanStep) → IsPlain f (1 + steps) → IsPlain (next_after f x) steps
plain_merged f steps x plain = record {
  names = λ c there.
      let names = names_of (merge_told x) in
      let whole = whole_from (Step f.next_step) names f.live in
      elim (Contains-push_cases (unnamed names f.live) whole c there) [
        | inl early ↦ plain.names c (filtered_from (λ (d : Cluster). not (is_named names d.name)) f.live c early).0
        | inr last ↦ subst (λ (d : Cluster). HasPlainNumber d.name) last (next_plain f steps plain)
      ];
  first = let first = plain.first in omega arith;
  room = let room = plain.room in omega arith;
}

-- the element is a node
abbrev IsNode : Graph → Elem → Type 0
IsNode g e = (k : Kind) × HasNode g e k

corners : (g : Graph) (a b c : Elem) (choice : Choice) → FitsKinds g a b c choice → IsNode g a × IsNode g b × IsNode g c
corners g a b c (Turn sign) (x, y, z) = ((_, x), (_, y), (_, z))
corners g a b c (Advance sign) (inl (x, y, z)) = ((_, x), (_, y), (_, z))
corners g a b c (Advance sign) (inr (inl (y, z, x))) = ((_, x), (_, y), (_, z))
corners g a b c (Advance sign) (inr (inr (z, x, y))) = ((_, x), (_, y), (_, z))
corners g a b c Nothing (inl (x, y, z)) = ((_, x), (_, y), (_, z))
corners g a b c Nothing (inr (inl (y, z, x))) = ((_, x), (_, y), (_, z))
corners g a b c Nothing (inr (inr (z, x, y))) = ((_, x), (_, y), (_, z))

declared : (s : Sketch) (e : Elem) → IsNode (graph_of s) e → IsDeclared s e
declared s e (k, there) =
    let from = mapped_from node_of s.elements (record { elem = e; kind = k }) there in
    (from.0, from.1, ap (λ (n : Node). n.elem) from.2)

named_plain : (f : Clusters) (steps : ℕ) → IsPlain f steps → (n : Name) (c : Cluster) → IsNamed f n c → HasPlainNumber n
named_plain f steps plain n c is = subst (λ (m : Name). HasPlainNumber m) is.has_name (plain.names c is.lives)

said_here : (s : Sketch) (f : Clusters) (steps : ℕ) (x : PlanStep) → IsPlain f (1 + steps) → IsLegalStep (graph_of s) f x → CanBeSaid s x
said_here s f steps x plain legal =
    let nodes = corners (graph_of s) x.a x.b x.c x.choice legal.choice in
    record {
      step = subst (λ (n : Name). HasPlainNumber n) (sym legal.next) (next_plain f steps plain);
      one = named_plain f (1 + steps) plain x.one legal.joins.one legal.joins.one_named;
      two = named_plain f (1 + steps) plain x.two legal.joins.two legal.joins.two_named;
      three = named_plain f (1 + steps) plain x.three legal.joins.three legal.joins.three_named;
      keeps = named_plain f (1 + steps) plain x.keeps legal.keeps.1.0 legal.keeps.1.1;
      a = declared s x.a nodes.0;
      b = declared s x.b nodes.1;
      c = declared s x.c nodes.2;
    }

said_along : (s : Sketch) (f : Clusters) (steps : List PlanStep) → IsPlain f (length steps) → AreLegalSteps (graph_of s) f steps → (x : PlanStep) → Contains steps x → CanBeSaid s x
said_along s f [] plain legal x there = absurd (contains_none x there)
said_along s f (y ∷ steps) plain legal x there =
    let more : IsPlain f (1 + length steps) = record { names = plain.names; first = plain.first; room = (let room = plain.room in omega arith) } in
    elim (contains_cases y steps x there) [
      | inl same ↦ subst (λ (z : PlanStep). CanBeSaid s z) same (said_here s f (length steps) y more legal.0)
      | inr later ↦ said_along s (next_after f y) steps (plain_merged f (length steps) y more) legal.1 x later
    ]

-- where the constraints have plain numbers, and there are no more steps than plain numbers
pub said_steps : (s : Sketch) (p : Plan) → IsLegalPlan (graph_of s) p → length p.steps ≤ 999999 → ((k : ConId) → Contains (numbers_of (graph_of s)) k → HasPlainNumber (Con k.0))
    → (x : PlanStep) → Contains p.steps x → CanBeSaid s x
said_steps s p legal few plain = said_along s (initial_clusters (graph_of s)) p.steps (record {
  names = λ c there.
      let g = graph_of s in
      let from = mapped_from start_of (starts g) c there in
      subst (λ (d : Cluster). HasPlainNumber d.name) from.2 (plain from.0.number (contains_mapped (λ (y : Start). y.number) (starts g) from.0 from.1));
  first = omega arith;
  room = omega (arith, few);
}) legal.steps
