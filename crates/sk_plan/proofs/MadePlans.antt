-- The tree of a legal plan makes a body with all nodes.
use Rattle.std.proofs.Common.{◌≡◌, inl, inr, List, [], ◌∷◌, ◌++◌, length, ap, sym, subst, ◌∙◌, length-append, arith}
use Rattle.std.specs.Prelude.{Contains, map}
use Rattle.std.proofs.lemmas.List.{map-append}
use Rattle.sk_base.specs.declared.ConId.{ConId}
use Rattle.sk_base.specs.declared.Graph.{Graph}
use Rattle.sk_base.specs.declared.Name.{Name}
use Rattle.sk_base.specs.declared.Name.TheVariants.{Con}
use Rattle.sk_base.specs.declared.Node.{Node}
use Rattle.sk_base.specs.SoundGraph.{IsSoundGraph}
use Rattle.sk_base.proofs.Members.{contains_head, contains_one, contains_mapped, mapped_from}
use Rattle.sk_family.specs.declared.Cluster.{Cluster}
use Rattle.sk_family.specs.Body.{Body, Start, starts}
use Rattle.sk_family.specs.Clusters.{Clusters, body_of, start_of, initial_clusters}
use Rattle.sk_family.proofs.GraphStarts.{no_starts}
use Rattle.sk_family.proofs.Soundness.{sound_initial}
use Rattle.sk_rules.specs.declared.Taken.{Taken}
use Rattle.sk_rules.specs.Taking.{Leads}
use Rattle.sk_tree.specs.declared.Plan.{Plan}
use Rattle.sk_tree.specs.declared.PlanStep.{PlanStep}
use Rattle.sk_tree.specs.declared.Tree.{Tree}
use Rattle.sk_tree.specs.declared.Tree.TheVariants.{Leaf}
use Rattle.sk_tree.specs.LegalPlan.{taken_told, IsLegalPlan}
use Rattle.sk_tree.specs.PlanTree.{merges_told, IsPlanTree}
use Rattle.sk_tree.specs.Trees.{IsTreeOf}
use Rattle.sk_plan.specs.MadeBy.{IsMadeBy}
use Rattle.sk_plan.proofs.Legal.{Arrives, arrives}
use Rattle.sk_plan.proofs.Grown.{initial_grown}
use Rattle.sk_plan.proofs.Finished.{last_lives, no_steps}
use Rattle.sk_plan.proofs.MadeTrees.{MakeBodies, initial_bodies_made, bodies_end}

module _ (g : Graph) (p : Plan) (sound : IsSoundGraph g) (legal : IsLegalPlan g p) where
  way : Arrives g (initial_clusters g) p.steps
  way = arrives g (initial_clusters g) p.steps legal.steps

  make : MakeBodies g (merges_told p) way.end
  make = bodies_end g [] (initial_clusters g) way.end (merges_told p) (sound_initial g sound) (initial_grown g) (initial_bodies_made g) way.leads way.once

  -- the one cluster that is left
  module _ (c : Cluster) (alone : way.end.live ≡ c ∷ []) where
    c_lives : Contains way.end.live c
    c_lives = subst (λ cs. Contains cs c) (sym alone) (contains_head c [])

    whole_made : (t : Tree) → IsPlanTree p t → IsMadeBy g t (body_of c)
    whole_made t (inl (before, last, is, tree)) =
        let told : merges_told p ≡ map taken_told before ++ taken_told last ∷ [] = ap (λ (ss : List PlanStep). map taken_told ss) is ∙ map-append taken_told before (last ∷ []) in
        let lives = last_lives g (initial_clusters g) way.end (map taken_told before) (taken_told last) (subst (λ (ts : List Taken). Leads g (initial_clusters g) ts way.end) told way.leads) in
        let same : c ≡ lives.0 = contains_one c lives.0 (subst (λ cs. Contains cs lives.0) alone lives.1) in
        let name : last.step ≡ c.name = sym lives.2 ∙ ap (λ (d : Cluster). d.name) (sym same) in
        make c c_lives t (subst (λ (n : Name). IsTreeOf (merges_told p) n t) name tree)
    whole_made t (inr (k, none, is, t_is)) =
        let first : initial_clusters g ≡ way.end = subst (λ (ss : List PlanStep). Leads g (initial_clusters g) (map taken_told ss) way.end) none way.leads in
        let (s, s_in, same) = mapped_from start_of (starts g) c (subst (λ (f : Clusters). Contains f.live c) (sym first) c_lives) in
        let among : Contains (k ∷ []) s.number = subst (λ (ks : List ConId). Contains ks s.number) (sym legal.leaves ∙ is) (contains_mapped (λ (z : Start). z.number) (starts g) s s_in) in
        let name : c.name ≡ Con k.0 = ap (λ (d : Cluster). d.name) (sym same) ∙ ap (λ (j : ConId). Con j.0) (sym (contains_one k s.number among)) in
        subst (λ (u : Tree). IsMadeBy g u (body_of c)) (sym t_is) (make c c_lives (Leaf k) name)

  pub plan_made : (t : Tree) → IsPlanTree p t → (x : Body) × IsMadeBy g t x × ((n : Node) → Contains g.nodes n → Contains x.elements n.elem)
  plan_made t tree =
      elim way.whole [
        | inl (c, alone, nodes) ↦ (body_of c, whole_made c alone t tree, nodes)
        | inr (one, no_edges, no_blocks) ↦ absurd (none_told t tree (no_steps g sound (merges_told p) way.end way.leads way.once no_edges no_blocks) (no_starts g no_edges no_blocks))
      ]
    where
      none_told : (t : Tree) → IsPlanTree p t → merges_told p ≡ [] → starts g ≡ [] → ⊥
      none_told t (inl (before, last, is, tree)) none no_start =
          let told : [] ≡ map taken_told before ++ taken_told last ∷ [] = sym none ∙ ap (λ (ss : List PlanStep). map taken_told ss) is ∙ map-append taken_told before (last ∷ []) in
          let long = ap (λ (ts : List Taken). length ts) told in
          let more = length-append (map taken_told before) (taken_told last ∷ []) in
          omega (arith, long, more)
      none_told t (inr (k, none, is, t_is)) nothing no_start =
          let told : k ∷ [] ≡ [] = sym is ∙ legal.leaves ∙ ap (λ (ss : List Start). map (λ (s : Start). s.number) ss) no_start in
          cc
