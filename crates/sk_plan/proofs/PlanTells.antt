-- What a legal plan tells of its graph.
use Rattle.std.proofs.Common.{◌≡◌, inl, inr, ◌+◌, ◌-◌, ◌*◌, [], List, length, ap, arith}
use Rattle.std.specs.Prelude.{map, sum_by, count_by}
use Rattle.std.proofs.lemmas.List.{length-map}
use Rattle.sk_base.specs.declared.Edge.{Edge}
use Rattle.sk_base.specs.declared.Graph.{Graph}
use Rattle.sk_base.specs.SoundGraph.{IsSoundGraph}
use Rattle.sk_family.specs.declared.Cluster.{Cluster}
use Rattle.sk_family.specs.Body.{Start}
use Rattle.sk_family.specs.Clusters.{initial_clusters}
use Rattle.sk_family.proofs.GraphStarts.{starts_many, no_starts}
use Rattle.sk_rules.specs.declared.Taken.{Taken}
use Rattle.sk_rules.specs.Excess.{has_ends_in}
use Rattle.sk_tree.specs.declared.Plan.{Plan}
use Rattle.sk_tree.specs.declared.PlanStep.{PlanStep}
use Rattle.sk_tree.specs.LegalPlan.{taken_told, IsLegalPlan}
use Rattle.sk_plan.specs.Judged.{HoldsWhatIsDue}
use Rattle.sk_plan.specs.Sparse.{weight_within, IsSparse, HasFewAngles}
use Rattle.sk_plan.proofs.Legal.{Arrives, arrives}
use Rattle.sk_plan.proofs.Finished.{clusters_left, one_steps, one_due, one_sparse, one_few_angles, none_due, no_steps}

taken_length : (ss : List PlanStep) → length (map taken_told ss) ≡ length ss
taken_length ss = length-map ss taken_told

module _ (g : Graph) (p : Plan) (sound : IsSoundGraph g) (legal : IsLegalPlan g p) where
  way : Arrives g (initial_clusters g) p.steps
  way = arrives g (initial_clusters g) p.steps legal.steps

  -- two steps for each constraint but one
  pub plan_steps : 2 * length p.steps ≡ length g.edges + length g.blocks - 1
  plan_steps =
      let same = taken_length p.steps in
      let all = starts_many g sound in
      let left = clusters_left g sound (map taken_told p.steps) way.end way.leads way.once in
      elim way.whole [
        | inl (c, alone, nodes) ↦ (let one = ap (λ (cs : List Cluster). length cs) alone in omega arith)
        | inr (one, none, no_blocks) ↦ (let no = ap (λ (ss : List Start). length ss) (no_starts g none no_blocks) in omega arith)
      ]

  pub plan_nodes : g.blocks ≡ [] → length p.steps ≡ length g.nodes - 2
  plan_nodes blockless = (let same = taken_length p.steps in elim way.whole [
    | inl (c, alone, nodes) ↦ (let two = one_steps g sound (map taken_told p.steps) way.end way.leads way.once c alone nodes blockless in omega arith)
    | inr (one, none, no_blocks) ↦ (let no = ap (λ (ts : List Taken). length ts) (no_steps g sound (map taken_told p.steps) way.end way.leads way.once none no_blocks) in omega arith)
  ])

  -- all constraints weigh what is due for all nodes
  pub plan_due : HoldsWhatIsDue g
  plan_due = elim way.whole [
    | inl (c, alone, nodes) ↦ one_due g sound (map taken_told p.steps) way.end way.leads way.once c alone nodes
    | inr (one, none, no_blocks) ↦ none_due g one none no_blocks
  ]

  pub plan_sparse : IsSparse g
  plan_sparse xs distinct two = elim way.whole [
    | inl (c, alone, nodes) ↦ one_sparse g sound (map taken_told p.steps) way.end way.leads way.once c alone xs distinct two
    | inr (one, none, no_blocks) ↦ (let no = ap (λ (ss : List Start). sum_by (weight_within xs) ss) (no_starts g none no_blocks) in omega arith)
  ]

  pub plan_few_angles : HasFewAngles g
  plan_few_angles xs distinct lines some = elim way.whole [
    | inl (c, alone, nodes) ↦ one_few_angles g sound (map taken_told p.steps) way.end way.leads way.once c alone xs distinct lines some
    | inr (one, none, no_blocks) ↦ (let no = ap (λ (es : List Edge). count_by (has_ends_in xs) es) none in omega arith)
  ]
