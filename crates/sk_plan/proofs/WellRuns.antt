-- A run from the start that ends with the verdict well.
use Rattle.std.proofs.Common.{◌≡◌, ◌<◌, ◌+◌, ◌-◌, ◌*◌, ℕ, suc, List, [], ◌∷◌, length, refl, ap, sym, subst, ◌∙◌, arith}
use Rattle.std.specs.Prelude.{map}
use Rattle.std.specs.List.{filter_map, cons_option}
use Rattle.std.proofs.lemmas.List.{length-map}
use Rattle.sk_base.specs.declared.Graph.{Graph}
use Rattle.sk_base.specs.declared.Sketch.{Sketch}
use Rattle.sk_base.specs.declared.Constraint.{Constraint}
use Rattle.sk_base.specs.declared.Rule.{Rule}
use Rattle.sk_base.specs.declared.Rule.TheVariants as rules_of
use Rattle.sk_base.specs.declared.Rule.TheVariants.{Distance, On, Tangent, Outside, Inside, Angle}
use Rattle.sk_base.specs.SoundGraph.{IsSoundGraph}
use Rattle.sk_base.specs.SoundSketch.{IsSoundSketch}
use Rattle.sk_family.specs.Clusters.{Clusters, bodies, initial_clusters}
use Rattle.sk_family.proofs.Soundness.{sound_initial}
use Rattle.sk_graph.specs.SketchGraph.{node_of, edge_of, block_of, rule_edge, rule_block, graph_of}
use Rattle.sk_graph.proofs.Soundness.{graph_is_sound}
use Rattle.sk_family.specs.declared.Merge.{Merge}
use Rattle.sk_rules.specs.declared.Taken.{Taken}
use Rattle.sk_rules.specs.Reach.{IsClosed}
use Rattle.sk_rules.specs.Taking.{Leads}
use Rattle.sk_close_by_order.specs.Run.{IsRun, merge_of}
use Rattle.sk_tree.specs.declared.Plan.{Plan}
use Rattle.sk_tree.specs.declared.PlanStep.{PlanStep}
use Rattle.sk_tree.specs.LegalPlan.{merge_told, taken_told, numbers_of, AreLegalSteps, IsWhole}
use Rattle.sk_verdict.specs.declared.Judgement.{Judgement}
use Rattle.sk_verdict.specs.declared.Verdict.TheVariants.{Well}
use Rattle.sk_verdict.specs.Judging.{IsJudgement}
use Rattle.sk_plan.specs.Runs.{EachTakesOnce}
use Rattle.sk_plan.proofs.Joined.{run_normal, run_joins_once, sound_end}
use Rattle.sk_plan.proofs.PlanTells.{plan_steps, plan_nodes}
use Rattle.sk_plan.proofs.Wells.{none_too_many, whole}

-- it leads to the whole, by merges of clusters that meet once
pub record EndsWell (g : Graph) (taken : List Taken) (end : Clusters) : Type 0 where
  pub leads : Leads g (initial_clusters g) taken end
  pub whole : IsWhole g end
  pub once : EachTakesOnce g (initial_clusters g) taken

pub sound_of : (s : Sketch) (g : Graph) → IsSoundSketch s → g ≡ graph_of s → IsSoundGraph g
sound_of s g sound is = subst (λ (h : Graph). IsSoundGraph h) (sym is) (graph_is_sound s sound)

pub some_nodes : (s : Sketch) (g : Graph) → g ≡ graph_of s → length g.nodes ≡ length s.elements
some_nodes s g is = ap (λ (h : Graph). length h.nodes) is ∙ length-map s.elements node_of

pub ends_well : (s : Sketch) (g : Graph) → g ≡ graph_of s → 0 < length s.elements → IsSoundGraph g → (start end : Clusters) (taken : List Taken) → start ≡ initial_clusters g → Leads g start taken end → IsClosed g (bodies end)
    → (j : Judgement) → IsJudgement g (bodies end) j → j.verdict ≡ Well → EndsWell g taken end
ends_well s g is some sound start end taken start_is from_start closed j judged well =
    let leads : Leads g (initial_clusters g) taken end = subst (λ (f : Clusters). Leads g f taken end) start_is from_start in
    let normal = run_normal g taken end sound leads closed in
    let family = sound_end g (initial_clusters g) end taken (sound_initial g sound) leads in
    let nodes = some_nodes s g is in
    record {
      leads = leads;
      whole = whole g sound end family normal j judged well (omega arith);
      once = run_joins_once g taken end sound leads closed (none_too_many g sound end family normal j judged well);
    }

-- the steps tell the merges of the run
told_merges : (steps : List PlanStep) → map merge_told steps ≡ map merge_of (map taken_told steps)
told_merges [] = refl
told_merges (s ∷ ss) = ap (λ (ms : List Merge). merge_told s ∷ ms) (told_merges ss)

module _ {P : Type 0} (answer : P → ℕ → ℕ) (after : P → ℕ → P) where
  pub run_told : (g : Graph) (p last : P) (start end : Clusters) (taken : List Taken) (steps : List PlanStep) → start ≡ initial_clusters g → IsRun answer after g start p (map merge_of taken) end last → map taken_told steps ≡ taken
      → IsRun answer after g (initial_clusters g) p (map merge_told steps) end last
  run_told g p last start end taken steps is run told =
      let merges : map merge_told steps ≡ map merge_of taken = told_merges steps ∙ ap (λ (ts : List Taken). map merge_of ts) told in
      subst (λ (f : Clusters). IsRun answer after g f p (map merge_told steps) end last) is
      (subst (λ (ms : List Merge). IsRun answer after g start p ms end last) (sym merges) run)

-- each constraint is an edge of the graph, or a block
each_given : (s : Sketch) (cs : List Constraint) → length (filter_map (edge_of s) cs) + length (filter_map block_of cs) ≡ length cs
each_given s [] = refl
each_given s (c ∷ cs) = told c.rule (each_given s cs)
  where
    told : (r : Rule) → length (filter_map (edge_of s) cs) + length (filter_map block_of cs) ≡ length cs
        → length (cons_option (rule_edge s c.number r) (filter_map (edge_of s) cs)) + length (cons_option (rule_block c.number r) (filter_map block_of cs)) ≡ suc (length cs)
    told (Distance u v len) h = omega arith
    told (On u v) h = omega arith
    told (Tangent u v) h = omega arith
    told (Outside u v) h = omega arith
    told (Inside u v) h = omega arith
    told (Angle u v ratio) h = omega arith
    told (rules_of.Block pins) h = omega arith

all_constraints : (s : Sketch) (g : Graph) → g ≡ graph_of s → length g.edges + length g.blocks ≡ length s.constraints
all_constraints s g is = ap (λ (h : Graph). length h.edges + length h.blocks) is ∙ each_given s s.constraints

module _ (s : Sketch) (g : Graph) (is : g ≡ graph_of s) (sound : IsSoundGraph g) (steps : List PlanStep) (legal : AreLegalSteps g (initial_clusters g) steps) where
  plan : Plan
  plan = record { leaves = numbers_of g; steps = steps }

  pub steps_count : 2 * length steps ≡ length s.constraints - 1
  unfolding plan
  steps_count = plan_steps g plan sound (record { leaves = refl; steps = legal }) ∙ ap (λ (n : ℕ). n - 1) (all_constraints s g is)

  pub nodes_count : g.blocks ≡ [] → length steps ≡ length s.elements - 2
  unfolding plan
  nodes_count none = plan_nodes g plan sound (record { leaves = refl; steps = legal }) none ∙ ap (λ (n : ℕ). n - 2) (some_nodes s g is)
