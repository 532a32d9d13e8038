-- Where a run ends well, a legal plan tells its merges, with the choices of the drawing.
use Rattle.std.proofs.Common.{◌≡◌, ◌⊎◌, inl, inr, refl, ℕ, ◌<◌, List, [], ◌∷◌, ap, sym, subst, ◌∙◌, length, arith}
use Rattle.std.specs.Prelude.{Contains, All, map, Option, Some}
use Rattle.std.proofs.lemmas.List.Elements.{All-nil, All-cons}
use Rattle.sk_base.specs.declared.Elem.{Elem}
use Rattle.sk_base.specs.declared.Name.{Name}
use Rattle.sk_base.specs.declared.Graph.{Graph}
use Rattle.sk_base.specs.declared.Sketch.{Sketch}
use Rattle.sk_base.specs.ClusterNames.{IsBelow}
use Rattle.sk_base.specs.SoundGraph.{IsSoundGraph}
use Rattle.sk_base.specs.SoundSketch.{IsSoundSketch}
use Rattle.sk_base.proofs.Members.{contains_one, contains_cases}
use Rattle.sk_base.proofs.Unions.{which}
use Rattle.sk_family.specs.declared.Cluster.{Cluster}
use Rattle.sk_family.specs.Body.{starts, initial_bodies}
use Rattle.sk_family.specs.Clusters.{Clusters, bodies, initial_clusters, IsNamed, IsSound}
use Rattle.sk_family.proofs.Naming.{below_irreflexive, below_asymmetric, below_chain, one_of_name, below_tells}
use Rattle.sk_family.proofs.Soundness.{sound_initial, starting_bodies}
use Rattle.sk_graph.specs.SketchGraph.{graph_of}
use Rattle.sk_graph.proofs.Soundness.{graph_is_sound}
use Rattle.sk_family.specs.declared.Merge.{Merge}
use Rattle.sk_rules.specs.declared.Taken.{Taken}
use Rattle.sk_rules.specs.Merges.{merged}
use Rattle.sk_rules.specs.Reach.{Reach, IsNormal, IsClosed, stays}
use Rattle.sk_rules.specs.Taking.{Leads}
use Rattle.sk_close_by_order.specs.declared.Order.{Order}
use Rattle.sk_close_by_order.specs.declared.Order.TheVariants.{First}
use Rattle.sk_close_by_order.specs.Orders.{place_of, next_call, place_below}
use Rattle.sk_close_by_order.specs.Run.{IsRun, merge_of}
use Rattle.sk_close_by_order.proofs.Runs.{none_closes}
use Rattle.sk_tree.specs.declared.Plan.{Plan}
use Rattle.sk_tree.specs.declared.PlanStep.{PlanStep}
use Rattle.sk_tree.specs.ByNumber.{by_number}
use Rattle.sk_tree.specs.LegalPlan.{merge_told, taken_told, numbers_of, IsPreferred, IsKept, IsWhole, AreLegalSteps}
use Rattle.sk_tree.proofs.Joins.{first_three, second_three, third_three}
use Rattle.sk_tree.specs.DrawnChoice.{drawn_choice, shapes_of, HasDrawnChoice}
use Rattle.sk_tree.proofs.DrawnKinds.{Draws, graph_draws}
use Rattle.sk_verdict.specs.declared.Judgement.{Judgement}
use Rattle.sk_plan.specs.Runs.{TakesOnce, EachTakesOnce}
use Rattle.sk_plan.specs.declared.error.PlanError.TheVariants.{NotWell}
use Rattle.sk_plan.specs.Judged.{HoldsWhatIsDue, IsTheJudgement, IsWell, TellsWhy}
use Rattle.sk_plan.specs.PlanBy.{fresh, IsPlanOf, IsPlanBy}
use Rattle.sk_plan.proofs.PlanTells.{plan_due}
use Rattle.sk_plan.proofs.TheJudgement.{the_judgement}
use Rattle.sk_plan.proofs.Joined.{sound_taken, sound_end, reach_more, run_normal}
use Rattle.sk_plan.proofs.Stepping.{legal_step}
use Rattle.sk_plan.proofs.WellRuns.{ends_well, run_told}
use Rattle.sk_close_by_order.proofs.SomeRuns.{SomeRun, some_run, taken_of}
use Rattle.sk_verdict.proofs.SomeJudgements.{some_judgement}

prefer_tells : (a b : Cluster) → IsPreferred a b ⊎ IsPreferred b a
prefer_tells a b =
    elim (which (length b.elements) (length a.elements)) [
      | inl fewer ↦ inl (inl fewer)
      | inr (inr more) ↦ inr (inl more)
      | inr (inl level) ↦ elim (below_tells b.name a.name) [
        | inl below ↦ inr (inr (sym level, below_asymmetric b.name a.name below))
        | inr (inl same) ↦ inl (inr (level, λ h. below_irreflexive a.name (subst (λ n. IsBelow n a.name) same h)))
        | inr (inr above) ↦ inl (inr (level, below_asymmetric a.name b.name above))
      ]
    ]

prefer_chain : (a b c : Cluster) → IsPreferred a b → IsPreferred b c → IsPreferred a c
prefer_chain a b c (inl h) (inl k) = inl (omega arith)
prefer_chain a b c (inl h) (inr (level, k)) = inl (omega arith)
prefer_chain a b c (inr (level, h)) (inl k) = inl (omega arith)
prefer_chain a b c (inr (level, h)) (inr (flat, k)) = inr (
  flat ∙ level,
  λ c_a. elim (below_tells b.name a.name) [
    | inl below ↦ h below
    | inr (inl same) ↦ k (subst (λ n. IsBelow c.name n) (sym same) c_a)
    | inr (inr above) ↦ k (below_chain c.name a.name b.name c_a above)
  ],
)

prefer_itself : (a : Cluster) → IsPreferred a a
prefer_itself a = inr (refl, below_irreflexive a.name)

module _ (f : Clusters) (sound : IsSound f) (x y z : Name) (a b c : Cluster) (a_is : IsNamed f x a) (b_is : IsNamed f y b) (c_is : IsNamed f z c) where
  kept_by : (k : Name) (w : Cluster) → Contains (x ∷ y ∷ z ∷ []) k → IsNamed f k w → IsPreferred w a → IsPreferred w b → IsPreferred w c → IsKept f (x ∷ y ∷ z ∷ []) k
  kept_by k w k_in w_is to_a to_b to_c = (
    k_in,
    (
      w,
      w_is,
      λ n d n_in d_is. elim (contains_cases x (y ∷ z ∷ []) n n_in) [
        | inl same ↦ subst (λ e. IsPreferred w e) (one_of_name f sound x a d a_is (subst (λ m. IsNamed f m d) (sym same) d_is)) to_a
        | inr rest ↦ elim (contains_cases y (z ∷ []) n rest) [
          | inl same ↦ subst (λ e. IsPreferred w e) (one_of_name f sound y b d b_is (subst (λ m. IsNamed f m d) (sym same) d_is)) to_b
          | inr last ↦ subst (λ e. IsPreferred w e) (one_of_name f sound z c d c_is (subst (λ m. IsNamed f m d) (sym (contains_one z n last)) d_is)) to_c
        ]
      ],
    ),
  )

  -- one of three clusters is preferred to the others
  some_kept : (k : Name) × IsKept f (x ∷ y ∷ z ∷ []) k
  some_kept =
      elim (prefer_tells a b) [
        | inl a_b ↦ elim (prefer_tells a c) [
          | inl a_c ↦ (x, kept_by x a (first_three x y z) a_is (prefer_itself a) a_b a_c)
          | inr c_a ↦ (z, kept_by z c (third_three x y z) c_is c_a (prefer_chain c a b c_a a_b) (prefer_itself c))
        ]
        | inr b_a ↦ elim (prefer_tells b c) [
          | inl b_c ↦ (y, kept_by y b (second_three x y z) b_is b_a (prefer_itself b) b_c)
          | inr c_b ↦ (z, kept_by z c (third_three x y z) c_is (prefer_chain c b a c_b b_a) c_b (prefer_itself c))
        ]
      ]

module _ (s : Sketch) (g : Graph) (sound : IsSoundGraph g) (draws : Draws s g) where
  record HasSteps (f : Clusters) (ts : List Taken) : Type 0 where
    steps : List PlanStep
    legal : AreLegalSteps g f steps
    told : map taken_told steps ≡ ts
    drawn : All (λ step. HasDrawnChoice s step) steps

  step_for : (t : Taken) (one two three : Name) (third : Elem) (keeps : Name) → PlanStep
  step_for t one two three third keeps = record {
    step = t.step;
    one = one;
    two = two;
    three = three;
    a = t.shared.a;
    b = t.shared.b;
    c = third;
    keeps = keeps;
    choice = drawn_choice (shapes_of s (by_number t.shared.a t.shared.b third));
  }

  made : Taken → Merge → Option Elem → Taken
  made t m c = record { step = t.step; merge = m; shared = record { a = t.shared.a; b = t.shared.b; c = c } }

  told_of : (f : Clusters) (t : Taken) (once : TakesOnce g f t) (keeps : Name) → taken_told (step_for t once.one once.two once.three once.third keeps) ≡ t
  unfolding step_for made
  told_of f t once keeps = ap (λ m. made t m (Some once.third)) (sym once.merge) ∙ ap (λ c. made t t.merge c) (sym once.shared)

  drawn_of : (t : Taken) (one two three : Name) (third : Elem) (keeps : Name) → HasDrawnChoice s (step_for t one two three third keeps)
  unfolding step_for
  drawn_of t one two three third keeps = refl

  merge_is : (f : Clusters) (t : Taken) (once : TakesOnce g f t) (keeps : Name) → t.merge ≡ merge_told (step_for t once.one once.two once.three once.third keeps)
  unfolding step_for
  merge_is f t once keeps = once.merge

  kept_is : (f : Clusters) (t : Taken) (once : TakesOnce g f t) (keeps : Name) → IsKept f (once.one ∷ once.two ∷ once.three ∷ []) keeps
      → (let step = step_for t once.one once.two once.three once.third keeps in IsKept f (step.one ∷ step.two ∷ step.three ∷ []) step.keeps)
  unfolding step_for
  kept_is f t once keeps h = h

  steps_from : (f end : Clusters) (ts : List Taken) → IsSound f → Reach g (initial_bodies g) (bodies f) → Leads g f ts end → EachTakesOnce g f ts → IsWhole g end → HasSteps f ts
  steps_from f end [] family reached is once whole =
      record { steps = []; legal = subst (λ (e : Clusters). IsWhole g e) (sym is) whole; told = refl; drawn = All-nil (λ step. HasDrawnChoice s step) }
  steps_from f end (t ∷ ts) family reached (taken, rest) (once, more) whole =
      let later = steps_from (merged f t.merge) end ts (sound_taken g f t family taken) (reach_more g f t family taken reached) rest more whole in
      let joins = once.joins in
      let kept = some_kept f family once.one once.two once.three joins.one joins.two joins.three joins.one_named joins.two_named joins.three_named in
      let step = step_for t once.one once.two once.three once.third kept.0 in
      let told = told_of f t once kept.0 in
      let choice = drawn_of t once.one once.two once.three once.third kept.0 in
      record {
        steps = step ∷ later.steps;
        legal = (
          legal_step s g sound draws f reached t taken once step told (kept_is f t once kept.0 kept.1) choice,
          subst (λ m. AreLegalSteps g (merged f m) later.steps) (merge_is f t once kept.0) later.legal,
        );
        told = ap (λ u. u ∷ map taken_told later.steps) told ∙ ap (λ us. t ∷ us) later.told;
        drawn = All-cons (λ st. HasDrawnChoice s st) step later.steps choice later.drawn;
      }

-- a run from the start, and the judgement at its end
module _ {P : Type 0} (answer : P → ℕ → ℕ) (after : P → ℕ → P) (below : (p : P) (n : ℕ) → 0 < n → answer p n < n) (p : P) where
  module _ (g : Graph) (sound : IsSoundGraph g) where
    pub the_run : SomeRun answer after g (initial_clusters g) p
    the_run = some_run answer after g below (initial_clusters g) p (sound_initial g sound)

    the_taken : (ts : List Taken) × Leads g (initial_clusters g) ts the_run.end × (map merge_of ts ≡ the_run.merges)
    the_taken = taken_of answer after g (initial_clusters g) the_run.end p the_run.last the_run.merges (sound_initial g sound) the_run.run.leads

    end_closed : IsClosed g (bodies the_run.end)
    end_closed = none_closes g the_run.end (sound_end g (initial_clusters g) the_run.end the_taken.0 (sound_initial g sound) the_taken.1) the_run.run.ends

    pub end_normal : IsNormal g (bodies the_run.end)
    end_normal = run_normal g the_taken.0 the_run.end sound the_taken.1 end_closed

    pub judgement_there : (j : Judgement) × IsTheJudgement g j
    judgement_there = (let found = some_judgement g (bodies the_run.end) in (found.0, the_judgement g (bodies the_run.end) found.0 sound end_normal found.1))

  -- where the verdict is well, the run has a plan
  pub some_plan : (s : Sketch) → IsSoundSketch s → 0 < length s.elements → IsWell (graph_of s) → (plan : Plan) × IsPlanOf answer after p s plan
  some_plan s sketch some (j, judged, well) =
      let g = graph_of s in
      let sound = graph_is_sound s sketch in
      let r = the_run g sound in
      let taken = the_taken g sound in
      let normal = end_normal g sound in
      let ends = ends_well s g refl some sound (initial_clusters g) r.end taken.0 refl taken.1 (end_closed g sound) j (judged.every (bodies r.end) normal) well in
      let start : Reach g (initial_bodies g) (bodies (initial_clusters g)) = subst (λ f. Reach g (initial_bodies g) f) (sym (starting_bodies (starts g))) stays in
      let steps = steps_from s g sound (graph_draws s sketch) (initial_clusters g) r.end taken.0 (sound_initial g sound) start ends.leads ends.once ends.whole in (
        record { leaves = numbers_of g; steps = steps.steps },
        record {
          well = (j, judged, well);
          legal = record { leaves = refl; steps = steps.legal };
          end = r.end;
          last = r.last;
          run = run_told answer after g p r.last (initial_clusters g) r.end taken.0 steps.steps refl
              (subst (λ ms. IsRun answer after g (initial_clusters g) p ms r.end r.last) (sym taken.2) r.run) steps.told;
          drawn = steps.drawn;
        },
      )

-- and so has each order
pub some_plan_by : (order : Order) (s : Sketch) → IsSoundSketch s → 0 < length s.elements → IsWell (graph_of s) → (plan : Plan) × IsPlanBy order s plan
some_plan_by order = some_plan place_of next_call place_below (fresh order)

-- so all constraints weigh what is due for all elements; where they don't, the judgement tells why there is no plan
pub well_due : (s : Sketch) → IsSoundSketch s → 0 < length s.elements → IsWell (graph_of s) → HoldsWhatIsDue (graph_of s)
well_due s sketch some well =
    let found = some_plan_by First s sketch some well in
    plan_due (graph_of s) found.0 (graph_is_sound s sketch) found.1.legal

pub not_due : (s : Sketch) (g : Graph) → g ≡ graph_of s → IsSoundSketch s → 0 < length s.elements → ¬ HoldsWhatIsDue g → (j : Judgement) → IsTheJudgement g j → TellsWhy g (NotWell j)
not_due s g is sketch some other j judged = (
  judged,
  λ well. other (subst (λ (h : Graph). HoldsWhatIsDue h) (sym is) (well_due s sketch some (subst (λ (h : Graph). IsWell h) is (j, judged, well)))),
)
