-- Where elements are found for two lists, steps of one of them alone are placed with other signs.
use Rattle.std.proofs.Common.{◌≡◌, ◌≢◌, ℕ, Bool, true, false, cond, List, [], ◌∷◌, map, refl, sym, ap, subst, ◌∙◌}
use Rattle.std.specs.Prelude.{Contains, not, ◌||◌}
use Rattle.std.proofs.lemmas.Bool.{and_parts, not-true, not-false}
use Rattle.std.proofs.lemmas.List.Elements.{Contains-append_right}
use Rattle.sk_base.specs.declared.Name.{Name}
use Rattle.sk_base.specs.declared.Placed.{Placed}
use Rattle.sk_base.specs.declared.Sign.{Sign}
use Rattle.sk_base.specs.declared.Sign.TheVariants.{Plus, Minus}
use Rattle.sk_base.specs.declared.Sketch.{Sketch}
use Rattle.sk_base.specs.ClusterNames.{name_eq, is_named}
use Rattle.sk_base.specs.SoundSketch.{IsSoundSketch}
use Rattle.sk_base.proofs.Finding.{none_found}
use Rattle.sk_base.proofs.Members.{contains_head, contains_later, contains_mapped}
use Rattle.sk_family.specs.Clusters.{initial_clusters}
use Rattle.sk_family.proofs.Naming.{name_eq_true, named_among, unnamed_true}
use Rattle.sk_graph.specs.SketchGraph.{graph_of}
use Rattle.sk_steps.specs.Leaves.{opposite}
use Rattle.sk_tree.specs.declared.Choice.{Choice}
use Rattle.sk_tree.specs.declared.Choice.TheVariants.{Turn, Advance, Nothing}
use Rattle.sk_tree.specs.declared.Plan.{Plan}
use Rattle.sk_tree.specs.declared.PlanStep.{PlanStep}
use Rattle.sk_tree.specs.ByNumber.{by_number}
use Rattle.sk_tree.specs.LegalPlan.{IsLegalPlan}
use Rattle.sk_place.specs.declared.Layout.{Layout}
use Rattle.sk_tolerance.specs.declared.Tolerance.{Tolerance}
use Rattle.sk_tolerance.specs.declared.Turned.{Turned as SignThere}
use Rattle.sk_tolerance.specs.declared.Wanted.TheVariants.{Chosen}
use Rattle.sk_tolerance.specs.Turns.{choices, as_chosen, constraint_signs, signs_of_step, signs_of_steps, signs_wanted, value_of, AllAsDrawn}
use Rattle.sk_tolerance.proofs.Comparisons.{legal_step}
use Rattle.sk_tolerance.proofs.Worsts.{contains_flat}
use Rattle.sk_solve.specs.declared.alternative.Alternative.TheVariants.{Found}
use Rattle.sk_solve.specs.Alternatives.{placed_signs, IsAlternative}
use Rattle.sk_flips.specs.Flipping.{is_open, is_open_step, has_choice, turned, flipped_step, flipped}
use Rattle.sk_solve.proofs.OpenSteps.{open_sign}

-- a step of that name that leaves something open
open_step : (steps : List PlanStep) (n : Name) → has_choice steps n ≡ true → (step : PlanStep) × Contains steps step × (is_open_step n step ≡ true)
open_step [] n h = absurd (cc)
open_step (step ∷ steps) n h = at (is_open_step n step) refl h (open_step steps n)
  where
    at : (b : Bool) → is_open_step n step ≡ b → (b || has_choice steps n) ≡ true → (has_choice steps n ≡ true → (later : PlanStep) × Contains steps later × (is_open_step n later ≡ true))
        → (found : PlanStep) × Contains (step ∷ steps) found × (is_open_step n found ≡ true)
    at true is h rest = (step, contains_head step steps, is)
    at false is h rest = let found = rest h in (found.0, contains_later step steps found.0 found.1, found.2)

other_value : (sign : Sign) → value_of (opposite sign) ≢ value_of sign
other_value Plus e = cc
other_value Minus e = cc

-- the sign as it is wanted where the choice is turned over isn't the one where it is not
not_both_ways : (choice : Choice) (sign there : SignThere) → is_open choice ≡ true → (as_chosen (turned choice) sign).placed ≡ value_of (as_chosen (turned choice) sign).drawn
    → (as_chosen choice there).placed ≡ value_of (as_chosen choice there).drawn → sign.placed ≢ there.placed
not_both_ways (Turn wanted) sign there opens here beside same = other_value wanted (sym here ∙ (same ∙ beside))
not_both_ways (Advance wanted) sign there opens here beside same = other_value wanted (sym here ∙ (same ∙ beside))
not_both_ways Nothing sign there opens here beside same = cc

module _ (s : Sketch) (p : Plan) where
  -- the sign that is wanted of a step of the turned plan is placed so
  as_wanted_there : (at : Placed) (names : List Name) (step : PlanStep) (sign : SignThere) → AllAsDrawn (signs_wanted Chosen s at (flipped names p)) → Contains p.steps step
      → choices s at step.step (by_number step.a step.b step.c) ≡ sign ∷ [] → (there : SignThere) × (there ≡ as_chosen (flipped_step names step).choice sign) × (there.placed ≡ value_of there.drawn)
  as_wanted_there at names step sign all h one =
      let turned_over = flipped_step names step in
      let there = as_chosen turned_over.choice sign in
      let inside : Contains (flipped names p).steps turned_over = contains_mapped (flipped_step names) p.steps step h in
      let is : signs_of_step Chosen s at turned_over ≡ there ∷ [] = ap (λ (signs : List SignThere). map (as_chosen turned_over.choice) signs) one in
      let one_of : Contains (signs_of_step Chosen s at turned_over) there = subst (λ (signs : List SignThere). Contains signs there) (sym is) (contains_head there []) in
      let among : Contains (signs_of_steps Chosen s at (flipped names p).steps) there = contains_flat (signs_of_step Chosen s at) (flipped names p).steps turned_over there inside one_of in
      (there, refl, all there (Contains-append_right (constraint_signs s at s.constraints) (signs_of_steps Chosen s at (flipped names p).steps) there among))

  -- where elements are found, all signs are as they are chosen
  found_as_chosen : (G : Type 0) (placing : Layout) (F limit : ℕ) (names : List Name) (at : Placed) (tol : Tolerance) → IsAlternative G placing F limit s p names (Found at tol) → AllAsDrawn (signs_wanted Chosen s at (flipped names p))
  found_as_chosen G placing F limit names at tol (chosen, (boxes, placed, (lies, all, drawn, tolerance))) = subst (λ (here : Placed). AllAsDrawn (signs_wanted Chosen s here (flipped names p))) (sym lies) drawn

  one_sign : IsSoundSketch s → IsLegalPlan (graph_of s) p → (at : Placed) (step : PlanStep) → Contains p.steps step → is_open step.choice ≡ true → (sign : SignThere) × (choices s at step.step (by_number step.a step.b step.c) ≡ sign ∷ [])
  one_sign sound legal at step h opens =
      let taken = legal_step (graph_of s) (initial_clusters (graph_of s)) p.steps legal.steps step h in
      let differ = taken.1.joins.meets.triangle.differ in
      open_sign s at step.step step.a step.b step.c differ.0 differ.1 differ.2 sound step.choice opens taken.1.choice

  pub other_signs : (G : Type 0) (placing : Layout) (F limit : ℕ) (names others : List Name) (at there : Placed) (tol beside : Tolerance) → IsSoundSketch s → IsLegalPlan (graph_of s) p
      → IsAlternative G placing F limit s p names (Found at tol) → IsAlternative G placing F limit s p others (Found there beside)
      → (n : Name) → Contains names n → ¬ Contains others n
      → (step : PlanStep) × Contains p.steps step × (step.step ≡ n) × (placed_signs s at step ≢ placed_signs s there step)
  other_signs G placing F limit names others at there tol beside sound legal here_is there_is n n_in n_out =
      let chosen = not-false (has_choice p.steps n) (none_found (λ (m : Name). not (has_choice p.steps m)) names here_is.0 n n_in) in
      let found = open_step p.steps n chosen in
      let step = found.0 in
      let tests = and_parts (name_eq step.step n) (is_open step.choice) found.2 in
      let named : step.step ≡ n = name_eq_true step.step n tests.0 in
      let one = one_sign sound legal at step found.1 tests.1 in
      let other = one_sign sound legal there step found.1 tests.1 in
      let flips : is_named names step.step ≡ true = subst (λ (m : Name). is_named names m ≡ true) (sym named) (named_among names n n_in) in
      let stays : is_named others step.step ≡ false = subst (λ (m : Name). is_named others m ≡ false) (sym named) (not-true (is_named others n) (unnamed_true others n n_out)) in
      let wanted = as_wanted_there at names step one.0 (found_as_chosen G placing F limit names at tol here_is) found.1 one.1 in
      let unwanted = as_wanted_there there others step other.0 (found_as_chosen G placing F limit others there beside there_is) found.1 other.1 in
      let turned_is : wanted.0 ≡ as_chosen (turned step.choice) one.0 = wanted.1 ∙ ap (λ (b : Bool). as_chosen (cond b (turned step.choice) step.choice) one.0) flips in
      let kept_is : unwanted.0 ≡ as_chosen step.choice other.0 = unwanted.1 ∙ ap (λ (b : Bool). as_chosen (cond b (turned step.choice) step.choice) other.0) stays in
      let apart : one.0.placed ≢ other.0.placed = not_both_ways step.choice one.0 other.0 tests.1
      (subst (λ (sign : SignThere). sign.placed ≡ value_of sign.drawn) turned_is wanted.2)
      (subst (λ (sign : SignThere). sign.placed ≡ value_of sign.drawn) kept_is unwanted.2) in (
        step,
        found.1,
        named,
        λ same. (
            let first : one.0.placed ∷ [] ≡ other.0.placed ∷ [] = sym (ap (λ (signs : List SignThere). map (λ (sign : SignThere). sign.placed) signs) one.1) ∙ (same ∙ ap (λ (signs : List SignThere). map (λ (sign : SignThere). sign.placed) signs) other.1) in
            apart (cc first)),
      )
