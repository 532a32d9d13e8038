-- The merges of a legal plan and the drawing tell the whole plan, so a picker and an order have one.
use Rattle.std.proofs.Common.{◌≡◌, inl, inr, refl, ℕ, List, [], ◌∷◌, ap, sym, subst, ◌∙◌, arith}
use Rattle.std.specs.Prelude.{map, All, Contains}
use Rattle.std.proofs.lemmas.List.Elements.{All-head, All-tail}
use Rattle.sk_base.specs.declared.Elem.{Elem}
use Rattle.sk_base.specs.declared.ConId.{ConId}
use Rattle.sk_base.specs.declared.Name.{Name}
use Rattle.sk_base.specs.declared.Graph.{Graph}
use Rattle.sk_base.specs.declared.Sketch.{Sketch}
use Rattle.sk_base.specs.ClusterNames.{IsBelow}
use Rattle.sk_base.specs.SoundGraph.{IsSoundGraph}
use Rattle.sk_base.proofs.Pairs.{pairs_tell}
use Rattle.sk_family.specs.declared.Cluster.{Cluster}
use Rattle.sk_family.specs.Clusters.{Clusters, IsNamed, IsSound, initial_clusters}
use Rattle.sk_family.proofs.Naming.{ByName, one_of_name}
use Rattle.sk_family.proofs.Soundness.{sound_initial}
use Rattle.sk_graph.specs.SketchGraph.{graph_of}
use Rattle.sk_family.specs.declared.Merge.{Merge}
use Rattle.sk_rules.specs.Merges.{merged}
use Rattle.sk_family.specs.Rules.{IsShared}
use Rattle.sk_close_by_order.specs.declared.Order.{Order}
use Rattle.sk_close_by_order.specs.Choices.{AreChoices}
use Rattle.sk_close_by_order.specs.Orders.{place_of, next_call}
use Rattle.sk_close_by_order.proofs.OneRun.{choices_are_one, runs_are_one}
use Rattle.sk_tree.specs.declared.Choice.{Choice}
use Rattle.sk_tree.specs.declared.PlanStep.{PlanStep}
use Rattle.sk_tree.specs.declared.Plan.{Plan}
use Rattle.sk_tree.specs.Meeting.{JoinsOnce}
use Rattle.sk_tree.specs.LegalPlan.{merge_told, taken_told, IsKept, IsPreferred, IsLegalStep, AreLegalSteps, IsLegalPlan, next_after}
use Rattle.sk_tree.specs.ByNumber.{by_number}
use Rattle.sk_tree.specs.DrawnChoice.{HasDrawnChoice, shapes_of, drawn_choice}
use Rattle.sk_plan.specs.PlanBy.{fresh, IsPlanOf, IsPlanBy}
use Rattle.sk_plan.proofs.Legal.{step_taken}
use Rattle.sk_plan.proofs.Joined.{sound_taken}

module _ (f : Clusters) (sound : IsSound f) where
  -- two live clusters, each preferred to the other, are one
  one_preferred : (a b : Cluster) → Contains f.live a → Contains f.live b → IsPreferred a b → IsPreferred b a → a ≡ b
  one_preferred a b a_in b_in over back =
      elim (pairs_tell ByName f.live sound.names_rise a b a_in b_in) [
        | inl same ↦ same
        | inr (inl before) ↦ absurd (against a b before over back)
        | inr (inr after) ↦ absurd (against b a after back over)
      ]
    where
      against : (a b : Cluster) → IsBelow a.name b.name → IsPreferred a b → IsPreferred b a → ⊥
      against a b before (inl more) (inl less) = omega (arith, more, less)
      against a b before (inl more) (inr (level, other)) = omega (arith, more, level)
      against a b before (inr (level, other)) (inl less) = omega (arith, level, less)
      against a b before (inr (level, other)) (inr (level', not_before)) = not_before before

  one_kept : (names : List Name) (k j : Name) → IsKept f names k → IsKept f names j → k ≡ j
  one_kept names k j (k_in, (a, a_is, a_best)) (j_in, (b, b_is, b_best)) =
      let same : a ≡ b = one_preferred a b a_is.lives b_is.lives (a_best j b j_in b_is) (b_best k a k_in a_is) in
      sym a_is.has_name ∙ ap (λ (c : Cluster). c.name) same ∙ b_is.has_name

  -- the elements at which three clusters meet once
  module _ (g : Graph) (x y z : Name) (a b c a' b' c' : Elem) (one : JoinsOnce g f x y z a b c) (other : JoinsOnce g f x y z a' b' c') where
    shared_also : (n m : Name) (p q p' q' : Cluster) (e : Elem) → IsNamed f n p → IsNamed f n p' → IsNamed f m q → IsNamed f m q' → IsShared p'.elements q'.elements e → IsShared p.elements q.elements e
    shared_also n m p q p' q' e p_is p'_is q_is q'_is shared =
        subst (λ (d : Cluster). IsShared d.elements q.elements e) (one_of_name f sound n p' p p'_is p_is)
        (subst (λ (d : Cluster). IsShared p'.elements d.elements e) (one_of_name f sound m q' q q'_is q_is) shared)

    same_a : a' ≡ a
    same_a = one.meets.only_a a' (shared_also x y one.one one.two other.one other.two a' one.one_named other.one_named one.two_named other.two_named other.meets.triangle.a_shared)

    same_b : b' ≡ b
    same_b = one.meets.only_b b' (shared_also y z one.two one.three other.two other.three b' one.two_named other.two_named one.three_named other.three_named other.meets.triangle.b_shared)

    same_c : c' ≡ c
    same_c = one.meets.only_c c' (shared_also z x one.three one.one other.three other.one c' one.three_named other.three_named one.one_named other.one_named other.meets.triangle.c_shared)

abbrev step_with : Name → Name → Name → Name → Elem → Elem → Elem → Name → Choice → PlanStep
step_with step one two three a b c keeps choice = record { step = step; one = one; two = two; three = three; a = a; b = b; c = c; keeps = keeps; choice = choice }

same_fields : {step step' one one' two two' three three' : Name} {a a' b b' c c' : Elem} {keeps keeps' : Name} {choice choice' : Choice}
    → step ≡ step' → one ≡ one' → two ≡ two' → three ≡ three' → a ≡ a' → b ≡ b' → c ≡ c' → keeps ≡ keeps' → choice ≡ choice'
    → step_with step one two three a b c keeps choice ≡ step_with step' one' two' three' a' b' c' keeps' choice'
same_fields step_is one_is two_is three_is a_is b_is c_is keeps_is choice_is =
    rw (step_is, one_is, two_is, three_is, a_is, b_is, c_is, keeps_is, choice_is) refl

-- a step is told by its merge and the drawing
same_step : (g : Graph) (f : Clusters) (s : Sketch) (x y : PlanStep) → IsSound f → IsLegalStep g f x → IsLegalStep g f y → merge_told x ≡ merge_told y → HasDrawnChoice s x → HasDrawnChoice s y → x ≡ y
same_step g f s x y sound x_legal y_legal same x_drawn y_drawn =
    let one_is : x.one ≡ y.one = cc same in
    let two_is : x.two ≡ y.two = cc same in
    let three_is : x.three ≡ y.three = cc same in
    let joins : JoinsOnce g f x.one x.two x.three y.a y.b y.c = rw (one_is, two_is, three_is) y_legal.joins in
    let keeps : IsKept f (x.one ∷ x.two ∷ x.three ∷ []) y.keeps = rw (one_is, two_is, three_is) y_legal.keeps in
    let a_is : x.a ≡ y.a = sym (same_a f sound g x.one x.two x.three x.a x.b x.c y.a y.b y.c x_legal.joins joins) in
    let b_is : x.b ≡ y.b = sym (same_b f sound g x.one x.two x.three x.a x.b x.c y.a y.b y.c x_legal.joins joins) in
    let c_is : x.c ≡ y.c = sym (same_c f sound g x.one x.two x.three x.a x.b x.c y.a y.b y.c x_legal.joins joins) in
    let choice_is : x.choice ≡ y.choice =
    x_drawn ∙ ap (λ e. drawn_choice (shapes_of s (by_number e x.b x.c))) a_is
    ∙ ap (λ e. drawn_choice (shapes_of s (by_number y.a e x.c))) b_is
    ∙ ap (λ e. drawn_choice (shapes_of s (by_number y.a y.b e))) c_is ∙ sym y_drawn in
    same_fields (x_legal.next ∙ sym y_legal.next) one_is two_is three_is a_is b_is c_is (one_kept f sound (x.one ∷ x.two ∷ x.three ∷ []) x.keeps y.keeps x_legal.keeps keeps) choice_is

same_steps : (g : Graph) (f : Clusters) (s : Sketch) (xs ys : List PlanStep) → IsSound f → AreLegalSteps g f xs → AreLegalSteps g f ys → map merge_told xs ≡ map merge_told ys
    → All (λ x. HasDrawnChoice s x) xs → All (λ y. HasDrawnChoice s y) ys → xs ≡ ys
same_steps g f s [] [] sound xs_legal ys_legal same xs_drawn ys_drawn = refl
same_steps g f s [] (y ∷ ys) sound xs_legal ys_legal same xs_drawn ys_drawn = absurd (cc)
same_steps g f s (x ∷ xs) [] sound xs_legal ys_legal same xs_drawn ys_drawn = absurd (cc)
same_steps g f s (x ∷ xs) (y ∷ ys) sound (x_legal, xs_legal) (y_legal, ys_legal) same xs_drawn ys_drawn =
    let here : merge_told x ≡ merge_told y = cc same in
    let later : map merge_told xs ≡ map merge_told ys = cc same in
    let step_is : x ≡ y = same_step g f s x y sound x_legal y_legal here (All-head (λ z. HasDrawnChoice s z) x xs xs_drawn) (All-head (λ z. HasDrawnChoice s z) y ys ys_drawn) in
    let sound_on : IsSound (next_after f x) = sound_taken g f (taken_told x) sound (step_taken g f x x_legal) in
    let rest : xs ≡ ys = same_steps g (next_after f x) s xs ys sound_on xs_legal (subst (λ (m : Merge). AreLegalSteps g (merged f m) ys) (sym here) ys_legal) later
    (All-tail (λ z. HasDrawnChoice s z) x xs xs_drawn) (All-tail (λ z. HasDrawnChoice s z) y ys ys_drawn) in
    ap (λ z. z ∷ xs) step_is ∙ ap (λ zs. y ∷ zs) rest

same_parts : {leaves leaves' : List ConId} {steps steps' : List PlanStep} → leaves ≡ leaves' → steps ≡ steps'
    → (let one : Plan = record { leaves = leaves; steps = steps } in let other : Plan = record { leaves = leaves'; steps = steps' } in one ≡ other)
same_parts leaves_are steps_are = rw (leaves_are, steps_are) refl

pub same_plan : (g : Graph) (s : Sketch) (p q : Plan) → IsSoundGraph g → IsLegalPlan g p → IsLegalPlan g q → map merge_told p.steps ≡ map merge_told q.steps
    → All (λ x. HasDrawnChoice s x) p.steps → All (λ y. HasDrawnChoice s y) q.steps → p ≡ q
same_plan g s p q sound p_legal q_legal same p_drawn q_drawn =
    same_parts (p_legal.leaves ∙ sym q_legal.leaves)
    (same_steps g (initial_clusters g) s p.steps q.steps (sound_initial g sound) p_legal.steps q_legal.steps same p_drawn q_drawn)

-- a picker has one plan of a sketch
pub one_plan_of : {P : Type 0} (answer : P → ℕ → ℕ) (after : P → ℕ → P) (picker : P) (s : Sketch) (p q : Plan) → IsSoundGraph (graph_of s) → IsPlanOf answer after picker s p → IsPlanOf answer after picker s q → p ≡ q
one_plan_of answer after picker s p q sound first second =
    let g = graph_of s in
    let merges = runs_are_one (AreChoices g) (choices_are_one g) answer after (initial_clusters g) picker (map merge_told p.steps) (map merge_told q.steps) first.end second.end first.last second.last
    first.run.leads first.run.ends second.run.leads second.run.ends in
    same_plan g s p q sound first.legal second.legal merges.0 first.drawn second.drawn

-- and so has an order
pub one_plan_by : (order : Order) (s : Sketch) (p q : Plan) → IsSoundGraph (graph_of s) → IsPlanBy order s p → IsPlanBy order s q → p ≡ q
one_plan_by order = one_plan_of place_of next_call (fresh order)
