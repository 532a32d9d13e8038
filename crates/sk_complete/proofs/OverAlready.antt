-- What is over isn't completed: with more constraints its parts hold as much, and a well sketch is sparse.
use Rattle.std.proofs.Common.{◌≡◌, ◌≢◌, inl, inr, ℕ, ◌+◌, ◌*◌, ◌≤◌, ◌<◌, Bool, true, false, List, [], ◌∷◌, length, refl, ap, sym, subst, ◌∙◌, arith}
use Rattle.std.specs.Prelude.{Contains, AllPairs, filter, map, nat_lt, if◌then◌else◌}
use Rattle.std.specs.List.{list_any}
use Rattle.std.proofs.lemmas.Bool.{or_cases}
use Rattle.std.proofs.lemmas.Bool.Decides.{nat_tests}
use Rattle.sk_base.specs.declared.Constraint.{Constraint}
use Rattle.sk_base.specs.declared.Elem.{Elem}
use Rattle.sk_base.specs.declared.Element.{Element}
use Rattle.sk_base.specs.declared.Graph.{Graph}
use Rattle.sk_base.specs.declared.Sketch.{Sketch}
use Rattle.sk_base.specs.Numbering.{is_elem, elem_number}
use Rattle.sk_base.specs.SoundGraph.{IsSoundGraph}
use Rattle.sk_base.specs.SoundSketch.{IsSoundSketch}
use Rattle.sk_base.proofs.Distinct.{no_longer}
use Rattle.sk_base.proofs.Members.{contains_none, contains_head, contains_later, contains_one, contains_cases}
use Rattle.sk_base.proofs.Numbers.{found_elem}
use Rattle.sk_base.proofs.Pairs.{pairs_none, pairs_cons}
use Rattle.sk_family.specs.Body.{Body, Start, starts}
use Rattle.sk_graph.specs.SketchGraph.{graph_of}
use Rattle.sk_graph.proofs.Soundness.{graph_is_sound}
use Rattle.sk_rules.specs.Excess.{weight_where, held, is_inside}
use Rattle.sk_rules.specs.Reach.{IsNormal}
use Rattle.sk_rules.proofs.Counting.{reached_tight}
use Rattle.sk_rules.proofs.SummedWeights.{weighs_one, weighs_more, none_weigh, found_inside}
use Rattle.sk_rules.proofs.WeighedGraphs.{sound_two_each}
use Rattle.sk_verdict.specs.declared.Judgement.{Judgement}
use Rattle.sk_verdict.specs.declared.Part.{Part}
use Rattle.sk_verdict.specs.declared.Verdict.TheVariants.{Well, Over, Several}
use Rattle.sk_verdict.specs.Judging.{IsOver, some_over}
use Rattle.sk_verdict.specs.Parts.{AreOfOnePart, part_with}
use Rattle.sk_verdict.proofs.Normals.{has_two}
use Rattle.sk_close_by_order.specs.declared.Order.TheVariants.{First}
use Rattle.sk_plan.specs.ConstraintStarts.{constraint_start}
use Rattle.sk_plan.specs.Judged.{IsTheJudgement, IsWell}
use Rattle.sk_plan.specs.Sparse.{weight_within}
use Rattle.sk_plan.proofs.Counts.{count_all, whole_weight}
use Rattle.sk_plan.proofs.PlanTells.{plan_sparse}
use Rattle.sk_plan.proofs.SomePlans.{some_plan_by}
use Rattle.sk_plan.proofs.Starts.{starts_are}
use Rattle.sk_complete.specs.Begun.{HasAmong, is_numbered_in}
use Rattle.sk_complete.proofs.Weighing.{kept_are}

-- where some item passes, there is one
some_passes : {X : Type 0} (p : X → Bool) (xs : List X) → list_any p xs ≡ true → (x : X) × Contains xs x × (p x ≡ true)
some_passes p [] never = absurd (cc)
some_passes p (x ∷ xs) passes =
    elim (or_cases (p x) (list_any p xs) passes) [
      | inl here ↦ (x, contains_head x xs, here)
      | inr later ↦ (let (y, y_in, there) = some_passes p xs later in (y, contains_later x xs y y_in, there))
    ]

over_by : (b c : Bool) → (if b then Over else (if c then Several else Well)) ≡ Over → b ≡ true
over_by true c is = refl
over_by false true is = absurd (cc)
over_by false false is = absurd (cc)

over_of : (d h : ℕ) → nat_lt d h ≡ true → d < h
over_of d h is = grind (arith, nat_tests)

-- a verdict that is over has a part that is over
over_part : (g : Graph) (j : Judgement) (judged : IsTheJudgement g j) → j.verdict ≡ Over → (p : Part) × AreOfOnePart g judged.normal p.elements × IsOver (part_with g p.elements)
over_part g j judged is =
    let here = judged.every judged.normal judged.is_normal in
    let (p, p_in, passes) = some_passes (λ (q : Part). nat_lt q.due q.held) j.parts (over_by (some_over j.parts) (nat_lt 1 (length j.parts)) (sym here.verdict ∙ is)) in
    let part = (here.parts p).0 p_in in
    (p, part.0, subst (λ (q : Part). IsOver q) part.1 (over_of p.due p.held passes))

-- two that differ are two
two_of_them : (u v : Elem) (xs : List Elem) → u ≢ v → Contains xs u → Contains xs v → 2 ≤ length xs
two_of_them u v xs differ u_in v_in =
    no_longer (u ∷ v ∷ []) xs
    (pairs_cons (λ (d e : Elem). d ≢ e) u (v ∷ []) (pairs_cons (λ (d e : Elem). d ≢ e) v [] (pairs_none (λ (d e : Elem). d ≢ e)) (λ e h. absurd (contains_none e h)))
    (λ e h. subst (λ (z : Elem). u ≢ z) (contains_one v e h) differ))
    (λ e h. elim (contains_cases u (v ∷ []) e h) [ inl is ↦ subst (λ (z : Elem). Contains xs z) is u_in | inr rest ↦ subst (λ (z : Elem). Contains xs z) (contains_one v e rest) v_in ])

-- those that pass weigh no more than all
weighs_no_less : (b : Bool) (x : Start) (m n : ℕ) → m ≤ n → (weighs_one b x m ≤ weighs_one b x n) × (m ≤ weighs_one b x n)
weighs_no_less true x m n less = (omega (arith, less), omega (arith, less))
weighs_no_less false x m n less = (less, less)

where_some : (q : Start → Bool) (p : Constraint → Bool) (cs : List Constraint) → weight_where q (map constraint_start (filter p cs)) ≤ weight_where q (map constraint_start cs)
where_some q p [] = omega arith
where_some q p (c ∷ cs) = told (p c) refl (where_some q p cs)
  where
    told : (b : Bool) → p c ≡ b → weight_where q (map constraint_start (filter p cs)) ≤ weight_where q (map constraint_start cs) → weight_where q (map constraint_start (filter p (c ∷ cs))) ≤ weight_where q (map constraint_start (c ∷ cs))
    told true is rest =
        rw is (
        let few = weighs_more q (constraint_start c) (map constraint_start (filter p cs)) in
        let many = weighs_more q (constraint_start c) (map constraint_start cs) in
        let one = (weighs_no_less (q (constraint_start c)) (constraint_start c) (weight_where q (map constraint_start (filter p cs))) (weight_where q (map constraint_start cs)) rest).0 in
        omega (arith, few, many, one))
    told false is rest =
        rw is (
        let many = weighs_more q (constraint_start c) (map constraint_start cs) in
        let one = (weighs_no_less (q (constraint_start c)) (constraint_start c) (weight_where q (map constraint_start (filter p cs))) (weight_where q (map constraint_start cs)) rest).1 in
        omega (arith, many, one))

-- a well sketch holds no more than is due among any two elements or more
pub few_held : (t : Sketch) → IsSoundSketch t → 0 < length t.elements → IsWell (graph_of t) → (xs : List Elem) → AllPairs (λ (d e : Elem). d ≢ e) xs → 2 ≤ length xs → held (graph_of t) xs + 3 ≤ 2 * length xs
few_held t t_sound some well xs distinct two =
    let (plan, by) = some_plan_by First t t_sound some well in
    let most = plan_sparse (graph_of t) plan (graph_is_sound t t_sound) by.legal xs distinct two in
    let less = whole_weight (is_inside xs) (weight_within xs) (starts (graph_of t))
    (λ x x_in inside. (let all = count_all (is_elem xs) x.elements (λ e e_in. found_elem xs e (found_inside xs x inside e e_in)) in omega (arith, all))) in
    omega (arith, most, less)

-- the elements of a body of a normal family differ, and are two or more
pub differing : (g : Graph) (f : List Body) → IsSoundGraph g → IsNormal g f → (x : Body) → Contains f x → AllPairs (λ (d e : Elem). d ≢ e) x.elements × (2 ≤ length x.elements)
differing g f sound normal x x_in =
    let (u, v, differ, u_in, v_in) = has_two g f sound normal x x_in in
    let rise = ((reached_tight g f sound.edges_rise normal.reached).family.rising x x_in).elements in (
      (λ i k d i_k k_in is_same. (let less = rise i k d i_k k_in in let level = ap elem_number is_same in absurd (omega (arith, less, level)))),
      two_of_them u v x.elements differ u_in v_in,
    )

module _ (s t : Sketch) (among : HasAmong s t) (s_sound : IsSoundSketch s) (t_sound : IsSoundSketch t) where
  held_more : (xs : List Elem) → held (graph_of s) xs ≤ held (graph_of t) xs
  held_more xs =
      let few : held (graph_of s) xs ≡ weight_where (is_inside xs) (map constraint_start (filter (is_numbered_in s) t.constraints)) =
      ap (λ (ss : List Start). weight_where (is_inside xs) ss) (starts_are s s_sound ∙ ap (λ (cs : List Constraint). map constraint_start cs) (sym (kept_are s t among t_sound))) in
      let many : held (graph_of t) xs ≡ weight_where (is_inside xs) (map constraint_start t.constraints) = ap (λ (ss : List Start). weight_where (is_inside xs) ss) (starts_are t t_sound) in
      let less = where_some (is_inside xs) (is_numbered_in s) t.constraints in
      omega (arith, few, many, less)

  pub over_already : (j : Judgement) → IsTheJudgement (graph_of s) j → j.verdict ≡ Over → 0 < length s.elements → ¬ IsWell (graph_of t)
  over_already j judged is some well =
      let (p, part, over) = over_part (graph_of s) j judged is in
      told p.elements part over
    where
      told : (xs : List Elem) → AreOfOnePart (graph_of s) judged.normal xs → IsOver (part_with (graph_of s) xs) → ⊥
      told xs (inl (x, x_in, same)) over =
          let sound = graph_is_sound s s_sound in
          let (apart, two) = differing (graph_of s) judged.normal sound judged.is_normal x x_in in
          let over_there : IsOver (part_with (graph_of s) x.elements) = subst (λ (ys : List Elem). IsOver (part_with (graph_of s) ys)) (sym same) over in
          let few = few_held t t_sound (subst (λ (es : List Element). 0 < length es) (sym among.elements) some) well x.elements apart two in
          let grows = held_more x.elements in
          omega (arith, over_there, few, grows, two)
      told xs (inr (e, lone, same)) over =
          let over_there : IsOver (part_with (graph_of s) (e ∷ [])) = subst (λ (ys : List Elem). IsOver (part_with (graph_of s) ys)) (sym same) over in
          let nothing = none_weigh (is_inside (e ∷ [])) (starts (graph_of s)) (λ x x_in inside. (
          let (u, v, differ, u_in, v_in) = sound_two_each (graph_of s) (graph_is_sound s s_sound) x x_in in
          absurd (differ (sym (contains_one e u (found_inside (e ∷ []) x inside u u_in)) ∙ contains_one e v (found_inside (e ∷ []) x inside v v_in))))) in
          omega (arith, over_there, nothing)
