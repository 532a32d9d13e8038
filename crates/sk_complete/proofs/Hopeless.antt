-- Sketches that nothing completes: those of lines alone, and those that weigh enough and aren't well.
use Rattle.std.proofs.Common.{◌≡◌, ◌≢◌, ℕ, ◌+◌, ◌*◌, ◌-◌, ◌<◌, ◌≤◌, Bool, true, false, cond, List, [], ◌∷◌, length, refl, ap, sym, subst, ◌∙◌, arith}
use Rattle.std.specs.Prelude.{All, Contains, map, not, sum_by, count_by}
use Rattle.std.proofs.lemmas.List.{length-map}
use Rattle.std.proofs.lemmas.List.Elements.{All-contains}
use Rattle.std.proofs.lemmas.List.Sums.{sum_by-cons}
use Rattle.sk_base.specs.declared.Elem.{Elem}
use Rattle.sk_base.specs.declared.Kind.{Kind}
use Rattle.sk_base.specs.declared.Kind.TheVariants as kinds
use Rattle.sk_base.specs.declared.Node.{Node}
use Rattle.sk_base.specs.declared.Graph.{Graph}
use Rattle.sk_base.specs.declared.Element.{Element}
use Rattle.sk_base.specs.declared.Constraint.{Constraint}
use Rattle.sk_base.specs.declared.Rule.{Rule}
use Rattle.sk_base.specs.declared.Rule.TheVariants as rule
use Rattle.sk_base.specs.declared.Shape.{Shape}
use Rattle.sk_base.specs.declared.Shape.TheVariants.{Point, Line, Circle}
use Rattle.sk_base.specs.declared.Sketch.{Sketch}
use Rattle.sk_base.specs.Drawn.{IsLine}
use Rattle.sk_base.specs.Numbering.{is_elem}
use Rattle.sk_base.specs.SoundGraph.{IsSoundGraph}
use Rattle.sk_base.specs.SoundSketch.{IsSoundSketch, IsSoundRule}
use Rattle.sk_base.proofs.Members.{contains_none, contains_head, contains_later, contains_mapped, mapped_from, contains_filtered, filtered_from}
use Rattle.sk_base.proofs.Numbers.{found_elem}
use Rattle.sk_base.proofs.Pairs.{pairs_map, pairs_weaken}
use Rattle.sk_family.specs.Body.{starts, starting, initial_bodies}
use Rattle.sk_graph.specs.SketchGraph.{graph_of, node_of, kind_of}
use Rattle.sk_graph.proofs.Soundness.{graph_is_sound}
use Rattle.sk_rules.specs.Excess.{weight, weight_of}
use Rattle.sk_rules.specs.Reach.{stays}
use Rattle.sk_tree.specs.LegalPlan.{numbers_of}
use Rattle.sk_verdict.specs.Parts.{elem_of}
use Rattle.sk_close_by_order.specs.declared.Order.TheVariants.{First}
use Rattle.sk_plan.specs.Judged.{IsWell}
use Rattle.sk_plan.specs.Sparse.{weight_within, weight_among, AreDistinct, AreLines}
use Rattle.sk_plan.proofs.Finished.{reached_within}
use Rattle.sk_plan.proofs.PlanTells.{plan_due, plan_few_angles}
use Rattle.sk_plan.proofs.SomePlans.{some_plan_by}
use Rattle.sk_plan.proofs.Weighed.{lines_weigh}
use Rattle.sk_complete.specs.Weights.{rule_weight, constraint_weight, weight_together, due_for}
use Rattle.sk_complete.specs.Begun.{HasAmong, is_numbered_in, besides}
use Rattle.sk_complete.proofs.Weighing.{whole_weight, all_kept, kept_are, missing_weight}

-- sums of the same terms
sum_same : {X : Type 0} (v w : X → ℕ) (xs : List X) → ((x : X) → Contains xs x → v x ≡ w x) → sum_by v xs ≡ sum_by w xs
sum_same v w [] same = refl
sum_same v w (x ∷ xs) same =
    let first = same x (contains_head x xs) in
    let rest = sum_same v w xs (λ y h. same y (contains_later x xs y h)) in
    let left = sum_by-cons v x xs in
    let right = sum_by-cons w x xs in
    omega (arith, first, rest, left, right)

counts : (b : Bool) → b ≡ true → cond b 1 0 + 0 ≡ 1
counts true is = refl
counts false is = absurd (cc)

-- all of some elements are counted among others that have them
all_counted : (xs es : List Elem) → ((e : Elem) → Contains es e → Contains xs e) → count_by (is_elem xs) es ≡ length es
all_counted xs [] within = refl
all_counted xs (e ∷ es) within =
    let one = counts (is_elem xs e) (found_elem xs e (within e (contains_head e es))) in
    let rest = all_counted xs es (λ d h. within d (contains_later e es d h)) in
    let more = sum_by-cons (λ (d : Elem). cond (is_elem xs d) 1 0) e es in
    omega (arith, one, rest, more)

line_kind : (shape : Shape) → IsLine shape → kind_of shape ≡ kinds.Line
line_kind (Point x y) is = absurd is
line_kind (Line x1 y1 x2 y2) is = refl
line_kind (Circle x y r) is = absurd is

node_exact : (n : Node) (e : Elem) (k : Kind) → n.elem ≡ e → n.kind ≡ k → n ≡ record { elem = e; kind = k }
node_exact n e k same_elem same_kind =
    let make : Elem → Kind → Node = λ d j. record { elem = d; kind = j } in
    ap (λ d. make d n.kind) same_elem ∙ ap (λ j. make e j) same_kind

module _ (g : Graph) (sound : IsSoundGraph g) where
  abbrev nodes : List Elem
  nodes = map elem_of g.nodes

  nodes_distinct : AreDistinct nodes
  nodes_distinct =
      pairs_weaken (λ (x y : Elem). x.0 < y.0) (λ (x y : Elem). x ≢ y) nodes
      (pairs_map (λ (x y : Elem). x.0 < y.0) elem_of g.nodes sound.nodes_rise)
      (λ x y x_in y_in less same. (let level = ap (λ (e : Elem). e.0) same in absurd (omega (arith, less, level))))

  -- all constraints lie among all elements
  all_among : weight_among g nodes ≡ weight_of g (numbers_of g)
  all_among =
      sum_same (weight_within nodes) weight (starts g)
      (λ s s_in. ap (λ n. 2 * n - 3) (all_counted nodes s.elements (reached_within g sound (initial_bodies g) stays (starting s) (contains_mapped starting (starts g) s s_in)).elements))
      ∙ sym (whole_weight g)

-- a well sketch of lines alone has no more than two
pub few_lines : (s : Sketch) → IsSoundSketch s → 2 < length s.elements → All (λ (e : Element). IsLine e.shape) s.elements → ¬ IsWell (graph_of s)
few_lines s sketch many lines well =
    let g = graph_of s in
    let sound = graph_is_sound s sketch in
    let (plan, by) = some_plan_by First s sketch (omega (arith, many)) well in
    let size : length (nodes g sound) ≡ length g.nodes = rw length-map in
    let count : length g.nodes ≡ length s.elements = rw length-map in
    let few = plan_few_angles g plan sound by.legal (nodes g sound) (nodes_distinct g sound) are_lines (omega (arith, size, count, many)) in
    let due = plan_due g plan sound by.legal in
    let all = all_among g sound in
    let angles = lines_weigh g sound (nodes g sound) are_lines in
    omega (arith, size, count, few, due, all, angles, many)
  where
    are_lines : AreLines (graph_of s) (map elem_of (graph_of s).nodes)
    are_lines e e_in =
        let (n, n_in, is) = mapped_from elem_of (graph_of s).nodes e e_in in
        let (x, x_in, same) = mapped_from node_of s.elements n n_in in
        let kind : n.kind ≡ kinds.Line = sym (ap (λ (m : Node). m.kind) same) ∙ line_kind x.shape (All-contains (λ (y : Element). IsLine y.shape) _ _ lines x_in) in
        subst (λ (m : Node). Contains (graph_of s).nodes m) (node_exact n e kinds.Line is kind) n_in

-- each sound rule weighs something
heavy : (s : Sketch) (r : Rule) → IsSoundRule s r → 1 ≤ rule_weight r
heavy s (rule.Distance u v len) sound = omega arith
heavy s (rule.On u v) sound = omega arith
heavy s (rule.Tangent u v) sound = omega arith
heavy s (rule.Outside u v) sound = omega arith
heavy s (rule.Inside u v) sound = omega arith
heavy s (rule.Angle l m ratio) sound = omega arith
heavy s (rule.Block pins) sound = let two = sound.sound.at_least in omega (arith, two)

weightless : (s : Sketch) (cs : List Constraint) → ((c : Constraint) → Contains cs c → IsSoundRule s c.rule) → weight_together cs ≡ 0 → cs ≡ []
weightless s [] sound none = refl
weightless s (c ∷ cs) sound none =
    let first = heavy s c.rule (sound c (contains_head c cs)) in
    let more = sum_by-cons constraint_weight c cs in
    absurd (omega (arith, first, more, none))

-- what weighs enough is well if something completes it
pub enough_alone : (s t : Sketch) → HasAmong s t → IsSoundSketch t → 0 < length s.elements → IsWell (graph_of t) → due_for s ≤ weight_together s.constraints → IsWell (graph_of s)
enough_alone s t among sound some well enough = subst (λ (z : Sketch). IsWell (graph_of z)) same well
  where
    missing : weight_together s.constraints + weight_together (besides s t) ≡ due_for s
    missing = missing_weight s t among sound some well

    none : besides s t ≡ []
    none =
        weightless t (besides s t)
        (λ c c_in. All-contains (λ (d : Constraint). IsSoundRule t d.rule) _ _ sound.rules_sound (filtered_from (λ (d : Constraint). not (is_numbered_in s d)) t.constraints c c_in).0)
        (omega (arith, missing, enough))

    passes : (c : Constraint) → Contains t.constraints c → (b : Bool) → is_numbered_in s c ≡ b → is_numbered_in s c ≡ true
    passes c c_in true is = is
    passes c c_in false is =
        absurd (contains_none c (subst (λ (cs : List Constraint). Contains cs c) none
        (contains_filtered (λ (d : Constraint). not (is_numbered_in s d)) t.constraints c c_in (ap not is))))

    same_constraints : t.constraints ≡ s.constraints
    same_constraints = sym (all_kept (is_numbered_in s) t.constraints (λ c c_in. passes c c_in (is_numbered_in s c) refl)) ∙ kept_are s t among sound

    same : t ≡ s
    same =
        let make : List Element → List Constraint → Sketch = λ es cs. record { elements = es; constraints = cs } in
        ap (λ es. make es t.constraints) among.elements ∙ ap (λ cs. make s.elements cs) same_constraints
