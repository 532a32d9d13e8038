-- How the parts share a sketch: each constraint is in the own sketch of one part, and a sole part has all.
use Rattle.std.proofs.Common.{◌≡◌, inl, inr, refl, ℕ, ◌≤◌, ◌<◌, true, false, List, [], ◌∷◌, length, ap, sym, subst, ◌∙◌, arith}
use Rattle.std.specs.Prelude.{Contains, filter, nat_lt, ◌↔◌}
use Rattle.std.proofs.lemmas.Bool.Decides.{nat_tests}
use Rattle.std.proofs.lemmas.List.Elements.{All-contains}
use Rattle.sk_base.specs.declared.Elem.{Elem}
use Rattle.sk_base.specs.declared.Element.{Element}
use Rattle.sk_base.specs.declared.Constraint.{Constraint}
use Rattle.sk_base.specs.declared.Sketch.{Sketch}
use Rattle.sk_base.specs.declared.Graph.{Graph}
use Rattle.sk_base.specs.Numbering.{elem_number}
use Rattle.sk_base.specs.Rising.{IsRising}
use Rattle.sk_base.specs.SoundGraph.{IsSoundGraph}
use Rattle.sk_base.specs.SoundSketch.{IsSoundSketch, IsSoundRule}
use Rattle.sk_base.proofs.Deciding.{elem_settles, some_in, is_in}
use Rattle.sk_base.proofs.Filters.{filter_keeps}
use Rattle.sk_base.proofs.Members.{contains_none, contains_head, contains_one, contains_mapped, mapped_from, contains_filtered, filtered_from}
use Rattle.sk_base.proofs.Numbers.{elem_found, found_elem}
use Rattle.sk_base.proofs.Pairs.{pairs_map, pairs_filter}
use Rattle.sk_base.proofs.Unions.{rising_none, rising_cons, rising_same}
use Rattle.sk_family.specs.Body.{Body, Start, starts, starting, initial_bodies}
use Rattle.sk_family.proofs.Bodies.{Within}
use Rattle.sk_family.proofs.GraphStarts.{among_start, from_start}
use Rattle.sk_graph.specs.Naming.{named_by}
use Rattle.sk_graph.specs.SketchGraph.{node_of, graph_of}
use Rattle.sk_graph.proofs.Drawing.{named_in}
use Rattle.sk_graph.proofs.Soundness.{graph_is_sound}
use Rattle.sk_rules.specs.Reach.{IsNormal}
use Rattle.sk_rules.proofs.Counting.{IsTight, reached_tight, inside_owned}
use Rattle.sk_rules.proofs.KeptFamily.{holds_ends}
use Rattle.sk_rules.proofs.KeptClusters.{reached_as_it_is}
use Rattle.sk_rules.proofs.NormalForm.{reach_covers}
use Rattle.sk_rules.proofs.WeighedGraphs.{sound_two_each}
use Rattle.sk_verdict.specs.declared.Judgement.{Judgement}
use Rattle.sk_verdict.specs.declared.Part.{Part}
use Rattle.sk_verdict.specs.declared.Verdict.TheVariants.{Well}
use Rattle.sk_verdict.specs.Parts.{IsLone, IsPart, AreOfOnePart, elem_of, part_with}
use Rattle.sk_verdict.specs.Judging.{IsJudgement, IsOver, some_over, verdict_on}
use Rattle.sk_verdict.proofs.Normals.{has_two}
use Rattle.sk_plan.specs.Judged.{IsTheJudgement, IsWell}
use Rattle.sk_parts.specs.OwnSketch.{has_element, lies_among, part_sketch, HasInOwn, IsInJustOne, numbers_in}
use Rattle.sk_plan.specs.ConstraintStarts.{constraint_start}
use Rattle.sk_plan.proofs.Starts.{start_there, start_of_some}
use Rattle.sk_plan.proofs.Wells.{by_none_named, no_items, well_told, none_any, few_same}
use Rattle.sk_parts.proofs.Drawing.{all_among, among_all}
use Rattle.sk_parts.proofs.OwnGraph.{own_part}
use Rattle.sk_parts.proofs.WellParts.{part_is_well, own_one_part}

-- where the verdict is well there is at most one part, and it isn't over
not_over_of_well : (parts : List Part) → verdict_on parts ≡ Well → (p : Part) → Contains parts p → ¬ IsOver p
not_over_of_well parts is p p_in over =
    let none = (well_told (some_over parts) (nat_lt 1 (length parts)) is).0 in
    let under = none_any (λ (q : Part). nat_lt q.due q.held) parts none p p_in in
    clash p.due p.held under over
  where
    clash : (d h : ℕ) → nat_lt d h ≡ false → d < h → ⊥
    clash d h under over = (let not : ¬ (d < h) = grind (arith, nat_tests) in not over)

few_of_well : (parts : List Part) → verdict_on parts ≡ Well → length parts ≤ 1
few_of_well parts is = (let no = (well_told (some_over parts) (nat_lt 1 (length parts)) is).1 in grind (arith, nat_tests))

-- an element alone has no constraint in its own
lone_has_none : (s : Sketch) → IsSoundSketch s → (e : Elem) (c : Constraint) → Contains s.constraints c → lies_among (e ∷ []) c ≡ true → ⊥
lone_has_none s sound e c c_in among =
    let (u, v, differ, u_in, v_in) = sound_two_each (graph_of s) (graph_is_sound s sound) (constraint_start c) (start_there s sound c c_in) in
    let only : (d : Elem) → Contains (constraint_start c).elements d → e ≡ d = λ d h. contains_one e d (all_among (e ∷ []) (named_by c.rule) among d (from_start (named_by c.rule) d h)) in
    differ (sym (only u u_in) ∙ only v v_in)

pub lone_without : (s : Sketch) (e : Elem) → IsSoundSketch s → (part_sketch s (e ∷ [])).constraints ≡ []
lone_without s e sound = no_items (filter (lies_among (e ∷ [])) s.constraints) (λ c h. (
    let was = filtered_from (lies_among (e ∷ [])) s.constraints c h in
    lone_has_none s sound e c was.0 was.1))

module _ (s : Sketch) (f : List Body) (sound : IsSoundSketch s) (normal : IsNormal (graph_of s) f) where
  abbrev whole : Graph
  whole = graph_of s

  whole_sound : IsSoundGraph whole
  whole_sound = graph_is_sound s sound

  tight : IsTight whole f
  tight = reached_tight whole f whole_sound.edges_rise normal.reached

  -- the cluster that a constraint lies in
  around : (c : Constraint) → Contains s.constraints c → (x : Body) × Contains f x × Within (starting (constraint_start c)) x
  around c c_in = reach_covers whole (initial_bodies whole) f normal.reached (starting (constraint_start c)) (contains_mapped starting (starts whole) (constraint_start c) (start_there s sound c c_in))

  among_owned : (x : Body) → Contains f x → (c : Constraint) → Contains s.constraints c → lies_among x.elements c ≡ true → Contains x.owned c.number
  among_owned x x_in c c_in among =
      inside_owned whole f (sound_two_each whole whole_sound) normal x x_in (constraint_start c) (start_there s sound c c_in)
      (λ e h. all_among x.elements (named_by c.rule) among e (from_start (named_by c.rule) e h))

  -- its own sketch has just what the cluster owns
  pub has_owned : (x : Body) → Contains f x → (c : Constraint) → Contains s.constraints c → HasInOwn s x.elements c ↔ Contains x.owned c.number
  has_owned x x_in c c_in = (
    (λ h. among_owned x x_in c c_in (filtered_from (lies_among x.elements) s.constraints c h).1),
    (λ owned. (
        let it = around c c_in in
        let same : it.0 ≡ x = tight.family.apart it.0 x c.number it.1 x_in (it.2.owned c.number (contains_head c.number [])) owned in
        contains_filtered (lies_among x.elements) s.constraints c c_in
        (among_all x.elements (named_by c.rule) (λ e h. subst (λ (z : Body). Contains z.elements e) same (it.2.elements e (among_start (named_by c.rule) e h)))))),
  )

  module _ (j : Judgement) (judged : IsJudgement whole f j) where
    part_in : (xs : List Elem) → AreOfOnePart whole f xs → Contains j.parts (part_with whole xs)
    part_in xs of = (judged.parts (part_with whole xs)).1 (of, refl)

    -- just one part has the constraint
    pub in_just_one : (c : Constraint) → Contains s.constraints c → IsInJustOne s j.parts c
    in_just_one c c_in =
        let it = around c c_in in
        let owned = it.2.owned c.number (contains_head c.number []) in (
          part_with whole it.0.elements,
          part_in it.0.elements (inl (it.0, it.1, refl)),
          (has_owned it.0 it.1 c c_in).1 owned,
          λ q q_in has. (
              let is = (judged.parts q).0 q_in in
              let among = (filtered_from (lies_among q.elements) s.constraints c has).1 in
              is.1 ∙ ap (λ (ys : List Elem). part_with whole ys) (same_list it.0 it.1 owned q.elements is.0 among)),
        )
      where
        same_list : (x : Body) → Contains f x → Contains x.owned c.number → (ys : List Elem) → AreOfOnePart whole f ys → lies_among ys c ≡ true → ys ≡ x.elements
        same_list x x_in owned ys (inl (y, y_in, same)) among =
            let y_owned = among_owned y y_in c c_in (subst (λ zs. lies_among zs c ≡ true) (sym same) among) in
            sym same ∙ ap (λ (z : Body). z.elements) (tight.family.apart y x c.number y_in x_in y_owned owned)
        same_list x x_in owned ys (inr (e, lone, same)) among =
            absurd (lone_has_none s sound e c c_in (subst (λ zs. lies_among zs c ≡ true) (sym same) among))

    -- each element lies in a part
    pub element_in_part : (y : Element) → Contains s.elements y → (p : Part) × Contains j.parts p × Contains p.elements y.number
    element_in_part y y_in =
        let node = contains_mapped node_of s.elements y y_in in
        elim (some_in (λ (d : Start). Contains d.elements y.number) (λ d. is_in elem_settles d.elements y.number) (starts whole)) [
          | inl (d, d_in, named) ↦ (
              let it = reach_covers whole (initial_bodies whole) f normal.reached (starting d) (contains_mapped starting (starts whole) d d_in) in
              (part_with whole it.0.elements, part_in it.0.elements (inl (it.0, it.1, refl)), it.2.elements y.number named))
          | inr none ↦ (
              let lone : IsLone whole y.number = record {
                is_node = contains_mapped elem_of whole.nodes (node_of y) node;
                named_by_none = by_none_named whole whole_sound y.number (λ d d_in named. none (d, d_in, named));
              } in
              (part_with whole (y.number ∷ []), part_in (y.number ∷ []) (inr (y.number, lone, refl)), contains_head y.number []))
        ]

    -- a sole part has the whole sketch for its own
    pub sole_has_all : length j.parts ≤ 1 → (p : Part) → Contains j.parts p → part_sketch s p.elements ≡ s
    sole_has_all few p p_in =
        let elements : filter (has_element p.elements) s.elements ≡ s.elements = filter_keeps (has_element p.elements) s.elements (λ y y_in. (
        let it = element_in_part y y_in in
        let same = few_same j.parts it.0 p few it.1 p_in in
        found_elem p.elements y.number (subst (λ (q : Part). Contains q.elements y.number) same it.2))) in
        let constraints : filter (lies_among p.elements) s.constraints ≡ s.constraints = filter_keeps (lies_among p.elements) s.constraints (λ c c_in. (
        let it = in_just_one c c_in in
        let same = few_same j.parts it.0 p few it.1 p_in in
        subst (λ (q : Part). lies_among q.elements c ≡ true) same (filtered_from (lies_among it.0.elements) s.constraints c it.2).1)) in
        ap (λ (es : List Element). let t : Sketch = record { elements = es; constraints = filter (lies_among p.elements) s.constraints } in t) elements
        ∙ ap (λ (cs : List Constraint). let t : Sketch = record { elements = s.elements; constraints = cs } in t) constraints

  -- what a part has are elements of the sketch, and rises
  body_element : (x : Body) → Contains f x → (e : Elem) → Contains x.elements e → (y : Element) × Contains s.elements y × (y.number ≡ e)
  body_element x x_in e e_in =
      let end = holds_ends whole f (reached_as_it_is whole f normal.reached) x x_in e e_in in
      let (c, c_in, is) = start_of_some s sound end.0 end.1 in
      named_in s c.rule (All-contains (λ (d : Constraint). IsSoundRule s d.rule) s.constraints c sound.rules_sound c_in) e
      (from_start (named_by c.rule) e (subst (λ (d : Start). Contains d.elements e) (sym is) end.2))

  part_rises : (xs : List Elem) → AreOfOnePart whole f xs → IsRising elem_number xs
  part_rises xs (inl (x, x_in, same)) = subst (λ es. IsRising elem_number es) same (tight.family.rising x x_in).elements
  part_rises xs (inr (e, lone, same)) = subst (λ es. IsRising elem_number es) same (rising_cons elem_number e [] (rising_none elem_number) (λ y h. absurd (contains_none y h)))

  part_element : (xs : List Elem) → AreOfOnePart whole f xs → (e : Elem) → Contains xs e → (y : Element) × Contains s.elements y × (y.number ≡ e)
  part_element xs (inl (x, x_in, same)) e e_in = body_element x x_in e (subst (λ es. Contains es e) (sym same) e_in)
  part_element xs (inr (d, lone, same)) e e_in =
      let node = mapped_from elem_of whole.nodes d lone.is_node in
      let y = mapped_from node_of s.elements node.0 node.1 in
      let is : d ≡ e = contains_one d e (subst (λ es. Contains es e) (sym same) e_in) in
      (y.0, y.1, ap elem_of y.2 ∙ node.2 ∙ is)

  some_items : {X : Type 0} (zs : List X) (z : X) → Contains zs z → 0 < length zs
  some_items [] z h = absurd (contains_none z h)
  some_items (y ∷ zs) z h = omega arith

  -- there is some
  pub own_some : (xs : List Elem) → AreOfOnePart whole f xs → 0 < length (part_sketch s xs).elements
  own_some xs of =
      let (e, e_in) = one_of xs of in
      let (y, y_in, is) = part_element xs of e e_in in
      some_items (filter (has_element xs) s.elements) y
      (contains_filtered (has_element xs) s.elements y y_in (found_elem xs y.number (subst (λ d. Contains xs d) (sym is) e_in)))
    where
      one_of : (xs : List Elem) → AreOfOnePart whole f xs → (e : Elem) × Contains xs e
      one_of xs (inl (x, x_in, same)) = (let two = has_two whole f whole_sound normal x x_in in (two.0, subst (λ es. Contains es two.0) same two.3))
      one_of xs (inr (e, lone, same)) = (e, subst (λ es. Contains es e) same (contains_head e []))

  pub own_numbers : (xs : List Elem) → AreOfOnePart whole f xs → numbers_in (part_sketch s xs) ≡ xs
  own_numbers xs of =
      rising_same elem_number (numbers_in (part_sketch s xs)) xs
      (pairs_map (λ (a b : Elem). a.0 < b.0) (λ (y : Element). y.number) (filter (has_element xs) s.elements) (pairs_filter (λ (a b : Element). a.number.0 < b.number.0) (has_element xs) s.elements sound.elements_rise))
      (part_rises xs of)
      (λ e h. (
      let found = mapped_from (λ (y : Element). y.number) (filter (has_element xs) s.elements) e h in
      subst (λ d. Contains xs d) found.2 (elem_found xs found.0.number (filtered_from (has_element xs) s.elements found.0 found.1).1)))
      (λ e h. (
      let (y, y_in, is) = part_element xs of e h in
      subst (λ d. Contains (numbers_in (part_sketch s xs)) d) is
      (contains_mapped (λ (z : Element). z.number) (filter (has_element xs) s.elements) y (contains_filtered (has_element xs) s.elements y y_in (found_elem xs y.number (subst (λ d. Contains xs d) (sym is) h))))))

  -- the own sketch of a part is well just where it isn't over
  pub well_exactly : (xs : List Elem) → AreOfOnePart whole f xs → IsWell (graph_of (part_sketch s xs)) ↔ ¬ IsOver (part_with whole xs)
  well_exactly xs of = (
    (λ (j, is, well) over. (
        let (n, n_normal, n_of) = own_one_part s f sound normal xs of in
        let judged = is.every n n_normal in
        let p_in = (judged.parts (part_with (graph_of (part_sketch s xs)) xs)).1 (n_of, refl) in
        not_over_of_well j.parts (sym judged.verdict ∙ well) (part_with (graph_of (part_sketch s xs)) xs) p_in
        (subst (λ (p : Part). IsOver p) (sym (own_part s xs sound)) over))),
    part_is_well s f sound normal xs of,
  )

module _ (s : Sketch) (j : Judgement) (sound : IsSoundSketch s) (is : IsTheJudgement (graph_of s) j) where
  judged_so : IsJudgement (graph_of s) is.normal j
  judged_so = is.every is.normal is.is_normal

  pub once_judged : (c : Constraint) → Contains s.constraints c → IsInJustOne s j.parts c
  once_judged = in_just_one s is.normal sound is.is_normal j judged_so

  pub covered_judged : (x : Element) → Contains s.elements x → (p : Part) × Contains j.parts p × Contains p.elements x.number
  covered_judged = element_in_part s is.normal sound is.is_normal j judged_so

  pub sole_judged : j.verdict ≡ Well → length j.parts ≤ 1
  sole_judged well = few_of_well j.parts (sym judged_so.verdict ∙ well)

  pub whole_judged : j.verdict ≡ Well → (p : Part) → Contains j.parts p → part_sketch s p.elements ≡ s
  whole_judged well = sole_has_all s is.normal sound is.is_normal j judged_so (few_of_well j.parts (sym judged_so.verdict ∙ well))

  module _ (p : Part) (p_in : Contains j.parts p) where
    is_part : IsPart (graph_of s) is.normal p
    is_part = (judged_so.parts p).0 p_in

    pub numbers_judged : numbers_in (part_sketch s p.elements) ≡ p.elements
    numbers_judged = own_numbers s is.normal sound is.is_normal p.elements is_part.0

    pub some_judged : 0 < length (part_sketch s p.elements).elements
    some_judged = own_some s is.normal sound is.is_normal p.elements is_part.0

    pub well_judged : IsWell (graph_of (part_sketch s p.elements)) ↔ ¬ IsOver p
    well_judged =
        let told = well_exactly s is.normal sound is.is_normal p.elements is_part.0 in (
          (λ well over. told.0 well (subst (λ (q : Part). IsOver q) is_part.1 over)),
          (λ not_over. told.1 (λ over. not_over (subst (λ (q : Part). IsOver q) (sym is_part.1) over))),
        )
