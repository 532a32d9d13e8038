-- The graph of the own sketch of a part: its constraints start as in the whole sketch, and are those that lie inside.
use Rattle.std.proofs.Common.{◌≡◌, ℕ, ◌-◌, ◌*◌, Bool, true, false, cond, List, [], ◌∷◌, length, refl, ap, sym, subst, ◌∙◌}
use Rattle.std.specs.Prelude.{Contains, map, filter, sum_by, ◌↔◌}
use Rattle.sk_base.specs.declared.Elem.{Elem}
use Rattle.sk_base.specs.declared.Node.{Node}
use Rattle.sk_base.specs.declared.Constraint.{Constraint}
use Rattle.sk_base.specs.declared.Sketch.{Sketch}
use Rattle.sk_base.specs.SoundSketch.{IsSoundSketch}
use Rattle.sk_base.proofs.Filters.{filter_keeps, same_tests}
use Rattle.sk_base.proofs.Members.{contains_mapped, mapped_from, contains_filtered, filtered_from}
use Rattle.sk_base.proofs.Numbers.{elem_found, found_elem}
use Rattle.sk_family.specs.Body.{Start, starts}
use Rattle.sk_family.proofs.GraphStarts.{among_start, from_start}
use Rattle.sk_graph.specs.Naming.{named_by}
use Rattle.sk_graph.specs.SketchGraph.{node_of, graph_of}
use Rattle.sk_rules.specs.Excess.{weight, held, is_inside}
use Rattle.sk_rules.proofs.SummedWeights.{found_inside, inside_found}
use Rattle.sk_verdict.specs.Parts.{part_with}
use Rattle.sk_parts.specs.OwnSketch.{has_element, lies_among, part_sketch}
use Rattle.sk_plan.specs.ConstraintStarts.{constraint_start}
use Rattle.sk_plan.proofs.Starts.{starts_are}
use Rattle.sk_parts.proofs.Drawing.{all_among, among_all, part_is_sound}

module _ (s : Sketch) (xs : List Elem) where
  pub inside_is : (c : Constraint) → is_inside xs (constraint_start c) ≡ lies_among xs c
  inside_is c =
      same_tests (is_inside xs (constraint_start c)) (lies_among xs c)
      (λ inside. among_all xs (named_by c.rule) (λ e h. found_inside xs (constraint_start c) inside e (among_start (named_by c.rule) e h)))
      (λ among. inside_found xs (constraint_start c) (λ e h. all_among xs (named_by c.rule) among e (from_start (named_by c.rule) e h)))

  kept_starts : (cs : List Constraint) → map constraint_start (filter (lies_among xs) cs) ≡ filter (is_inside xs) (map constraint_start cs)
  kept_starts [] = refl
  kept_starts (c ∷ cs) = told (lies_among xs c) (inside_is c) (kept_starts cs)
    where
      told : (t : Bool) → is_inside xs (constraint_start c) ≡ t → map constraint_start (filter (lies_among xs) cs) ≡ filter (is_inside xs) (map constraint_start cs)
          → map constraint_start (cond t (c ∷ filter (lies_among xs) cs) (filter (lies_among xs) cs)) ≡ filter (is_inside xs) (constraint_start c ∷ map constraint_start cs)
      told true is rest =
          ap (λ l. constraint_start c ∷ l) rest
          ∙ sym (ap (λ b. cond b (constraint_start c ∷ filter (is_inside xs) (map constraint_start cs)) (filter (is_inside xs) (map constraint_start cs))) is)
      told false is rest =
          rest ∙ sym (ap (λ b. cond b (constraint_start c ∷ filter (is_inside xs) (map constraint_start cs)) (filter (is_inside xs) (map constraint_start cs))) is)

  -- a node of its graph is one of the whole graph, and one of these
  pub own_node : (n : Node) → Contains (graph_of (part_sketch s xs)).nodes n → Contains (graph_of s).nodes n × Contains xs n.elem
  own_node n n_in =
      let found = mapped_from node_of (filter (has_element xs) s.elements) n n_in in
      let was = filtered_from (has_element xs) s.elements found.0 found.1 in (
        subst (λ m. Contains (graph_of s).nodes m) found.2 (contains_mapped node_of s.elements found.0 was.0),
        subst (λ (m : Node). Contains xs m.elem) found.2 (elem_found xs found.0.number was.1),
      )

  pub to_own_node : (n : Node) → Contains (graph_of s).nodes n → Contains xs n.elem → Contains (graph_of (part_sketch s xs)).nodes n
  to_own_node n n_in among =
      let found = mapped_from node_of s.elements n n_in in
      let passes = found_elem xs found.0.number (subst (λ (m : Node). Contains xs m.elem) (sym found.2) among) in
      subst (λ m. Contains (graph_of (part_sketch s xs)).nodes m) found.2
      (contains_mapped node_of (filter (has_element xs) s.elements) found.0 (contains_filtered (has_element xs) s.elements found.0 found.1 passes))

  module _ (sound : IsSoundSketch s) where
    pub own_starts : starts (graph_of (part_sketch s xs)) ≡ filter (is_inside xs) (starts (graph_of s))
    own_starts = starts_are (part_sketch s xs) (part_is_sound s xs sound) ∙ kept_starts s.constraints ∙ sym (ap (λ ss. filter (is_inside xs) ss) (starts_are s sound))

    -- the part holds as much in its own sketch
    pub own_held : held (graph_of (part_sketch s xs)) xs ≡ held (graph_of s) xs
    own_held =
        ap (λ ss. sum_by weight (filter (is_inside xs) ss)) own_starts
        ∙ ap (λ ss. sum_by weight ss) (filter_keeps (is_inside xs) (filter (is_inside xs) (starts (graph_of s))) (λ t h. (filtered_from (is_inside xs) (starts (graph_of s)) t h).1))

    pub own_part : part_with (graph_of (part_sketch s xs)) xs ≡ part_with (graph_of s) xs
    own_part = ap (λ (n : ℕ). record { elements = xs; held = n; due = 2 * length xs - 3 }) own_held

    pub own_start : (d : Start) → Contains (starts (graph_of (part_sketch s xs))) d ↔ (Contains (starts (graph_of s)) d × ((e : Elem) → Contains d.elements e → Contains xs e))
    own_start d = (
      (λ h. (
          let was = filtered_from (is_inside xs) (starts (graph_of s)) d (subst (λ ss. Contains ss d) own_starts h) in
          (was.0, found_inside xs d was.1))),
      (λ h. subst (λ ss. Contains ss d) (sym own_starts) (contains_filtered (is_inside xs) (starts (graph_of s)) d h.0 (inside_found xs d h.1))),
    )
