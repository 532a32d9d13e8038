-- What the graph's constraints start with is what the sketch's start with.
use Rattle.std.proofs.Common.{◌≡◌, ◌⊎◌, inl, inr, ◌<◌, List, [], ◌∷◌, refl, ap, sym, subst, ◌∙◌, arith}
use Rattle.std.specs.Prelude.{Contains, Option, None, Some, IsSome, IfSome, map}
use Rattle.sk_base.specs.declared.Elem.{Elem}
use Rattle.sk_base.specs.declared.ConId.{ConId}
use Rattle.sk_base.specs.declared.Edge.{Edge}
use Rattle.sk_base.specs.declared.Block.{Block}
use Rattle.sk_base.specs.declared.Constraint.{Constraint}
use Rattle.sk_base.specs.declared.Sketch.{Sketch}
use Rattle.sk_base.specs.Numbering.{elem_number}
use Rattle.sk_base.specs.Rising.{union}
use Rattle.sk_base.specs.Pins.{elements_of}
use Rattle.sk_base.specs.SoundGraph.{IsSoundGraph, HasRisingEdges}
use Rattle.sk_base.specs.SoundSketch.{IsSoundSketch}
use Rattle.sk_base.proofs.Members.{contains_head, contains_later, contains_cases, contains_one, contains_mapped, mapped_from}
use Rattle.sk_base.proofs.Pairs.{pairs_map, pairs_same}
use Rattle.sk_base.proofs.Unions.{rising_none, rising_union, rising_same}
use Rattle.sk_family.specs.Body.{Start, start_number, edge_start, block_start, starts}
use Rattle.sk_family.proofs.GraphStarts.{among_start, from_start, start_comes, edge_starts, block_starts, starts_rise}
use Rattle.sk_graph.specs.Naming.{named_by, IsBetween}
use Rattle.sk_graph.specs.SketchGraph.{edge_of, block_of, graph_of}
use Rattle.sk_graph.proofs.Given.{given_from, contains_given}
use Rattle.sk_graph.proofs.Naming.{edge_between, block_at}
use Rattle.sk_graph.proofs.Soundness.{graph_is_sound, given_edge_id, given_block_id, edge_unless_block}
use Rattle.sk_plan.specs.ConstraintStarts.{constraint_start}

pub rises : (s : Sketch) → IsSoundSketch s → HasRisingEdges (graph_of s)
rises s sound = (graph_is_sound s sound).edges_rise

-- what two elements are, in either order, is all that starts with both
ends_named : (names : List Elem) (u v : Elem) → (names ≡ u ∷ v ∷ []) ⊎ (names ≡ v ∷ u ∷ []) → union elem_number (u ∷ v ∷ []) [] ≡ union elem_number names []
ends_named names u v either =
    elim either [
      | inl is ↦ ap (λ es. union elem_number es []) (sym is)
      | inr is ↦ turned u v ∙ ap (λ es. union elem_number es []) (sym is)
    ]
  where
    other_way : (a b z : Elem) → Contains (union elem_number (a ∷ b ∷ []) []) z → Contains (union elem_number (b ∷ a ∷ []) []) z
    other_way a b z h =
        among_start (b ∷ a ∷ []) z (elim (contains_cases a (b ∷ []) z (from_start (a ∷ b ∷ []) z h)) [
          | inl first ↦ contains_later b (a ∷ []) z (subst (λ w. Contains (w ∷ []) z) (sym first) (contains_head z []))
          | inr second ↦ subst (λ w. Contains (w ∷ a ∷ []) z) (sym (contains_one b z second)) (contains_head z (a ∷ []))
        ])

    turned : (a b : Elem) → union elem_number (a ∷ b ∷ []) [] ≡ union elem_number (b ∷ a ∷ []) []
    turned a b =
        rising_same elem_number (union elem_number (a ∷ b ∷ []) []) (union elem_number (b ∷ a ∷ []) [])
        (rising_union elem_number (a ∷ b ∷ []) [] (rising_none elem_number)) (rising_union elem_number (b ∷ a ∷ []) [] (rising_none elem_number))
        (λ z h. other_way a b z h) (λ z h. other_way b a z h)

by_parts : (s t : Start) → s.number ≡ t.number → s.elements ≡ t.elements → s ≡ t
by_parts s t number elements =
    ap (λ (k : ConId). let one : Start = record { number = k; elements = s.elements } in one) number
    ∙ ap (λ (es : List Elem). let one : Start = record { number = t.number; elements = es } in one) elements

-- an edge starts as its constraint does
pub edge_starts_so : (s : Sketch) (c : Constraint) (e : Edge) → edge_of s c ≡ Some e → edge_start e ≡ constraint_start c
edge_starts_so s c e is =
    let between : IsBetween (named_by c.rule) e = subst (λ (o : Option Edge). IfSome o (λ d. IsBetween (named_by c.rule) d)) is (edge_between s c.number c.rule) in
    by_parts (edge_start e) (constraint_start c) (given_edge_id s c e is) (ends_named (named_by c.rule) e.u e.v between)

-- and so does a block
pub block_starts_so : (c : Constraint) (b : Block) → block_of c ≡ Some b → block_start b ≡ constraint_start c
block_starts_so c b is =
    let names : elements_of b.pins ≡ named_by c.rule = subst (λ (o : Option Block). IfSome o (λ d. elements_of d.pins ≡ named_by c.rule)) is (block_at c.number c.rule) in
    by_parts (block_start b) (constraint_start c) (given_block_id c b is) (ap (λ (es : List Elem). union elem_number es []) names)

module _ (s : Sketch) (sound : IsSoundSketch s) where
  start_from : (x : Start) → Contains (starts (graph_of s)) x → Contains (map constraint_start s.constraints) x
  start_from x x_in =
      elim (start_comes (graph_of s) x x_in) [
        | inl (b, b_in, is) ↦ (
            let c = given_from block_of s.constraints b b_in in
            subst (λ y. Contains (map constraint_start s.constraints) y) (sym (block_starts_so c.0 b c.2) ∙ is) (contains_mapped constraint_start s.constraints c.0 c.1))
        | inr (e, e_in, is) ↦ (
            let c = given_from (edge_of s) s.constraints e e_in in
            subst (λ y. Contains (map constraint_start s.constraints) y) (sym (edge_starts_so s c.0 e c.2) ∙ is) (contains_mapped constraint_start s.constraints c.0 c.1))
      ]

  start_in : (c : Constraint) → Contains s.constraints c → Contains (starts (graph_of s)) (constraint_start c)
  start_in c c_in = by_edge (edge_of s c) refl
    where
      graph : IsSoundGraph (graph_of s)
      graph = graph_is_sound s sound

      by_block : (o : Option Block) → block_of c ≡ o → IsSome o → Contains (starts (graph_of s)) (constraint_start c)
      by_block None is some = absurd (let never = some in cc)
      by_block (Some b) is some =
          subst (λ x. Contains (starts (graph_of s)) x) (block_starts_so c b is)
          (block_starts (graph_of s) graph.blocks_rise graph.blocks_apart b (contains_given block_of s.constraints c b c_in is))

      by_edge : (o : Option Edge) → edge_of s c ≡ o → Contains (starts (graph_of s)) (constraint_start c)
      by_edge None is = by_block (block_of c) refl ((edge_unless_block s c.number c.rule).0 (rw is refl))
      by_edge (Some e) is =
          subst (λ x. Contains (starts (graph_of s)) x) (edge_starts_so s c e is)
          (edge_starts (graph_of s) e (contains_given (edge_of s) s.constraints c e c_in is))

  -- the graph's constraints start as the sketch's do, in their order
  pub starts_are : starts (graph_of s) ≡ map constraint_start s.constraints
  starts_are =
      pairs_same (λ (x y : Start). start_number x < start_number y) (λ x h. absurd (omega arith)) (λ x y h g. absurd (omega arith))
      (starts (graph_of s)) (map constraint_start s.constraints)
      (starts_rise (graph_of s) (rises s sound))
      (pairs_map (λ (x y : Start). start_number x < start_number y) constraint_start s.constraints sound.constraints_rise)
      start_from
      (λ x h. (let c = mapped_from constraint_start s.constraints x h in subst (λ y. Contains (starts (graph_of s)) y) c.2 (start_in c.0 c.1)))

  pub start_there : (c : Constraint) → Contains s.constraints c → Contains (starts (graph_of s)) (constraint_start c)
  start_there c c_in = start_in c c_in

  -- each start is that of a constraint
  pub start_of_some : (x : Start) → Contains (starts (graph_of s)) x → (c : Constraint) × Contains s.constraints c × (constraint_start c ≡ x)
  start_of_some x x_in = mapped_from constraint_start s.constraints x (start_from x x_in)
