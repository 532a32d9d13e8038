use Rattle.std.proofs.Common.{◌+◌, ◌<◌, Bool, get_or, take, sym, subst, ap, ◌∙◌, List}
use Rattle.std.specs.Prelude.{AllPairs}
use Rattle.std.proofs.lemmas.List.{get_or_default}
use Rattle.sk_base.specs.declared.Node.{Node}
use Rattle.sk_base.specs.declared.Kind.TheVariants.{Point}
use Rattle.sk_base.proofs.Searches.{refused}
use Rattle.sk_verdict.specs.declared.part.Part.{Part}
use Rattle.sk_triangles.specs.Marks.{IsMarked}
use Rattle.sk_verdict.specs.Parts.{IsNamedByNone}
use Rattle.sk_verdict.specs.Building.{AddsLone}
use Rattle.sk_verdict.proofs.Gathering.{lone_part_is, node_new, node_more, node_passed}
use Rattle.sk_verdict.proofs.judgement.add_lone.Goals as goal
use Rattle.sk_verdict.proofs.judgement.add_lone.Goals.{then-is_unmarked+in_ok-lone_part+in_ok-put, else-is_unmarked}

first : Node
first = record { elem = record { 0 = 0 }; kind = Point }

pub put-requires-clause-new : goal.put-requires-clause-new
unfolding first
put-requires-clause-new c p p_in same =
    let nodes = c.as_slice-node-items.result.now in
    let i = c.loop-node.node-index in
    let rise : AllPairs (λ (x y : Node). x.elem.0 < y.elem.0) nodes =
    subst (λ (ns : List Node). AllPairs (λ (x y : Node). x.elem.0 < y.elem.0) ns) (sym c.as_slice-node-items.ensures) c.requires.rise in
    node_new c.args.graph.now nodes i (get_or nodes i first) c.loop-node-test.true (get_or_default nodes i (get_or nodes i first) first c.loop-node-test.true)
    c.args.parts.now c.loop-node.parts c.loop-node.invariant rise c.requires.no_single p p_in
    (same ∙ ap (λ (q : Part). q.elements) c.in_ok-lone_part.ensures)

pub loop-node-preserved : goal.loop-node-preserved
unfolding first
loop-node-preserved c =
    let g = c.args.graph.now in
    let nodes = c.as_slice-node-items.result.now in
    let i = c.loop-node.node-index in
    let at_i = get_or_default nodes i (get_or nodes i first) first c.loop-node-test.true in
    let e = (get_or nodes i first).elem in
    -- what the marks tell of this node
    let by_none = λ (h : ¬ IsMarked c.as_slice.result.now e). (c.in_ok-named.ensures e).0 (λ m. h (subst (λ (l : List Bool). IsMarked l e) (sym c.as_slice.ensures.value) m)) in
    let unmarked = λ (h : IsNamedByNone g e). (λ (m : IsMarked c.as_slice.result.now e). (c.in_ok-named.ensures e).1 h (subst (λ (l : List Bool). IsMarked l e) c.as_slice.ensures.value m)) in
    elim c.if-is_unmarked.branch [
      | then-is_unmarked+in_ok-lone_part+in_ok-put w ↦ subst (λ (ps : List Part). AddsLone g (take (i + 1) nodes) c.args.parts.now ps) (sym w.parts-is)
          (node_more g nodes i (get_or nodes i first) c.loop-node-test.true at_i c.args.parts.now c.loop-node.parts c.loop-node.invariant
          (by_none (c.is_unmarked.ensures.0 w.if-is_unmarked.true)) w.in_ok-lone_part.field-0
          (w.in_ok-lone_part.ensures ∙ lone_part_is g (get_or nodes i first).elem (by_none (c.is_unmarked.ensures.0 w.if-is_unmarked.true)))
          w.put.new.parts w.in_ok-put.ensures.in_order w.in_ok-put.ensures.has)
      | else-is_unmarked w ↦ subst (λ (ps : List Part). AddsLone g (take (i + 1) nodes) c.args.parts.now ps) (sym w.parts-is)
          (node_passed g nodes i (get_or nodes i first) c.loop-node-test.true at_i c.args.parts.now c.loop-node.parts c.loop-node.invariant
          (λ is. refused w.if-is_unmarked.ensures.1 (unmarked is)))
    ]
