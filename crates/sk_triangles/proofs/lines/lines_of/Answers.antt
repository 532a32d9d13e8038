use Rattle.std.proofs.Common.{inl, inr}
use Rattle.sk_base.specs.declared.Node.{Node}
use Rattle.sk_base.specs.declared.Kind.TheVariants.{Line, Point}
use Rattle.sk_triangles.proofs.Fronts.{front_more, front_all}
use Rattle.sk_triangles.proofs.lines.lines_of.Goals as goal

pub loop-node-preserved : goal.loop-node-preserved
loop-node-preserved c e =
    let line : Node = record { elem = e; kind = Line } in
    let first : Node = record { elem = record { 0 = 0 }; kind = Point } in
    let more = front_more c.args.nodes.now c.loop-node.node-index first c.loop-node-test.true line in
    let marked = c.in_ok-mark_if_line.ensures e in
    let so_far = c.loop-node.invariant e in (
      (λ h. more.1 (elim (marked.0 h) [ inl was ↦ inl (so_far.0 was) | inr is ↦ inr is ])),
      (λ h. marked.1 (elim (more.0 h) [ inl before ↦ inl (so_far.1 before) | inr here ↦ inr here ])),
    )

pub returns : goal.returns
returns c e =
    let all = front_all c.args.nodes.now c.loop-node.node-index c.loop-node-test.false (record { elem = e; kind = Line }) in
    ((λ h. all.0 ((c.loop-node.invariant e).0 h)), (λ h. (c.loop-node.invariant e).1 (all.1 h)))
