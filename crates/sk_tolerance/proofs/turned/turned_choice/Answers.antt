use Rattle.std.specs.Prelude.{IsSome}
use Rattle.sk_base.specs.Drawn.{shape_of}
use Rattle.sk_tree.proofs.Ordering.{by_number_each}
use Rattle.sk_tolerance.proofs.turned.turned_choice.Goals as goal

pub sign_between-requires-clause-x : goal.sign_between-requires-clause-x
sign_between-requires-clause-x c =
    let step = c.args.step.now in
    let corners = c.requires.corners in
    (by_number_each (λ e. IsSome (shape_of c.args.s.now e)) step.a step.b step.c corners.differ.0 corners.differ.1 corners.differ.2 corners.a corners.b corners.c c.in_order.result.0 c.in_order.result.1 c.in_order.result.2 c.in_order.ensures).0

pub sign_between-requires-clause-y : goal.sign_between-requires-clause-y
sign_between-requires-clause-y c =
    let step = c.args.step.now in
    let corners = c.requires.corners in
    (by_number_each (λ e. IsSome (shape_of c.args.s.now e)) step.a step.b step.c corners.differ.0 corners.differ.1 corners.differ.2 corners.a corners.b corners.c c.in_order.result.0 c.in_order.result.1 c.in_order.result.2 c.in_order.ensures).1

pub sign_between-requires-clause-z : goal.sign_between-requires-clause-z
sign_between-requires-clause-z c =
    let step = c.args.step.now in
    let corners = c.requires.corners in
    (by_number_each (λ e. IsSome (shape_of c.args.s.now e)) step.a step.b step.c corners.differ.0 corners.differ.1 corners.differ.2 corners.a corners.b corners.c c.in_order.result.0 c.in_order.result.1 c.in_order.result.2 c.in_order.ensures).2
