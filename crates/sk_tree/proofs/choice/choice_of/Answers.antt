use Rattle.std.specs.Prelude.{IsSome}
use Rattle.sk_base.specs.Drawn.{shape_of}
use Rattle.sk_tree.proofs.Ordering.{by_number_each}
use Rattle.sk_tree.proofs.choice.choice_of.Goals as goal

pub shape-requires-clause-drawn : goal.shape-requires-clause-drawn
shape-requires-clause-drawn c =
    (by_number_each (λ e. IsSome (shape_of c.args.sketch.now e)) c.args.a c.args.b c.args.c c.requires.a_b c.requires.b_c c.requires.c_a c.requires.a_drawn c.requires.b_drawn c.requires.c_drawn
    c.in_order.result.0 c.in_order.result.1 c.in_order.result.2 c.in_order.ensures).0

pub shape-requires-2-clause-drawn : goal.shape-requires-2-clause-drawn
shape-requires-2-clause-drawn c =
    (by_number_each (λ e. IsSome (shape_of c.args.sketch.now e)) c.args.a c.args.b c.args.c c.requires.a_b c.requires.b_c c.requires.c_a c.requires.a_drawn c.requires.b_drawn c.requires.c_drawn
    c.in_order.result.0 c.in_order.result.1 c.in_order.result.2 c.in_order.ensures).1

pub shape-requires-3-clause-drawn : goal.shape-requires-3-clause-drawn
shape-requires-3-clause-drawn c =
    (by_number_each (λ e. IsSome (shape_of c.args.sketch.now e)) c.args.a c.args.b c.args.c c.requires.a_b c.requires.b_c c.requires.c_a c.requires.a_drawn c.requires.b_drawn c.requires.c_drawn
    c.in_order.result.0 c.in_order.result.1 c.in_order.result.2 c.in_order.ensures).2
