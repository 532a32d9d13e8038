use Rattle.sk_tree.proofs.Ordering.{put_before, put_between, put_behind, above_of, by_number_of, other_than}
use Rattle.sk_tree.proofs.order.in_order.Goals as goal

pub returns-then-a-low : goal.returns-then-a-low
returns-then-a-low c =
    let low = c.two_in_order.result.0 in
    let high = c.two_in_order.result.1 in
    by_number_of c.args.a c.args.b c.args.c low high _ c.two_in_order.ensures.pair (put_before c.args.a low high c.if-a-low.true)

pub returns-then-a-high : goal.returns-then-a-high
returns-then-a-high c =
    let low = c.two_in_order.result.0 in
    let high = c.two_in_order.result.1 in
    let other = other_than c.args.a c.args.b c.args.c low high c.requires.a_b c.requires.c_a c.two_in_order.ensures.either in
    by_number_of c.args.a c.args.b c.args.c low high _ c.two_in_order.ensures.pair
    (put_between c.args.a low high (above_of c.args.a low other.0 c.if-a-low.false) c.if-a-high.true)

pub returns-else-a-high : goal.returns-else-a-high
returns-else-a-high c =
    let low = c.two_in_order.result.0 in
    let high = c.two_in_order.result.1 in
    let other = other_than c.args.a c.args.b c.args.c low high c.requires.a_b c.requires.c_a c.two_in_order.ensures.either in
    by_number_of c.args.a c.args.b c.args.c low high _ c.two_in_order.ensures.pair
    (put_behind c.args.a low high (above_of c.args.a low other.0 c.if-a-low.false) (above_of c.args.a high other.1 c.if-a-high.false))
