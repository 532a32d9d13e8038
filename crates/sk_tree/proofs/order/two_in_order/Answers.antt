use Rattle.sk_tree.proofs.Ordering.{put_two, put_two_back, above_of}
use Rattle.sk_tree.proofs.order.two_in_order.Goals as goal

pub returns-then-b-c-clause-pair : goal.returns-then-b-c-clause-pair
returns-then-b-c-clause-pair c = put_two c.args.b c.args.c c.if-b-c.true

pub returns-else-b-c-clause-pair : goal.returns-else-b-c-clause-pair
returns-else-b-c-clause-pair c = put_two_back c.args.b c.args.c (above_of c.args.b c.args.c c.requires c.if-b-c.false)
