use Rattle.sk_close_any_order.specs.Grown.{IsGrown}
use Rattle.sk_close_any_order.proofs.growth.Growth.grow.Given as goal

abbrev pub invariant-loop-place : goal.invariant-loop-place
invariant-loop-place l = IsGrown l.index l.graph l.family l.self.names l.self.marks.items
