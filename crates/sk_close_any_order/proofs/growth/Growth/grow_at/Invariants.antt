use Rattle.sk_close_any_order.specs.Grown.{IsGrown}
use Rattle.sk_close_any_order.proofs.growth.Growth.grow_at.Given as goal

abbrev pub invariant-loop-key : goal.invariant-loop-key
invariant-loop-key l = IsGrown l.index l.graph l.family l.self.names l.self.marks.items
