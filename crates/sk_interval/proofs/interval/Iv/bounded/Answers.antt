use Rattle.std.proofs.Common.{arith}
use Rattle.sk_interval.proofs.interval.Iv.bounded.Goals as goal

pub overflow_add-bits : goal.overflow_add-bits
overflow_add-bits g c = omega (arith, c.BITS.ensures, g.G.Grid.few)

pub two_to-most-requires : goal.two_to-most-requires
two_to-most-requires g c = omega (arith, c.BITS.ensures, g.G.Grid.few)
