use Rattle.std.specs.Prelude.{take}
use Rattle.sk_solve.specs.contracts.alternative.each.{G-type}
use Rattle.sk_solve.specs.Alternatives.{AreAlternatives}
use Rattle.sk_solve.proofs.alternative.each.Given as goal

abbrev pub invariant-loop-names : goal.invariant-loop-names
invariant-loop-names g l = AreAlternatives (G-type g.row.G) l.placing g.G.Grid.BITS l.limit l.s l.p (take l.names-index l.lists) l.alternatives
