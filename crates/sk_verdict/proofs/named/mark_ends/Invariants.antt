use Rattle.std.proofs.Common.{take}
use Rattle.std.specs.Prelude.{All}
use Rattle.sk_base.specs.declared.Edge.{Edge}
use Rattle.sk_verdict.specs.Parts.{EndsElsewhere}
use Rattle.sk_verdict.specs.Leaving.{LeavesOut}
use Rattle.sk_verdict.proofs.named.mark_ends.Given as goal

abbrev pub invariant-loop-edge : goal.invariant-loop-edge
invariant-loop-edge l = LeavesOut (λ e. All (λ (d : Edge). EndsElsewhere d e) (take l.edge-index l.edges)) l.fn.marks.items l.marks.items
