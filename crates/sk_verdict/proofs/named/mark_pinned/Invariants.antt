use Rattle.std.proofs.Common.{take}
use Rattle.std.specs.Prelude.{All}
use Rattle.sk_verdict.specs.Parts.{HasNoPin}
use Rattle.sk_verdict.specs.Leaving.{LeavesOut}
use Rattle.sk_verdict.proofs.named.mark_pinned.Given as goal

abbrev pub invariant-loop-block : goal.invariant-loop-block
invariant-loop-block l = LeavesOut (λ e. All (HasNoPin e) (take l.block-index l.blocks)) l.fn.marks.items l.marks.items
