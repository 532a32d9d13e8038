use Rattle.std.proofs.Common.{take}
use Rattle.std.specs.Prelude.{◌≢◌, All}
use Rattle.sk_base.specs.declared.Pin.{Pin}
use Rattle.sk_verdict.specs.Leaving.{LeavesOut}
use Rattle.sk_verdict.proofs.named.mark_pins.Given as goal

abbrev pub invariant-loop-pin : goal.invariant-loop-pin
invariant-loop-pin l = LeavesOut (λ e. All (λ (pin : Pin). pin.elem ≢ e) (take l.pin-index l.pins)) l.fn.marks.items l.marks.items
