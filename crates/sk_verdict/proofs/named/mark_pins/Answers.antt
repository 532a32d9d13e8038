use Rattle.std.specs.Prelude.{◌≢◌}
use Rattle.sk_base.specs.declared.Pin.{Pin}
use Rattle.sk_verdict.proofs.Marking.{left_start, left_step, left_end, one_left}
use Rattle.sk_verdict.proofs.named.mark_pins.Goals as goal

pub loop-pin-init : goal.loop-pin-init
loop-pin-init c = left_start (λ (pin : Pin) e. pin.elem ≢ e) c.args.pins.now c.args.marks.now.items

pub loop-pin-preserved : goal.loop-pin-preserved
loop-pin-preserved c =
    left_step (λ (pin : Pin) e. pin.elem ≢ e) c.args.pins.now c.args.marks.now.items c.loop-pin.marks.items c.mark.new.marks.items c.loop-pin.pin-index _ c.loop-pin-test.true c.loop-pin.invariant
    (one_left _ c.loop-pin.marks.items c.mark.new.marks.items c.in_ok-mark.ensures)

pub returns : goal.returns
returns c = left_end (λ (pin : Pin) e. pin.elem ≢ e) c.args.pins.now c.args.marks.now.items c.loop-pin.marks.items c.loop-pin.pin-index c.loop-pin-test.false c.loop-pin.invariant
