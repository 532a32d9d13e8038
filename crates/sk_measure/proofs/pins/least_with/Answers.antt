use Rattle.std.proofs.Common.{◌≡◌, arith}
use Rattle.std.specs.Prelude.{max}
use Rattle.std.proofs.lemmas.Bool.Decides.{nat_tests}
use Rattle.sk_measure.proofs.BlockLeast.{none_with, least_with_more}
use Rattle.sk_measure.proofs.Placings.{any_pin}
use Rattle.sk_measure.proofs.pins.least_with.Goals as goal

pub least_between-requires-clause-a : goal.least_between-requires-clause-a
least_between-requires-clause-a c =
    (c.requires.pins.on_sheet c.loop-pin.pin-index any_pin (omega arith), c.requires.pins.placed c.loop-pin.pin-index any_pin (omega arith))

pub loop-pin-init : goal.loop-pin-init
loop-pin-init c = none_with c.args.p.now c.args.further.now

pub loop-pin-preserved : goal.loop-pin-preserved
loop-pin-preserved c =
    let is : c.max-least.result ≡ max c.loop-pin.least c.least_between.result = grind (arith, nat_tests, c.max-least.ensures) in
    rw is
    (least_with_more c.args.p.now c.args.pins.now c.loop-pin.pin-index any_pin c.args.further.now c.loop-pin.least c.least_between.result (omega arith) c.loop-pin.invariant c.least_between.ensures)
