use Rattle.std.proofs.Common.{◌≡◌, arith}
use Rattle.std.specs.Prelude.{max}
use Rattle.std.proofs.lemmas.Bool.Decides.{nat_tests}
use Rattle.sk_measure.proofs.BlockLeast.{none_met, least_met_more}
use Rattle.sk_measure.proofs.Placings.{any_pin}
use Rattle.sk_measure.proofs.pins.least_of_pins.Goals as goal

pub loop-i-init : goal.loop-i-init
loop-i-init c = none_met c.args.p.now

pub loop-i-preserved : goal.loop-i-preserved
loop-i-preserved c =
    let is : c.max-least.result ≡ max c.loop-i.least c.least_with.result = grind (arith, nat_tests, c.max-least.ensures) in
    rw is
    (least_met_more c.args.p.now c.args.pins.now c.loop-i.i any_pin c.loop-i.least c.least_with.result (omega arith) c.loop-i.invariant c.least_with.ensures)
