use Rattle.std.proofs.Common.{◌++◌, ap, ◌∙◌}
use Rattle.sk_cli.proofs.FlipsTold.{told_next}
use Rattle.sk_cli.proofs.flips.alternatives_text.Goals as goal

pub loop-alternative-preserved : goal.loop-alternative-preserved
loop-alternative-preserved c =
    told_next c.args.s.now c.args.bits c.args.found.now c.loop-alternative.alternative-index c.loop-alternative.number c.alternative-item.result c.loop-alternative.text c.put.new.self
    c.loop-alternative-test.true c.alternative-item.is
    (c.in_ok-put.ensures.ok ∙ ap (λ bytes. c.loop-alternative.text ++ bytes) (c.as_bytes.ensures ∙ c.in_ok-alternative_text.ensures)) c.loop-alternative.invariant
