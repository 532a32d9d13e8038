use Rattle.std.proofs.Common.{sym, ◌∙◌}
use Rattle.sk_frame.proofs.Walks.{kept_at_end, kept_earlier}
use Rattle.sk_frame.proofs.bases.kept_from.Goals as goal

pub loop-i-init : goal.loop-i-init
loop-i-init c = sym (kept_at_end c.args.steps.now c.args.name)

pub loop-i-preserved : goal.loop-i-preserved
loop-i-preserved c =
    (rw c.loop-i.invariant at c.kept_by-kept.ensures)
    ∙ sym (kept_earlier c.args.steps.now c.loop-i.i _ c.args.name c.loop-i-test.true c.loop-i.auto.i)
