use Rattle.sk_verdict.specs.Parts.{EndsElsewhere}
use Rattle.sk_verdict.proofs.Marking.{left_start, left_step, left_end}
use Rattle.sk_verdict.proofs.named.mark_ends.Goals as goal

pub loop-edge-init : goal.loop-edge-init
loop-edge-init c = left_start (λ d e. EndsElsewhere d e) c.args.edges.now c.args.marks.now.items

pub loop-edge-preserved : goal.loop-edge-preserved
loop-edge-preserved c =
    left_step (λ d e. EndsElsewhere d e) c.args.edges.now c.args.marks.now.items c.loop-edge.marks.items c.mark_both.new.marks.items c.loop-edge.edge-index _ c.loop-edge-test.true c.loop-edge.invariant c.in_ok-mark_both.ensures

pub returns : goal.returns
returns c = left_end (λ d e. EndsElsewhere d e) c.args.edges.now c.args.marks.now.items c.loop-edge.marks.items c.loop-edge.edge-index c.loop-edge-test.false c.loop-edge.invariant
