use Rattle.sk_triangles.proofs.Growing.{grows_start, grows_step, grows_end}
use Rattle.sk_triangles.specs.Ranks.{IsHighOf}
use Rattle.sk_triangles.proofs.highs.add_highs.Goals as goal

pub loop-end-init : goal.loop-end-init
loop-end-init c = grows_start (IsHighOf c.args.counts.now) c.args.ends.now c.args.highs.now

pub loop-end-preserved : goal.loop-end-preserved
loop-end-preserved c =
    grows_step (IsHighOf c.args.counts.now) c.args.ends.now c.args.highs.now c.loop-end.highs c.add_if_high.new.highs c.loop-end.end-index _ c.loop-end-test.true c.loop-end.invariant c.in_ok-add_if_high.ensures

pub returns : goal.returns
returns c =
    grows_end (IsHighOf c.args.counts.now) c.args.ends.now c.args.highs.now c.loop-end.highs c.loop-end.end-index c.loop-end-test.false c.loop-end.invariant
