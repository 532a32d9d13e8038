use Rattle.std.proofs.Common.{List, subst, sym}
use Rattle.sk_base.specs.declared.Pin.{Pin}
use Rattle.sk_base.specs.SoundSketch.{IsSoundRule}
use Rattle.sk_measure.specs.Placing.{AreMeasurable}
use Rattle.sk_tolerance.proofs.Drawings.{block_measurable}
use Rattle.sk_tolerance.proofs.turned.turned_sense.Goals as goal

pub turned_block-requires : goal.turned_block-requires
turned_block-requires c =
    subst (λ (xs : List Pin). AreMeasurable c.args.p.now xs) (sym c.as_slice.ensures)
    (block_measurable c.args.s.now c.args.p.now c.requires.placed c.in-Block.pins (subst (IsSoundRule c.args.s.now) c.in-Block.is c.requires.rule))
