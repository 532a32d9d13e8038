use Rattle.std.proofs.Common.{◌∙◌, ap, subst, List}
use Rattle.std.specs.Prelude.{◌≢◌, All}
use Rattle.sk_base.specs.declared.Block.{Block}
use Rattle.sk_base.specs.declared.Pin.{Pin}
use Rattle.sk_verdict.specs.Parts.{HasNoPin}
use Rattle.sk_verdict.specs.Leaving.{LeavesOut}
use Rattle.sk_verdict.proofs.Marking.{left_start, left_step, left_end}
use Rattle.sk_verdict.proofs.named.mark_pinned.Goals as goal

pub loop-block-init : goal.loop-block-init
loop-block-init c = left_start (λ b e. HasNoPin e b) c.args.blocks.now c.args.marks.now.items

pub loop-block-preserved : goal.loop-block-preserved
loop-block-preserved c =
    let before = c.loop-block.marks.items in
    let after = c.mark_pins.new.marks.items in
    left_step (λ b e. HasNoPin e b) c.args.blocks.now c.args.marks.now.items before after c.loop-block.block-index c.block-item.result c.loop-block-test.true c.loop-block.invariant
    (subst (λ (ps : List Pin). LeavesOut (λ e. All (λ (pin : Pin). pin.elem ≢ e) ps) before after) (c.as_slice.ensures ∙ ap (λ (b : Block). b.pins) c.block-item.is) c.in_ok-mark_pins.ensures)

pub returns : goal.returns
returns c = left_end (λ b e. HasNoPin e b) c.args.blocks.now c.args.marks.now.items c.loop-block.marks.items c.loop-block.block-index c.loop-block-test.false c.loop-block.invariant
