use Rattle.sk_frame.proofs.Edges.{pins_apart}
use Rattle.sk_frame.proofs.frames.block_frame.Goals as goal

pub frame_from-requires-clause-somewhere : goal.frame_from-requires-clause-somewhere
frame_from-requires-clause-somewhere c =
    rw (c.between.ensures.value, c.given_place-first.ensures.value, c.given_place-second.ensures.value) (pins_apart c.args.pins.now _ c.requires.pins)
