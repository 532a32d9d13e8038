use Rattle.sk_parts.proofs.Drawing.{part_is_sound}
use Rattle.sk_parts.proofs.own_sketch.sketch_of_part.Goals as goal

pub returns-clause-sound : goal.returns-clause-sound
returns-clause-sound c =
    rw (c.in_ok-own_elements.ensures, c.as_slice.ensures, c.in_ok-constraints.ensures, c.as_slice-2.ensures) (part_is_sound c.args.s.now c.args.elements.now c.requires)
