use Rattle.sk_excess.proofs.KeptSketches.{kept_is_sound}
use Rattle.sk_excess.proofs.kept.sketch_of_kept.Goals as goal

pub returns-clause-sound : goal.returns-clause-sound
returns-clause-sound c =
    rw (c.in_ok-extend.ensures.ok, c.as_slice.ensures, c.new-elements.ensures, c.in_ok-constraints.ensures, c.as_slice-2.ensures) (kept_is_sound c.args.left.now c.args.s.now c.requires)
