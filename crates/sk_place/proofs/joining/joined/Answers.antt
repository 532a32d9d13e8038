use Rattle.sk_place.specs.Steps.{setting}
use Rattle.sk_place.proofs.Corners.{corners_ordered}
use Rattle.sk_place.proofs.joining.joined.Goals as goal

pub built-requires-clause-corners : goal.built-requires-clause-corners
built-requires-clause-corners g c =
    rw (c.ordered-t.ensures, c.setting_of.ensures) (corners_ordered (setting c.args.step.now c.args.one c.args.two c.args.three) c.requires.corners)

pub with_children-requires-clause-corners : goal.with_children-requires-clause-corners
with_children-requires-clause-corners g c =
    rw (c.ordered-t.ensures, c.setting_of.ensures) (corners_ordered (setting c.args.step.now c.args.one c.args.two c.args.three) c.requires.corners)
