use Rattle.std.proofs.Common.{sym, ap, ◌∙◌}
use Rattle.sk_steps.specs.SettledMotions.{settled_motion}
use Rattle.sk_frame.proofs.FrameTurns.{never}
use Rattle.sk_frame.proofs.taking.unit_motion.Goals as goal

pub unreachable-requires : goal.unreachable-requires
unreachable-requires g c =
    never g.G.Grid.BITS g.G.Grid.enough c.args.f.now c.requires c.in-Err.field-0
    (ap (settled_motion g.G.Grid.BITS) (sym c.parts_motion.ensures) ∙ sym c.in-Err.ensures)
