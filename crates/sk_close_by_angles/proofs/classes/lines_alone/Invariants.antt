use Rattle.std.proofs.Common.{take}
use Rattle.sk_close_by_angles.specs.Classes.{AreAlone}
use Rattle.sk_close_by_angles.proofs.classes.lines_alone.Given as goal

abbrev pub invariant-loop-node : goal.invariant-loop-node
invariant-loop-node l = AreAlone (take l.node-index l.nodes) l.classes.items
