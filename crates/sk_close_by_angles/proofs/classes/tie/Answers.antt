use Rattle.sk_close_by_angles.proofs.Classing.{tells_renamed}
use Rattle.std.proofs.Common.{◌<◌, sym, subst}
use Rattle.sk_close_by_angles.proofs.classes.tie.Goals as goal

pub returns-then-from-gt0-clause-tell : goal.returns-then-from-gt0-clause-tell
returns-then-from-gt0-clause-tell c g f first first_to tied tell =
    let from = c.class_of-from.result in
    let is = c.class_of-from.ensures in
    let some : 0 < from = c.if-from-gt0.true in
    tells_renamed g f from c.args.to c.args.classes.now c.rename.new.classes c.rename.ensures first c.args.elem first_to (sym is)
    (tied (subst (λ n. 0 < n) is some)) some c.requires tell
