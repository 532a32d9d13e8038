use Rattle.sk_close_by_angles.proofs.Classing.{class_of_one}
use Rattle.sk_close_by_angles.proofs.classes.tie_all.Goals as goal

pub returns-then-to-gt0-clause-tell : goal.returns-then-to-gt0-clause-tell
returns-then-to-gt0-clause-tell c g f x x_in same tell =
    c.tie_to.ensures.tell g f x x_in same
    (class_of_one c.args.classes.now c.args.elements.now c.class_among-to.result c.class_among-to.ensures c.if-to-gt0.true) tell
