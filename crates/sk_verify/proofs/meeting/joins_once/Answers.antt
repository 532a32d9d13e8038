use Rattle.sk_verify.proofs.Corners.{joins_exactly}
use Rattle.sk_verify.proofs.meeting.joins_once.Goals as goal

pub returns-in-Some-Some-Some : goal.returns-in-Some-Some-Some
returns-in-Some-Some-Some c =
    let at = c.in-Some-Some-Some in
    let step = c.args.step.now in
    joins_exactly c.args.family.now at.ensures.sound c.args.g.now step.one step.two step.three step.a step.b step.c at.one.now at.two.now at.three.now at.ensures.some at.ensures'.some at.ensures''.some
    _ (rw (c.as_slice.ensures, c.as_slice-in-Some-Some-Some.ensures, c.as_slice-in-Some-Some-Some-2.ensures) at c.meets_once.ensures)
