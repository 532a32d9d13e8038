use Rattle.sk_complete.proofs.Extending.{completes_well, some_elements}
use Rattle.sk_complete.proofs.completion.first_completed.Goals as goal

pub is_well-requires-clause-some : goal.is_well-requires-clause-some
is_well-requires-clause-some c = some_elements c.args.s.now c.in_ok-t.t c.in_ok-t.ensures c.requires.some

pub returns-then-branch : goal.returns-then-branch
returns-then-branch c = completes_well c.args.s.now c.in_ok-t.t c.requires.some c.in_ok-t.ensures (c.in_ok-is_well.ensures.0 c.if-branch.true)
