use Rattle.sk_complete.specs.Begun.{Extends}
use Rattle.sk_complete.proofs.proposal.propose.Given as goal

abbrev pub invariant-loop : goal.invariant-loop
invariant-loop l = Extends l.s l.draft.sketch
