use Rattle.std.proofs.Common.{take}
use Rattle.sk_why.specs.WhyReport.{AreReasonsTold}
use Rattle.sk_why.proofs.text.reasons_text.Given as goal

-- the lines so far
abbrev pub invariant-loop-number : goal.invariant-loop-number
invariant-loop-number l = AreReasonsTold l.own l.left (take l.number-index l.left) l.text
