use Rattle.std.proofs.Common.{take}
use Rattle.sk_cli.specs.ExcessReport.{AreOffsTold}
use Rattle.sk_cli.proofs.excess.offs_text.Given as goal

-- the lines so far
abbrev pub invariant-loop-number : goal.invariant-loop-number
invariant-loop-number l = AreOffsTold l.limit l.own l.at (take l.number-index l.left) l.text
