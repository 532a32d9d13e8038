use Rattle.std.proofs.Common.{◌≡◌, ◌++◌, ℕ, List, take}
use Rattle.sk_why.specs.OverParts.{EachOverStands}
use Rattle.sk_why.specs.WhyReport.{AreGroupsTold}
use Rattle.sk_why.proofs.text.why_text.Given as goal

-- the head, and what is told of the parts so far
abbrev pub invariant-loop-i : goal.invariant-loop-i
invariant-loop-i l = (lines : List ℕ) × EachOverStands AreGroupsTold l.s 1 (take l.i l.parts) lines × (l.text ≡ l.initial.text ++ lines)
