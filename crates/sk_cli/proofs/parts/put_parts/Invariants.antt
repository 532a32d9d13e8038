use Rattle.std.proofs.Common.{◌≡◌, ◌++◌, ℕ, List, take}
use Rattle.sk_cli.specs.PartsReport.{ArePartsTold}
use Rattle.sk_cli.proofs.parts.put_parts.Given as goal

abbrev pub invariant-loop-i : goal.invariant-loop-i
invariant-loop-i l = (lines : List ℕ) × ArePartsTold l.request l.s 1 (take l.i l.parts) lines × (l.text ≡ l.initial.text ++ lines)
