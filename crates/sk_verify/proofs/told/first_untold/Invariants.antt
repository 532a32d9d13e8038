use Rattle.std.specs.Prelude.{take}
use Rattle.sk_verify.specs.Failing.{AllTold}
use Rattle.sk_verify.proofs.told.first_untold.Given as goal

-- those so far are told
abbrev pub invariant-loop-element : goal.invariant-loop-element
invariant-loop-element l = AllTold l.claim (take l.element-index l.elements)
