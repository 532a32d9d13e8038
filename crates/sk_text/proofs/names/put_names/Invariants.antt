use Rattle.std.proofs.Common.{◌≡◌, ◌++◌, take}
use Rattle.sk_base.specs.ElementNames.{names_of}
use Rattle.sk_text.proofs.names.put_names.Given as goal

abbrev pub invariant-loop-e : goal.invariant-loop-e
invariant-loop-e l = l.text ≡ l.fn.text ++ names_of l.s (take l.e-index l.elements)
