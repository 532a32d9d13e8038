use Rattle.std.specs.Prelude.{◌≡◌, drop}
use Rattle.sk_flips.specs.Flipping.{first_without_choice}
use Rattle.sk_flips.proofs.flip.first_without_choice.Given as goal

-- it is the first of those from here on
abbrev pub invariant-loop-name : goal.invariant-loop-name
invariant-loop-name l = first_without_choice l.p l.names ≡ first_without_choice l.p (drop l.name-index l.names)
