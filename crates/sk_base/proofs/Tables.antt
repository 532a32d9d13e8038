-- A table of tests of which none holds.
use Rattle.std.proofs.Common.{◌≡◌, Bool, true, false, cond, Option, Some, None, refl}

-- the first test fails, and none of the rest holds
pub passed : {X : Type 0} (t : Bool) (x : X) (rest : Option X) → cond t (Some x) rest ≡ None → (t ≡ false) × (rest ≡ None)
passed true x rest is = cc
passed false x rest is = (refl, is)
