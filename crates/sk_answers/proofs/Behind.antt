-- What stands behind a sketch.
use Rattle.std.proofs.Common.{◌≡◌, ◌-◌, ℕ, List, length, take, drop, arith, length-drop}
use Rattle.std.proofs.lemmas.List.{take_all}

-- what stands behind so many bytes
pub rest_of : (used : ℕ) (bytes : List ℕ) → take (length bytes - used) (drop used bytes) ≡ drop used bytes
rest_of used bytes = take_all (length bytes - used) (drop used bytes) (omega (arith, length-drop used bytes))
