-- What calls move, where it is told what a source has left and what a sink was given.
use Rattle.std.specs.Prelude.{◌≡◌, ℕ, ◌≤◌, ◌<◌, List, length, take, drop, ⊤, Option, None, Some, Result, Ok, IfOk}
use Rattle.std.specs.Io.KnownBytes.{Appends, Consumes}

-- a byte at least of a piece that isn't empty is taken, and of an empty one nothing
pub record WritesSome {E : Type 0} (r : Result ℕ E) (piece : List ℕ) : Type 0 where
  pub at_most : IfOk r (λ n. n ≤ length piece)
  pub one : 0 < length piece → IfOk r (λ n. 0 < n)
  pub nothing : length piece ≡ 0 → r ≡ Ok 0

-- the text is what a source had left, to its end or to `most` bytes, and is taken off
abbrev pub TakesUpTo : ℕ → Option (List ℕ) → Option (List ℕ) → List ℕ → Type 0
TakesUpTo most None new text = ⊤
TakesUpTo most (Some bytes) new text = (text ≡ take most bytes) × (new ≡ Some (drop most bytes))

-- at most so many bytes of the front of what a source had left are taken off
abbrev pub TakesAtMost : ℕ → Option (List ℕ) → Option (List ℕ) → Type 0
TakesAtMost most old new = (bytes : List ℕ) × (length bytes ≤ most) × Consumes old new bytes

-- a front of the bytes was appended
abbrev pub AppendsFront : Option (List ℕ) → Option (List ℕ) → List ℕ → Type 0
AppendsFront old new bytes = (n : ℕ) × (n ≤ length bytes) × Appends old new (take n bytes)
