-- A size with a sign in front.
use Rattle.std.specs.Prelude.{ℕ, ℤ, Bool, true, false, pos, neg_ℤ}

-- the size, or its negative where it is of what is less
abbrev pub with_sign : Bool → ℕ → ℤ
with_sign true n = neg_ℤ (pos n)
with_sign false n = pos n
