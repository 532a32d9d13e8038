-- Expressions over intervals, and what they give on the grid of F binary digits.
use Rattle.std.specs.Prelude.{ℕ, ℤ, pos, List, Result, Ok, Err, slice_index_or}
use Rattle.sk_base.specs.declared.Sign.{Sign}
use Rattle.sk_base.specs.declared.Sign.TheVariants.{Plus, Minus}
use Rattle.sk_interval.specs.declared.Cause.{Cause}
use Rattle.sk_interval.specs.Interval.{Interval}
use Rattle.sk_interval.specs.Operations.{of_micrometres, whole, negative, sum, difference, product, quotient, root, length_of, normal_of}

infixl 65 ◌⊕◌
infixl 65 ◌⊖◌
infixl 70 ◌⊗◌
infixl 70 ◌⊘◌
-- the input at a place, an earlier quantity at a place, a number, a length, or an operation on intervals
pub data Expression : Type 0 where
  input : ℕ → Expression
  earlier : ℕ → Expression
  number : ℤ → Expression
  micrometres : ℤ → Expression
  signed : Sign → Expression → Expression
  ◌⊕◌ : Expression → Expression → Expression
  ◌⊖◌ : Expression → Expression → Expression
  ◌⊗◌ : Expression → Expression → Expression
  ◌⊘◌ : Expression → Expression → Expression
  square_root : Expression → Expression
  length_box : Expression → Expression
  normal_box : Expression → Expression

-- the interval, or its negative
abbrev pub with_sign : Sign → Interval → Interval
with_sign Plus x = x
with_sign Minus x = negative x

abbrev pub at : List Interval → ℕ → Interval
at found i = slice_index_or found i (record { lo = pos 0; hi = pos 0 })

abbrev pub then : {X Y : Type 0} → Result X Cause → (X → Result Y Cause) → Result Y Cause
then (Ok x) f = f x
then (Err c) f = Err c

-- what an expression gives from the inputs and the earlier quantities: the operations are done from left to right, and
-- the first cause ends it
abbrev pub value : ℕ → List Interval → List Interval → Expression → Result Interval Cause
value F inputs found (input i) = Ok (at inputs i)
value F inputs found (earlier i) = Ok (at found i)
value F inputs found (number n) = Ok (whole F n)
value F inputs found (micrometres v) = Ok (of_micrometres F v)
value F inputs found (signed sign a) = then (value F inputs found a) (λ x. Ok (with_sign sign x))
value F inputs found (a ⊕ b) = then (value F inputs found a) (λ x. then (value F inputs found b) (sum F x))
value F inputs found (a ⊖ b) = then (value F inputs found a) (λ x. then (value F inputs found b) (difference F x))
value F inputs found (a ⊗ b) = then (value F inputs found a) (λ x. then (value F inputs found b) (product F x))
value F inputs found (a ⊘ b) = then (value F inputs found a) (λ x. then (value F inputs found b) (quotient F x))
value F inputs found (square_root a) = then (value F inputs found a) (root F)
value F inputs found (length_box a) = then (value F inputs found a) (length_of F)
value F inputs found (normal_box a) = then (value F inputs found a) (normal_of F)
