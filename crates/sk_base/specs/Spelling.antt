-- How numbers and lines of words are spelled.
use Rattle.std.specs.Prelude.{ℕ, ◌+◌, ◌/◌, ◌%◌, ◌==◌, List, [], ◌∷◌, ◌++◌, if◌then◌else◌, ℤ, pos, negsuc, suc}
use Rattle.std.specs.Fmt.{decimal}
use Rattle.std.specs.List.{join_with_byte}

-- how far a number is from 0
abbrev pub magnitude : ℤ → ℕ
magnitude (pos n) = n
magnitude (negsuc n) = suc n

-- a `-` in front of the text of a negative number
abbrev pub with_minus : ℤ → List ℕ → List ℕ
with_minus (pos n) text = text
with_minus (negsuc n) text = 45 ∷ text

-- the decimal spelling of a whole number
abbrev pub whole_text : ℤ → List ℕ
whole_text z = with_minus z (decimal (magnitude z))

-- the last digit, and those at the places before it
abbrev pub digit_at : ℕ → ℕ → ℕ
digit_at unit n = 48 + n / unit % 10

-- micrometres below a millimetre, behind the point, with no zero at the end
abbrev pub fraction_text : ℕ → List ℕ
fraction_text n =
    if n % 1000 == 0 then []
    else if n % 100 == 0 then 46 ∷ digit_at 100 n ∷ []
    else if n % 10 == 0 then 46 ∷ digit_at 100 n ∷ digit_at 10 n ∷ []
    else 46 ∷ digit_at 100 n ∷ digit_at 10 n ∷ digit_at 1 n ∷ []

-- the canonical millimetres of micrometres
abbrev pub mm_text : ℤ → List ℕ
mm_text um = with_minus um (decimal (magnitude um / 1000) ++ fraction_text (magnitude um))

-- six digits
abbrev pub six_digits : ℕ → List ℕ
six_digits n = digit_at 100000 n ∷ digit_at 10000 n ∷ digit_at 1000 n ∷ digit_at 100 n ∷ digit_at 10 n ∷ digit_at 1 n ∷ []

-- millimetres of nanometres, with six decimals
abbrev pub fixed_text : ℤ → List ℕ
fixed_text nm = with_minus nm (decimal (magnitude nm / 1000000) ++ 46 ∷ six_digits (magnitude nm))

-- the words with one space between
abbrev pub spaced : List (List ℕ) → List ℕ
spaced words = join_with_byte 32 words
