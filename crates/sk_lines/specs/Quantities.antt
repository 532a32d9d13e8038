-- Lengths, and the ratios of angles.
use Rattle.std.specs.Prelude.{ℕ, ◌+◌, Bool, false, ◌==◌, List, take, drop, Option, Some, None, unwrap_or, option_and_then, ℤ, pos, negsuc}
use Rattle.std.specs.List.{position}
use Rattle.std.specs.Option.{option_map}
use Rattle.sk_base.specs.declared.Um.{Um}
use Rattle.sk_base.specs.declared.Ratio.{Ratio}
use Rattle.sk_base.specs.Millimetres.{mm_of, digits_of, at_most, has_sign, without_sign, with_sign}

-- the micrometres of a length or a radius, which isn't negative
abbrev pub not_negative : ℤ → Option ℕ
not_negative (pos n) = Some n
not_negative (negsuc n) = None

abbrev pub length_of : List ℕ → Option ℕ
length_of word = option_and_then not_negative (mm_of word)

abbrev pub is_slash : ℕ → Bool
is_slash b = b == 47

-- one to five digits, at most 10,000
abbrev pub part_of_ratio : List ℕ → Option ℕ
part_of_ratio bytes = at_most 10000 (digits_of 5 bytes)

-- both parts round the first slash, if there is one
abbrev pub parts_round : List ℕ → Option ℕ → Option (ℕ × ℕ)
parts_round bytes None = None
parts_round bytes (Some slash) =
    option_and_then (λ p. option_map (λ q. (p, q)) (part_of_ratio (drop (slash + 1) bytes))) (part_of_ratio (take slash bytes))

abbrev pub unsigned_ratio : List ℕ → Option (ℕ × ℕ)
unsigned_ratio bytes = parts_round bytes (position is_slash bytes)

-- an optional `-`, one to five digits, `/` and one to five digits, both at most 10,000; the `-` isn't in the two parts
abbrev pub ratio_of : List ℕ → Option (ℕ × ℕ)
ratio_of word = unsigned_ratio (without_sign word)

-- whether a length, or the first part of a ratio, is 0
abbrev pub is_zero : Option ℕ → Bool
is_zero (Some n) = n == 0
is_zero None = false

-- what a word stands for that is a number, or a ratio
abbrev pub um : List ℕ → Um
um word = record { 0 = unwrap_or (mm_of word) (pos 0) }

abbrev pub ratio : List ℕ → Ratio
ratio word =
    let parts = unwrap_or (ratio_of word) (0, 0) in record { p = with_sign (has_sign word) parts.0; q = pos parts.1 }
