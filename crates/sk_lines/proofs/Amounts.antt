-- What a word stands for that passes its tests keeps within its limits.
use Rattle.std.proofs.Common.{◌≡◌, ◌≢◌, ℕ, ◌+◌, ◌≤◌, Bool, true, false, cond, nat_le, List, drop, take, Option, Some, None, is_none, unwrap_or, option_and_then, refl, arith, ℤ, pos, negsuc}
use Rattle.std.specs.Prelude.{IfSome}
use Rattle.std.specs.List.{position}
use Rattle.std.specs.Option.{option_map}
use Rattle.std.proofs.lemmas.Bool.Decides.{nat_tests}
use Rattle.std.proofs.lemmas.Int.{ints}
use Rattle.sk_base.specs.Bounds.{IsWithin, IsFromTo, IsCoordinate}
use Rattle.sk_base.specs.Millimetres.{mm_of, at_most, has_sign, without_sign, with_sign, unsigned_um, digits_of}
use Rattle.sk_base.specs.SoundSketch.{IsLength, IsSoundRatio}
use Rattle.sk_lines.specs.Quantities.{not_negative, length_of, is_slash, part_of_ratio, parts_round, ratio_of, um, ratio, is_zero}

signed_within : (most n : ℕ) (negative : Bool) → n ≤ most → IsWithin most (with_sign negative n)
signed_within most n true few = (omega (arith, ints), omega (arith, ints))
signed_within most n false few = (omega (arith, ints), omega (arith, ints))

pub limited : (most : ℕ) (negative : Bool) (o : Option ℕ) → IsWithin most (unwrap_or (option_map (with_sign negative) (at_most most o)) (pos 0))
limited most negative None = (omega (arith, ints), omega (arith, ints))
limited most negative (Some n) = by (nat_le n most) refl
  where
    by : (t : Bool) → nat_le n most ≡ t → IsWithin most (unwrap_or (option_map (with_sign negative) (cond t (Some n) None)) (pos 0))
    by true few = signed_within most n negative (grind (arith, nat_tests))
    by false many = (omega (arith, ints), omega (arith, ints))

pub coordinate_within : (word : List ℕ) → IsCoordinate (um word)
coordinate_within word = limited 1000000000 (has_sign word) (unsigned_um (without_sign word))

length_by : (o : Option ℤ) → IsWithin 1000000000 (unwrap_or o (pos 0)) → is_none (option_and_then not_negative o) ≡ false → is_zero (option_and_then not_negative o) ≡ false → IsFromTo 1 1000000000 (unwrap_or o (pos 0))
length_by None within some more = cc
length_by (Some (pos n)) within some more = let one : 1 ≤ n = grind (arith, nat_tests) in (omega (arith, ints), within.1)
length_by (Some (negsuc n)) within some more = cc

pub length_from_to : (word : List ℕ) → is_none (length_of word) ≡ false → is_zero (length_of word) ≡ false → IsLength (um word)
length_from_to word some more = length_by (mm_of word) (coordinate_within word) some more

part_within : (o : Option ℕ) → IfSome (at_most 10000 o) (λ n. n ≤ 10000)
part_within None = tt
part_within (Some n) = by (nat_le n 10000) refl
  where
    by : (t : Bool) → nat_le n 10000 ≡ t → IfSome (cond t (Some n) None) (λ m. m ≤ 10000)
    by true few = grind (arith, nat_tests)
    by false many = tt

abbrev round : Option ℕ → Option ℕ → Option (ℕ × ℕ)
round a b = option_and_then (λ p. option_map (λ q. (p, q)) b) a

both_within : (a b : Option ℕ) → IfSome a (λ n. n ≤ 10000) → IfSome b (λ n. n ≤ 10000) → IfSome (round a b) (λ parts. (parts.0 ≤ 10000) × (parts.1 ≤ 10000))
both_within None b p q = tt
both_within (Some n) None p q = tt
both_within (Some n) (Some m) p q = (p, q)

parts_within : (bytes : List ℕ) (slash : Option ℕ) → IfSome (parts_round bytes slash) (λ parts. (parts.0 ≤ 10000) × (parts.1 ≤ 10000))
parts_within bytes None = tt
parts_within bytes (Some slash) = both_within (part_of_ratio (take slash bytes)) (part_of_ratio (drop (slash + 1) bytes)) (part_within (digits_of 5 (take slash bytes))) (part_within (digits_of 5 (drop (slash + 1) bytes)))

signed_zero : (n : ℕ) (negative : Bool) → with_sign negative n ≡ pos 0 → n ≡ 0
signed_zero n true is = omega (arith, ints)
signed_zero n false is = omega (arith, ints)

ratio_by : (o : Option (ℕ × ℕ)) (negative : Bool) → IfSome o (λ parts. (parts.0 ≤ 10000) × (parts.1 ≤ 10000)) → is_none o ≡ false → is_zero (option_map (λ parts. parts.0) o) ≡ false
    → (with_sign negative (unwrap_or o (0, 0)).0 ≢ pos 0) × IsWithin 10000 (with_sign negative (unwrap_or o (0, 0)).0) × IsFromTo 0 10000 (pos (unwrap_or o (0, 0)).1)
ratio_by None negative within some more = cc
ratio_by (Some (p, q)) negative within some more =
    let one : p ≡ 0 → ⊥ = grind (arith, nat_tests) in
    (λ zero. one (signed_zero p negative zero), signed_within 10000 p negative within.0, (omega (arith, ints), let q_few = within.1 in omega (arith, ints)))

pub ratio_sound : (word : List ℕ) → is_none (ratio_of word) ≡ false → is_zero (option_map (λ parts. parts.0) (ratio_of word)) ≡ false → IsSoundRatio (ratio word)
ratio_sound word some more = ratio_by (ratio_of word) (has_sign word) (parts_within (without_sign word) (position is_slash (without_sign word))) some more
