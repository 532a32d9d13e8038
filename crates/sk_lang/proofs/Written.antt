-- Words that are written: numbers, names and ratios of at most sixteen bytes, and the lines of some of them.
use Rattle.std.proofs.Common.{◌≡◌, ℕ, suc, ◌+◌, ◌*◌, ◌/◌, ◌%◌, ◌<◌, ◌≤◌, Bool, true, false, cond, nat_eq, List, [], ◌∷◌, ◌++◌, length, refl, arith, ℤ, pos, negsuc, length-append}
use Rattle.std.specs.Fmt.{decimal}
use Rattle.std.proofs.lemmas.Bool.Decides.{nat_tests}
use Rattle.std.proofs.lemmas.Int.{ints}
use Rattle.sk_base.specs.Bounds.{IsWithin}
use Rattle.sk_base.specs.Spelling.{magnitude, with_minus, fraction_text, whole_text, mm_text, spaced}
use Rattle.sk_lines.proofs.LineWords.{extent, spaced_extent}
use Rattle.sk_lines.proofs.SolidLines.{is_solid, AreSolid, solid_append, IsSpelled, decimal_spelled, AreSolidWords, solid, IsLineOf, fitting_line}

-- a word of at most sixteen bytes
abbrev pub IsWritten : List ℕ → Type 0
IsWritten word = IsSpelled word 16

written_digit_solid : (a : ℕ) → a < 10 → is_solid (48 + a) ≡ true
written_digit_solid a small = grind (arith, nat_tests)

-- a spelling of at most fifteen bytes, and its sign
signed_written : (z : ℤ) (word : List ℕ) → IsSpelled word 15 → IsWritten (with_minus z word)
signed_written (pos n) word is = let few = is.few in record { some = is.some; few = omega arith; solid = is.solid }
signed_written (negsuc n) word is = let few = is.few in record { some = omega arith; few = omega arith; solid = (refl, is.solid) }

record IsTail (text : List ℕ) : Type 0 where
  few : length text ≤ 4
  solid : AreSolid text

tail_by : (t1 t2 t3 : Bool) (a b c : ℕ) → a < 10 → b < 10 → c < 10 → IsTail (cond t1 [] (cond t2 (46 ∷ (48 + a) ∷ []) (cond t3 (46 ∷ (48 + a) ∷ (48 + b) ∷ []) (46 ∷ (48 + a) ∷ (48 + b) ∷ (48 + c) ∷ []))))
tail_by true t2 t3 a b c p q r = record { few = omega arith; solid = tt }
tail_by false true t3 a b c p q r = record { few = omega arith; solid = (refl, (written_digit_solid a p, tt)) }
tail_by false false true a b c p q r = record { few = omega arith; solid = (refl, (written_digit_solid a p, (written_digit_solid b q, tt))) }
tail_by false false false a b c p q r = record { few = omega arith; solid = (refl, (written_digit_solid a p, (written_digit_solid b q, (written_digit_solid c r, tt)))) }

fraction_tail : (n : ℕ) → IsTail (fraction_text n)
fraction_tail n = tail_by (nat_eq (n % 1000) 0) (nat_eq (n % 100) 0) (nat_eq (n % 10) 0) (n / 100 % 10) (n / 10 % 10) (n / 1 % 10) (omega arith) (omega arith) (omega arith)

pub magnitude_within : (most : ℕ) (z : ℤ) → IsWithin most z → magnitude z ≤ most
magnitude_within most (pos n) within = let high = within.1 in omega (arith, ints)
magnitude_within most (negsuc n) within = let low = within.0 in omega (arith, ints)

pub mm_written : (z : ℤ) → magnitude z ≤ 1000000000 → IsWritten (mm_text z)
mm_written z few =
    let m = magnitude z in
    let whole = decimal_spelled 7 (m / 1000) (omega arith) (omega arith) (omega arith) in
    let tail = fraction_tail m in
    let parts = length-append (decimal (m / 1000)) (fraction_text m) in
    let some = whole.some in
    let front_few = whole.few in
    let tail_few = tail.few in
    signed_written z (decimal (m / 1000) ++ fraction_text m) (record { some = omega arith; few = omega arith; solid = solid_append (decimal (m / 1000)) (fraction_text m) whole.solid tail.solid })

part_spelled : (n : ℕ) → n ≤ 10000 → IsSpelled (decimal n) 5
part_spelled n small = decimal_spelled 5 n (omega arith) (omega arith) (omega arith)

pub ratio_written : (p : ℤ) (m : ℕ) → magnitude p ≤ 10000 → m ≤ 10000 → IsWritten (whole_text p ++ 47 ∷ decimal m)
ratio_written (pos n) m few small =
    let first = part_spelled n few in
    let second = part_spelled m small in
    let parts = length-append (decimal n) (47 ∷ decimal m) in
    let first_few = first.few in
    let second_few = second.few in
    record { some = omega arith; few = omega arith; solid = solid_append (decimal n) (47 ∷ decimal m) first.solid (refl, second.solid) }
ratio_written (negsuc n) m few small =
    let first = part_spelled (suc n) few in
    let second = part_spelled m small in
    let parts = length-append (decimal (suc n)) (47 ∷ decimal m) in
    let first_few = first.few in
    let second_few = second.few in
    record { some = omega arith; few = omega arith; solid = (refl, solid_append (decimal (suc n)) (47 ∷ decimal m) first.solid (refl, second.solid)) }

abbrev pub AreWritten : List (List ℕ) → Type 0
AreWritten [] = Unit {0}
AreWritten (word ∷ words) = IsWritten word × AreWritten words

pub written_solid : (words : List (List ℕ)) → AreWritten words → AreSolidWords words
written_solid [] all = tt
written_solid (word ∷ words) all = (solid word all.0, written_solid words all.1)

written_extent : (words : List (List ℕ)) → AreWritten words → extent words ≤ 17 * length words
written_extent [] all = omega arith
written_extent (word ∷ words) all =
    let few = all.0.few in
    let rest = written_extent words all.1 in omega arith

pub short_line : (word : List ℕ) (words : List (List ℕ)) → AreWritten (word ∷ words) → length words ≤ 5 → length (spaced (word ∷ words)) ≤ 102
short_line word words all count =
    let len = spaced_extent word words in
    let most = written_extent (word ∷ words) all in omega arith

pub written_line : (word : List ℕ) (words : List (List ℕ)) → AreWritten (word ∷ words) → length words ≤ 5 → IsLineOf (spaced (word ∷ words)) (word ∷ words)
written_line word words all count = fitting_line word words (written_solid (word ∷ words) all) (let len = short_line word words all count in omega arith)
