-- What is answered in time.
use Rattle.std.proofs.Common.{◌≡◌, ℕ, ◌+◌, ◌<◌, ◌≤◌, ◌-◌, Bool, true, false, List, [], ◌∷◌, ◌++◌, length, take, refl, sym, ap, ◌∙◌, arith, inl, inr, append_assoc, append-nil, length-append}
use Rattle.std.specs.Prelude.{nat_le, if◌then◌else◌, All}
use Rattle.std.proofs.lemmas.Bool.Decides.{leb_tells}
use Rattle.std.proofs.lemmas.List.Elements.{All-head, All-tail}
use Rattle.std.proofs.Math.Seq.{take-append-add}
use Rattle.sk_lines.specs.Lines.{is_line_feed, lines_in, EndsLine}
use Rattle.sk_lines.proofs.WholeLines.{lines_in-append}
use Rattle.sk_live_lines.specs.InTime.{with_byte, whole_lines, in_time}

not_alone : (b : ℕ) → is_line_feed b ≡ false → with_byte b [] ≡ []
not_alone b is = ap (λ (t : Bool). if t then b ∷ [] else []) is

-- where no line feed stands there is no whole line
pub none_whole : (bytes : List ℕ) → All (λ b. is_line_feed b ≡ false) bytes → whole_lines bytes ≡ []
none_whole [] solid = refl
none_whole (b ∷ bytes) solid =
    ap (with_byte b) (none_whole bytes (All-tail (λ b. is_line_feed b ≡ false) b bytes solid)) ∙ not_alone b (All-head (λ b. is_line_feed b ≡ false) b bytes solid)

with_more : (b : ℕ) (lines : List ℕ) → 0 < length lines → with_byte b lines ≡ b ∷ lines
with_more b [] some = absurd (omega arith)
with_more b (c ∷ lines) some = refl

with_feed : (lines : List ℕ) → with_byte 10 lines ≡ 10 ∷ lines
with_feed [] = refl
with_feed (c ∷ lines) = refl

whole_round : (before rest : List ℕ) → whole_lines (before ++ 10 ∷ rest) ≡ before ++ 10 ∷ whole_lines rest
whole_round [] rest = with_feed (whole_lines rest)
whole_round (b ∷ before) rest =
    let long = length-append before (10 ∷ whole_lines rest) in
    ap (with_byte b) (whole_round before rest) ∙ with_more b (before ++ 10 ∷ whole_lines rest) (omega (arith, long))

-- whole lines, and then those of the rest
pub whole_front : (lines rest : List ℕ) → EndsLine lines → whole_lines (lines ++ rest) ≡ lines ++ whole_lines rest
whole_front lines rest (inl none) = rw none refl
whole_front lines rest (inr (before, ends)) =
    ap (λ (bs : List ℕ). whole_lines (bs ++ rest)) ends
    ∙ ap whole_lines (append_assoc before (10 ∷ []) rest)
    ∙ whole_round before rest
    ∙ sym (append_assoc before (10 ∷ []) (whole_lines rest))
    ∙ ap (λ (bs : List ℕ). bs ++ whole_lines rest) (sym ends)

by_length : (bytes : List ℕ) (t : Bool) → nat_le (length bytes) 4294967295 ≡ t → in_time bytes ≡ (if t then bytes else whole_lines (take 4294967295 bytes))
by_length bytes t is = ap (λ (z : Bool). if z then bytes else whole_lines (take 4294967295 bytes)) is

-- an input that isn't too long is answered whole
pub all_in_time : (bytes : List ℕ) → length bytes ≤ 4294967295 → in_time bytes ≡ bytes
all_in_time bytes fits = elim (leb_tells (length bytes) 4294967295) [ inl short ↦ by_length bytes true short.0 | inr long ↦ absurd (let more = long.1 in omega (arith, more, fits)) ]

-- so many bytes of the front, and then the others
pub front_taken : (most : ℕ) (lines rest : List ℕ) → length lines ≤ most → take most (lines ++ rest) ≡ lines ++ take (most - length lines) rest
front_taken most lines rest fits =
    let sum : most ≡ length lines + (most - length lines) = omega (arith, fits) in
    ap (λ (n : ℕ). take n (lines ++ rest)) sum ∙ take-append-add lines rest (most - length lines)

-- the whole lines that were taken are answered first
pub first_in_time : (bytes lines rest : List ℕ) → bytes ≡ lines ++ rest → EndsLine lines → length lines ≤ 4294967295 → (more : List (List ℕ)) × (lines_in (in_time bytes) ≡ lines_in lines ++ more)
first_in_time bytes lines rest cut whole fits =
    elim (leb_tells (length bytes) 4294967295) [
      | inl short ↦ (lines_in rest, ap lines_in (by_length bytes true short.0 ∙ cut) ∙ lines_in-append lines rest whole)
      | inr long ↦ (
        lines_in (whole_lines (take (4294967295 - length lines) rest)),
        ap lines_in (by_length bytes false long.0
            ∙ ap (λ (bs : List ℕ). whole_lines (take 4294967295 bs)) cut
            ∙ ap whole_lines (front_taken 4294967295 lines rest fits)
            ∙ whole_front lines (take (4294967295 - length lines) rest) whole)
            ∙ lines_in-append lines (whole_lines (take (4294967295 - length lines) rest)) whole,
      )
    ]

-- where more bytes come than there may be, no line is answered but those that were taken
pub late : (bytes lines line rest : List ℕ) → bytes ≡ (lines ++ line) ++ rest → EndsLine lines → All (λ b. is_line_feed b ≡ false) line → length (lines ++ line) ≡ 4294967295 → 0 < length rest
    → (in_time bytes ≡ lines) × (4294967295 < length bytes)
late bytes lines line rest cut whole solid full some =
    let sum = length-append (lines ++ line) rest in
    let size = ap length cut in
    let more : 4294967295 < length bytes = omega (arith, sum, size, full, some) in
    elim (leb_tells (length bytes) 4294967295) [
      | inl short ↦ absurd (let few = short.1 in omega (arith, few, more))
      | inr long ↦ (
        by_length bytes false long.0
            ∙ ap (λ (bs : List ℕ). whole_lines (take 4294967295 bs)) cut
            ∙ ap whole_lines (front_taken 4294967295 (lines ++ line) rest (omega (arith, full)))
            ∙ ap (λ (n : ℕ). whole_lines ((lines ++ line) ++ take n rest)) (let none : 4294967295 - length (lines ++ line) ≡ 0 = omega (arith, full) in none)
            ∙ ap whole_lines (append-nil (lines ++ line))
            ∙ whole_front lines line whole
            ∙ ap (λ (ls : List ℕ). lines ++ ls) (none_whole line solid)
            ∙ append-nil lines,
        more,
      )
    ]
