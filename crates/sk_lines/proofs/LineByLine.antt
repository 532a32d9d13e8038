-- The lines of a text, one after another.
use Rattle.std.proofs.Common.{◌≡◌, ℕ, ◌+◌, ◌<◌, ◌≤◌, false, List, [], ◌∷◌, length, take, drop, map, Some, None, refl, sym, ap, ◌∙◌, arith}
use Rattle.std.specs.List.{position, position_or_len, before_first, after_first, slice_split}
use Rattle.std.specs.Str.Lines.{strip_carriage_return}
use Rattle.std.proofs.lemmas.Bool.Decides.{nat_tests}
use Rattle.std.proofs.lemmas.List.Sums.{fails_before_first}
use Rattle.std.proofs.lemmas.List.Splits.{slice_split_first, slice_split_none, length-slice_split}
use Rattle.sk_lines.specs.Words.{is_empty}
use Rattle.sk_lines.specs.Lines.{is_line_feed, without_empty_end, lines_in}

pub without_end-cons : (first : List ℕ) (parts : List (List ℕ)) → 0 < length parts → without_empty_end (first ∷ parts) ≡ first ∷ without_empty_end parts
without_end-cons first [] more = absurd (omega arith)
without_end-cons first (next ∷ parts) more = refl

pub found : (bs : List ℕ) (end : ℕ) → position is_line_feed bs ≡ Some end → (end ≡ position_or_len is_line_feed bs) × (position_or_len is_line_feed bs < length bs)
found bs end is = (grind (arith, nat_tests), grind (arith, nat_tests))

none_found : (bs : List ℕ) → position is_line_feed bs ≡ None → length bs ≤ position_or_len is_line_feed bs
none_found bs is = grind (arith, nat_tests)

-- the first line ends at the first line feed
pub first_line : (bs : List ℕ) (end : ℕ) → position is_line_feed bs ≡ Some end → lines_in bs ≡ strip_carriage_return (take end bs) ∷ lines_in (drop (end + 1) bs)
first_line bs end is =
    let place = found bs end is in
    let split = slice_split_first is_line_feed bs 0 place.1 in
    let more : 0 < length (slice_split is_line_feed (after_first is_line_feed bs)) = omega (arith, length-slice_split is_line_feed (after_first is_line_feed bs)) in
    let parts = ap without_empty_end split ∙ without_end-cons (before_first is_line_feed bs) (slice_split is_line_feed (after_first is_line_feed bs)) more in
    ap (map strip_carriage_return) parts ∙ ap (λ n. strip_carriage_return (take n bs) ∷ lines_in (drop (n + 1) bs)) (sym place.0)

is_empty_no : (bs : List ℕ) → 0 < length bs → is_empty bs ≡ false
is_empty_no [] more = absurd (omega arith)
is_empty_no (b ∷ bs) more = refl

-- a text without a line feed is one line
pub only_line : (bs : List ℕ) → 0 < length bs → position is_line_feed bs ≡ None → lines_in bs ≡ strip_carriage_return bs ∷ []
only_line bs more is =
    let long = none_found bs is in
    let split = slice_split_none is_line_feed bs (λ k d below. fails_before_first is_line_feed bs k d (omega arith)) in
    ap (λ parts. map strip_carriage_return (without_empty_end parts)) split ∙ rw (is_empty_no bs more) refl
