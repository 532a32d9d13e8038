-- A text whose front ends with a line feed.
use Rattle.std.proofs.Common.{◌≡◌, ℕ, ◌+◌, ◌<◌, ◌≤◌, Bool, true, false, cond, List, [], ◌∷◌, ◌++◌, length, take, drop, get_or, map, Some, None, refl, sym, ap, subst, ◌∙◌, arith, inl, inr, append_assoc, append-nil, length-append}
use Rattle.std.specs.Prelude.{position}
use Rattle.std.specs.List.{position_or_len, slice_split, onto_first, All}
use Rattle.std.specs.Str.Lines.{strip_carriage_return}
use Rattle.std.proofs.lemmas.Bool.Decides.{nat_tests}
use Rattle.std.proofs.lemmas.List.{map-append, get_or-take, length-take-le}
use Rattle.std.proofs.lemmas.List.Sums.{fails_before_first, split_at_first, passes_at_first}
use Rattle.std.proofs.lemmas.List.Splits.{slice_split_none, length-slice_split}
use Rattle.sk_lines.specs.Lines.{is_line_feed, without_empty_end, lines_in, EndsLine, IsFirstLine}
use Rattle.sk_lines.proofs.LineByLine.{without_end-cons, found, only_line}

onto_append : (b : ℕ) (parts more : List (List ℕ)) → 0 < length parts → onto_first b (parts ++ more) ≡ onto_first b parts ++ more
onto_append b [] more some = absurd (omega arith)
onto_append b (part ∷ parts) more some = refl

split_parts : (before rest : List ℕ) → slice_split is_line_feed (before ++ 10 ∷ rest) ≡ slice_split is_line_feed before ++ slice_split is_line_feed rest
split_parts [] rest = refl
split_parts (b ∷ before) rest =
    let parts = slice_split is_line_feed before in
    let more = slice_split is_line_feed rest in
    let some : 0 < length parts = omega (arith, length-slice_split is_line_feed before) in
    ap (λ (ps : List (List ℕ)). cond (is_line_feed b) ([] ∷ ps) (onto_first b ps)) (split_parts before rest) ∙ by (is_line_feed b) (onto_append b parts more some)
  where
    by : (t : Bool) → onto_first b (slice_split is_line_feed before ++ slice_split is_line_feed rest) ≡ onto_first b (slice_split is_line_feed before) ++ slice_split is_line_feed rest
        → cond t ([] ∷ (slice_split is_line_feed before ++ slice_split is_line_feed rest)) (onto_first b (slice_split is_line_feed before ++ slice_split is_line_feed rest)) ≡ cond t ([] ∷ slice_split is_line_feed before) (onto_first b (slice_split is_line_feed before)) ++ slice_split is_line_feed rest
    by true onto = refl
    by false onto = onto

without_end-append : (parts more : List (List ℕ)) → 0 < length more → without_empty_end (parts ++ more) ≡ parts ++ without_empty_end more
without_end-append [] more some = refl
without_end-append (part ∷ parts) more some =
    let longer : 0 < length (parts ++ more) = omega (arith, length-append parts more) in
    without_end-cons part (parts ++ more) longer ∙ ap (λ (ps : List (List ℕ)). part ∷ ps) (without_end-append parts more some)

lines_round : (before rest : List ℕ) → lines_in (before ++ 10 ∷ rest) ≡ map strip_carriage_return (slice_split is_line_feed before) ++ lines_in rest
lines_round before rest =
    let parts = slice_split is_line_feed before in
    let more = slice_split is_line_feed rest in
    let some : 0 < length more = omega (arith, length-slice_split is_line_feed rest) in
    ap (λ (ps : List (List ℕ)). map strip_carriage_return (without_empty_end ps)) (split_parts before rest)
    ∙ ap (map strip_carriage_return) (without_end-append parts more some)
    ∙ map-append strip_carriage_return parts (without_empty_end more)

lines_ended : (before : List ℕ) → lines_in (before ++ 10 ∷ []) ≡ map strip_carriage_return (slice_split is_line_feed before)
lines_ended before = lines_round before [] ∙ append-nil (map strip_carriage_return (slice_split is_line_feed before))

-- the lines of a front that ends with a line feed, and then those of the rest
pub lines_in-append : (front rest : List ℕ) → EndsLine front → lines_in (front ++ rest) ≡ lines_in front ++ lines_in rest
lines_in-append front rest (inl none) = rw none refl
lines_in-append front rest (inr (before, ends)) =
    ap (λ (bs : List ℕ). lines_in (bs ++ rest)) ends
    ∙ ap lines_in (append_assoc before (10 ∷ []) rest)
    ∙ lines_round before rest
    ∙ ap (λ (ls : List (List ℕ)). ls ++ lines_in rest) (sym (ap lines_in ends ∙ lines_ended before))

pub last_line : (bytes : List ℕ) → 0 < length bytes → position is_line_feed bytes ≡ None → IsFirstLine bytes (strip_carriage_return bytes) []
last_line bytes some none = record { taken = bytes; cut = sym (append-nil bytes); only = only_line bytes some none; ends = inr refl }

no_line_feed : (bytes : List ℕ) (end : ℕ) → end ≡ position_or_len is_line_feed bytes → end ≤ length bytes → All (λ b. is_line_feed b ≡ false) (take end bytes)
no_line_feed bytes end is within k d below =
    let count = length-take-le end bytes within in
    let shorter : k < end = omega arith in
    ap is_line_feed (get_or-take end bytes k d shorter) ∙ fails_before_first is_line_feed bytes k d (omega arith)

pub line_of_many : (bytes : List ℕ) (end : ℕ) → position is_line_feed bytes ≡ Some end → IsFirstLine bytes (strip_carriage_return (take end bytes)) (drop (end + 1) bytes)
line_of_many bytes end is =
    let place = found bytes end is in
    let feed : get_or bytes (position_or_len is_line_feed bytes) 0 ≡ 10 = let passes = passes_at_first is_line_feed bytes 0 place.1 in grind (arith, nat_tests) in
    let whole : bytes ≡ take end bytes ++ 10 ∷ drop (end + 1) bytes =
    subst (λ (n : ℕ). bytes ≡ take n bytes ++ 10 ∷ drop (n + 1) bytes) (sym place.0)
    (split_at_first is_line_feed bytes 0 place.1 ∙ ap (λ (b : ℕ). take (position_or_len is_line_feed bytes) bytes ++ b ∷ drop (position_or_len is_line_feed bytes + 1) bytes) feed) in
    let solid = slice_split_none is_line_feed (take end bytes) (no_line_feed bytes end place.0 (omega arith)) in
    record {
      taken = take end bytes ++ 10 ∷ [];
      cut = whole ∙ sym (append_assoc (take end bytes) (10 ∷ []) (drop (end + 1) bytes));
      only = lines_ended (take end bytes) ∙ ap (map strip_carriage_return) solid;
      ends = inl (inr (take end bytes, refl));
    }
