-- How many lines a text has at most.
use Rattle.std.proofs.Common.{ℕ, ◌+◌, ◌<◌, ◌≤◌, Bool, true, false, cond, List, [], ◌∷◌, length, arith}
use Rattle.std.specs.List.{slice_split, onto_first}
use Rattle.std.specs.Str.Lines.{strip_carriage_return}
use Rattle.std.proofs.lemmas.List.{length-map}
use Rattle.std.proofs.lemmas.List.Splits.{length-slice_split}
use Rattle.sk_lines.specs.Lines.{is_line_feed, without_empty_end, lines_in}
use Rattle.sk_lines.proofs.LineByLine.{without_end-cons}

few_onto : (b : ℕ) (parts : List (List ℕ)) (n : ℕ) → 0 < length parts → length (without_empty_end parts) ≤ n → length (without_empty_end (onto_first b parts)) ≤ n + 1
few_onto b [] n some few = absurd (omega arith)
few_onto b (first ∷ []) n some few = omega arith
few_onto b (first ∷ next ∷ more) n some few = omega (arith, few)

few_parts : (bytes : List ℕ) → length (without_empty_end (slice_split is_line_feed bytes)) ≤ length bytes
few_parts [] = omega arith
few_parts (b ∷ bytes) = by (is_line_feed b) (few_parts bytes)
  where
    by : (t : Bool) → length (without_empty_end (slice_split is_line_feed bytes)) ≤ length bytes → length (without_empty_end (cond t ([] ∷ slice_split is_line_feed bytes) (onto_first b (slice_split is_line_feed bytes)))) ≤ length (b ∷ bytes)
    by true few =
        let some : 0 < length (slice_split is_line_feed bytes) = omega (arith, length-slice_split is_line_feed bytes) in
        rw (without_end-cons [] (slice_split is_line_feed bytes) some) (omega (arith, few))
    by false few =
        let some : 0 < length (slice_split is_line_feed bytes) = omega (arith, length-slice_split is_line_feed bytes) in
        let onto = few_onto b (slice_split is_line_feed bytes) (length bytes) some few in omega (arith, onto)

-- each line has a byte of its own
pub few_lines : (bytes : List ℕ) → length (lines_in bytes) ≤ length bytes
few_lines bytes = rw (length-map (without_empty_end (slice_split is_line_feed bytes)) strip_carriage_return) (few_parts bytes)
