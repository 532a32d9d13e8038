-- The words of a line, with one space between, are no longer than the line.
use Rattle.std.proofs.Common.{◌≡◌, ℕ, ◌+◌, ◌<◌, ◌≤◌, Bool, true, false, not, cond, List, [], ◌∷◌, length, filter, Some, refl, ap, arith, length-append}
use Rattle.std.specs.List.{slice_split, onto_first, position_or_len}
use Rattle.std.proofs.lemmas.Bool.Decides.{nat_tests}
use Rattle.std.proofs.lemmas.List.{length-take-le}
use Rattle.std.proofs.lemmas.List.Sums.{prefix_len-le-length}
use Rattle.std.proofs.lemmas.List.Splits.{length-slice_split}
use Rattle.sk_base.specs.Spelling.{spaced}
use Rattle.sk_lines.specs.Words.{is_blank, is_empty, is_too_long}
use Rattle.sk_lines.specs.declared.keyword.Keyword.{Keyword}
use Rattle.sk_lines.specs.declared.version.Version.{Version}
use Rattle.sk_lines.specs.declared.version.Version.TheVariants.{One, Two}
use Rattle.sk_lines.specs.Comments.{is_hash, before_comment, words_under}
use Rattle.sk_lines.specs.Keywords.{keyword_of}

-- each word with a byte before it
abbrev pub extent : List (List ℕ) → ℕ
extent [] = 0
extent (word ∷ words) = 1 + length word + extent words

pub spaced_extent : (word : List ℕ) (words : List (List ℕ)) → length (spaced (word ∷ words)) + 1 ≡ extent (word ∷ words)
spaced_extent word [] = omega arith
spaced_extent word (next ∷ words) =
    let rest = spaced_extent next words in
    let parts = length-append word (32 ∷ spaced (next ∷ words)) in omega (arith, rest, parts)

onto_extent : (b : ℕ) (parts : List (List ℕ)) → 0 < length parts → extent (onto_first b parts) ≡ 1 + extent parts
onto_extent b [] some = absurd (omega arith)
onto_extent b (part ∷ parts) some = omega arith

split_extent : (bytes : List ℕ) → extent (slice_split is_blank bytes) ≡ length bytes + 1
split_extent [] = refl
split_extent (b ∷ bytes) = by (is_blank b) (split_extent bytes)
  where
    by : (t : Bool) → extent (slice_split is_blank bytes) ≡ length bytes + 1 → extent (cond t ([] ∷ slice_split is_blank bytes) (onto_first b (slice_split is_blank bytes))) ≡ length (b ∷ bytes) + 1
    by true rest = omega (arith, rest)
    by false rest =
        let some : 0 < length (slice_split is_blank bytes) = omega (arith, length-slice_split is_blank bytes) in
        let onto = onto_extent b (slice_split is_blank bytes) some in omega (arith, rest, onto)

kept_extent : (keep : List ℕ → Bool) (parts : List (List ℕ)) → extent (filter keep parts) ≤ extent parts
kept_extent keep [] = omega arith
kept_extent keep (part ∷ parts) = by (keep part) (kept_extent keep parts)
  where
    by : (t : Bool) → extent (filter keep parts) ≤ extent parts → extent (cond t (part ∷ filter keep parts) (filter keep parts)) ≤ extent (part ∷ parts)
    by true rest = omega (arith, rest)
    by false rest = omega (arith, rest)

before_comment_length : (v : Version) (line : List ℕ) → length (before_comment v line) ≤ length line
before_comment_length One line = omega arith
before_comment_length Two line =
    let short = prefix_len-le-length (λ b. not (is_hash b)) line in
    let count = length-take-le (position_or_len is_hash line) line short in omega (arith, short, count)

words_extent : (v : Version) (line : List ℕ) → extent (words_under v line) ≤ length line + 1
words_extent v line =
    let said = before_comment v line in
    let kept = kept_extent (λ part. not (is_empty part)) (slice_split is_blank said) in
    let split = split_extent said in
    let short = before_comment_length v line in omega (arith, kept, split, short)

-- the words of a line that begins with a keyword
pub record BeginsLine (v : Version) (k : Keyword) (rest : List (List ℕ)) : Type 0 where
  pub first : List ℕ
  pub keyword : keyword_of v first ≡ Some k
  pub fits : extent (first ∷ rest) ≤ 201

pub begins_line : (v : Version) (line first : List ℕ) (rest : List (List ℕ)) (k : Keyword) → is_too_long line ≡ false → words_under v line ≡ first ∷ rest → keyword_of v first ≡ Some k → BeginsLine v k rest
begins_line v line first rest k short words keyword =
    let few : length line ≤ 200 = grind (arith, nat_tests) in
    let extent_is = ap extent words in
    let all = words_extent v line in
    record { first = first; keyword = keyword; fits = omega (arith, few, extent_is, all) }
