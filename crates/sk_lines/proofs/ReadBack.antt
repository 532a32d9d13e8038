-- What is written is read back.
use Rattle.std.proofs.Common.{◌≡◌, ℕ, ◌<◌, false, List, [], ◌∷◌, ◌++◌, length, map, refl, ap, ◌∙◌, arith, append_assoc}
use Rattle.std.specs.List.{slice_split, All, AllByRecursion}
use Rattle.std.specs.Str.Lines.{strip_carriage_return}
use Rattle.std.proofs.lemmas.List.Splits.{slice_split_at, slice_split_none, length-slice_split}
use Rattle.sk_lines.specs.Words.{is_blank, is_empty, words_in}
use Rattle.sk_lines.proofs.LineByLine.{without_end-cons}
use Rattle.sk_lines.specs.Lines.{is_line_feed, without_empty_end, lines_in, ended_lines}
use Rattle.sk_base.specs.Spelling.{spaced}

-- a word: some bytes, and no blank
pub record IsWord (word : List ℕ) : Type 0 where
  pub some : is_empty word ≡ false
  pub solid : All (λ b. is_blank b ≡ false) word

-- words with one space between are those words
pub words_in-spaced : (word : List ℕ) (words : List (List ℕ)) → IsWord word → AllByRecursion IsWord words → words_in (spaced (word ∷ words)) ≡ word ∷ words
words_in-spaced word [] is all = rw (slice_split_none is_blank word is.solid) (rw is.some refl)
words_in-spaced word (next ∷ words) is all =
    rw (slice_split_at is_blank word 32 (spaced (next ∷ words)) is.solid refl) (rw is.some (ap (λ ws. word ∷ ws) (words_in-spaced next words all.0 all.1)))

-- a line: no line feed, and no carriage return at its end
pub record IsLine (line : List ℕ) : Type 0 where
  pub solid : All (λ b. is_line_feed b ≡ false) line
  pub plain : strip_carriage_return line ≡ line

-- lines with a line feed each are those lines
pub lines_in-ended : (lines : List (List ℕ)) → AllByRecursion IsLine lines → lines_in (ended_lines lines) ≡ lines
lines_in-ended [] all = refl
lines_in-ended (line ∷ lines) all =
    let rest = ended_lines lines in
    let parts = slice_split is_line_feed rest in
    let more : 0 < length parts = omega (arith, length-slice_split is_line_feed rest) in
    let text : ended_lines (line ∷ lines) ≡ line ++ 10 ∷ rest = append_assoc line (10 ∷ []) rest in
    let split = slice_split_at is_line_feed line 10 rest all.0.solid refl in
    let ends = ap without_empty_end split ∙ without_end-cons line parts more in
    ap lines_in text ∙ ap (map strip_carriage_return) ends ∙ ap (λ first. first ∷ lines_in rest) all.0.plain ∙ ap (λ ls. line ∷ ls) (lines_in-ended lines all.1)
