-- The bytes and the words of a line.
use Rattle.std.specs.Prelude.{◌≡◌, ⊤, true, false, ℕ, ◌<◌, ◌≤◌, Bool, ◌&&◌, ◌||◌, not, ◌==◌, nat_lt, nat_le, List, [], ◌∷◌, length, filter}
use Rattle.std.specs.List.{list_any, slice_split, slice_range}
use Rattle.sk_lines.specs.declared.words.Word.{Word}
use Rattle.sk_lines.specs.declared.words.LexFault.{LexFault}
use Rattle.sk_lines.specs.declared.words.LexFault.TheVariants.{LineTooLong, NotAscii, NoMemory}

-- more than 200 bytes
abbrev pub is_too_long : List ℕ → Bool
is_too_long line = nat_lt 200 (length line)

-- 0x20 to 0x7E, or a tab
abbrev pub is_text_byte : ℕ → Bool
is_text_byte b = (nat_le 32 b && nat_le b 126) || (b == 9)

abbrev pub has_wrong_byte : List ℕ → Bool
has_wrong_byte line = list_any (λ b. not (is_text_byte b)) line

-- a space or a tab
abbrev pub is_blank : ℕ → Bool
is_blank b = (b == 32) || (b == 9)

abbrev pub is_empty : List ℕ → Bool
is_empty [] = true
is_empty (b ∷ bytes) = false

-- the parts between blanks that aren't empty
abbrev pub words_in : List ℕ → List (List ℕ)
words_in line = filter (λ part. not (is_empty part)) (slice_split is_blank line)

-- the bytes of a word of the line
abbrev pub bytes_of : List ℕ → Word → List ℕ
bytes_of line word = slice_range line word.start word.end

-- the words stand one after another, from one place of the line to another
abbrev pub StandInOrder : ℕ → List Word → ℕ → Type 0
StandInOrder from [] to = from ≤ to
StandInOrder from (word ∷ more) to = (from ≤ word.start) × (word.start < word.end) × StandInOrder word.end more to

-- the fault of a line, where there is memory
abbrev pub IsFaultOf : List ℕ → LexFault → Type 0
IsFaultOf line LineTooLong = is_too_long line ≡ true
IsFaultOf line NotAscii = (is_too_long line ≡ false) × (has_wrong_byte line ≡ true)
IsFaultOf line NoMemory = ⊤
