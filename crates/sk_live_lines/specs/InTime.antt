-- The lines of an input that are answered, where it may be too long.
use Rattle.std.specs.Prelude.{ℕ, nat_le, List, [], ◌∷◌, length, take, if◌then◌else◌}
use Rattle.sk_lines.specs.Lines.{is_line_feed}

-- a byte in front of whole lines is a part of the first, and by itself a line only where it is a line feed
abbrev pub with_byte : ℕ → List ℕ → List ℕ
with_byte b [] = if is_line_feed b then b ∷ [] else []
with_byte b (c ∷ lines) = b ∷ c ∷ lines

-- the front up to the last line feed
abbrev pub whole_lines : List ℕ → List ℕ
whole_lines [] = []
whole_lines (b ∷ bytes) = with_byte b (whole_lines bytes)

-- what is answered of an input: all of it, or, where it is too long, the lines that end in the bytes that it may have
abbrev pub in_time : List ℕ → List ℕ
in_time bytes = if nat_le (length bytes) 4294967295 then bytes else whole_lines (take 4294967295 bytes)
