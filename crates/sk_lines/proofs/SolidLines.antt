-- Lines of solid words, however many: words of printable bytes with one space between.
use Rattle.std.proofs.Common.{◌≡◌, ℕ, zero, suc, ◌+◌, ◌-◌, ◌<◌, ◌≤◌, ◌^◌, Bool, true, false, not, ◌&&◌, cond, nat_le, nat_eq, List, [], ◌∷◌, ◌++◌, length, take, get_or, refl, ap, ◌∙◌, arith, IsTrue}
use Rattle.std.specs.List.{list_all, before_first, position_or_len, AllByRecursion}
use Rattle.std.specs.Fmt.{decimal}
use Rattle.std.specs.Str.Parse.{AllDigits}
use Rattle.std.specs.Char.{digit_value, is_ascii_alphabetic}
use Rattle.std.proofs.lemmas.Bool.Decides.{nat_tests}
use Rattle.std.proofs.lemmas.Fmt.{decimal_is_IsNumeral, length-decimal-le}
use Rattle.std.proofs.lemmas.List.Elements.{All-from_recursion}
use Rattle.sk_base.specs.Labels.{is_name, is_name_byte}
use Rattle.sk_base.specs.Spelling.{spaced}
use Rattle.std.proofs.lemmas.Bool.{and_parts}
use Rattle.sk_lines.specs.Words.{is_too_long, is_text_byte, has_wrong_byte, is_blank, is_empty, words_in}
use Rattle.sk_lines.specs.declared.version.Version.{Version}
use Rattle.sk_lines.specs.declared.version.Version.TheVariants.{One, Two}
use Rattle.sk_lines.specs.Comments.{is_hash, before_comment, words_under}
use Rattle.sk_lines.specs.Lines.{is_line_feed}
use Rattle.sk_lines.proofs.LineWords.{extent, spaced_extent}
use Rattle.sk_lines.proofs.ReadBack.{IsWord, IsLine, words_in-spaced}

-- printable, no blank and no `#`
abbrev pub is_solid : ℕ → Bool
is_solid b = nat_le 33 b && nat_le b 126 && not (nat_eq b 35)

abbrev pub AreSolid : List ℕ → Type 0
AreSolid [] = Unit {0}
AreSolid (b ∷ bytes) = (is_solid b ≡ true) × AreSolid bytes

solid_all : (bytes : List ℕ) → list_all is_solid bytes ≡ true → AreSolid bytes
solid_all [] is = tt
solid_all (b ∷ bytes) is = let parts = and_parts (is_solid b) (list_all is_solid bytes) is in (parts.0, solid_all bytes parts.1)

pub solid_append : (xs ys : List ℕ) → AreSolid xs → AreSolid ys → AreSolid (xs ++ ys)
solid_append [] ys p q = q
solid_append (x ∷ xs) ys p q = (p.0, solid_append xs ys p.1 q)

digit_solid : (c : ℕ) → digit_value c < 10 → is_solid c ≡ true
digit_solid c small = grind (arith, nat_tests)

digits_solid : (bytes : List ℕ) → AllDigits 10 bytes → AreSolid bytes
digits_solid [] all = tt
digits_solid (b ∷ bytes) all = (digit_solid b all.0, digits_solid bytes all.1)

name_byte_solid : (b : ℕ) → is_name_byte b ≡ true → is_solid b ≡ true
name_byte_solid b is = grind (arith, nat_tests)

letter_solid : (b : ℕ) → is_ascii_alphabetic b ≡ true → is_solid b ≡ true
letter_solid b is = grind (arith, nat_tests)

name_bytes_solid : (bytes : List ℕ) → list_all is_name_byte bytes ≡ true → AreSolid bytes
name_bytes_solid [] is = tt
name_bytes_solid (b ∷ bytes) is = let parts = and_parts (is_name_byte b) (list_all is_name_byte bytes) is in (name_byte_solid b parts.0, name_bytes_solid bytes parts.1)

-- at least one byte and at most so many, none of them a blank
pub record IsSpelled (word : List ℕ) (most : ℕ) : Type 0 where
  pub some : 0 < length word
  pub few : length word ≤ most
  pub solid : AreSolid word

pub literal : (word : List ℕ) (most : ℕ) → 0 < length word → length word ≤ most → list_all is_solid word ≡ true → IsSpelled word most
literal word most some few is = record { some = some; few = few; solid = solid_all word is }

pub name_spelled : (name : List ℕ) → IsTrue (is_name name) → IsSpelled name 16
name_spelled [] is = cc
name_spelled (first ∷ rest) is =
    let outer = and_parts (is_ascii_alphabetic first && nat_le (length rest) 15) (list_all is_name_byte rest) is in
    let inner = and_parts (is_ascii_alphabetic first) (nat_le (length rest) 15) outer.0 in
    let short = inner.1 in
    let few : length rest ≤ 15 = grind (arith, nat_tests) in
    record { some = omega arith; few = omega arith; solid = (letter_solid first inner.0, name_bytes_solid rest outer.1) }

pub decimal_spelled : (most n : ℕ) → 0 < most → n < 10 ^ most → n < 2 ^ 64 → IsSpelled (decimal n) most
decimal_spelled most n some small wide =
    let numeral = decimal_is_IsNumeral n wide in
    record { some = numeral.0.0; few = length-decimal-le most n some small wide; solid = digits_solid (decimal n) numeral.0.1 }

-- ---- lines of words

pub record IsSolidWord (word : List ℕ) : Type 0 where
  pub some : 0 < length word
  pub solid : AreSolid word

abbrev pub AreSolidWords : List (List ℕ) → Type 0
AreSolidWords [] = Unit {0}
AreSolidWords (word ∷ words) = IsSolidWord word × AreSolidWords words

pub solid : {most : ℕ} (word : List ℕ) → IsSpelled word most → IsSolidWord word
solid word is = record { some = is.some; solid = is.solid }

-- printable or a space, and no `#`
abbrev pub is_plain : ℕ → Bool
is_plain b = nat_le 32 b && nat_le b 126 && not (nat_eq b 35)

abbrev ArePlain : List ℕ → Type 0
ArePlain [] = Unit {0}
ArePlain (b ∷ bytes) = (is_plain b ≡ true) × ArePlain bytes

solid_plain : (b : ℕ) → is_solid b ≡ true → is_plain b ≡ true
solid_plain b is = grind (arith, nat_tests)

plain_append : (xs ys : List ℕ) → AreSolid xs → ArePlain ys → ArePlain (xs ++ ys)
plain_append [] ys p q = q
plain_append (x ∷ xs) ys p q = (solid_plain x p.0, plain_append xs ys p.1 q)

plain_word : (xs : List ℕ) → AreSolid xs → ArePlain xs
plain_word [] p = tt
plain_word (x ∷ xs) p = (solid_plain x p.0, plain_word xs p.1)

spaced_plain : (words : List (List ℕ)) → AreSolidWords words → ArePlain (spaced words)
spaced_plain [] all = tt
spaced_plain (word ∷ []) all = plain_word word all.0.solid
spaced_plain (word ∷ next ∷ words) all = plain_append word (32 ∷ spaced (next ∷ words)) all.0.solid (refl, spaced_plain (next ∷ words) all.1)

plain_is_text : (b : ℕ) → is_plain b ≡ true → not (is_text_byte b) ≡ false
plain_is_text b is = grind (arith, nat_tests)

plain_ascii : (bytes : List ℕ) → ArePlain bytes → has_wrong_byte bytes ≡ false
plain_ascii [] all = refl
plain_ascii (b ∷ bytes) all = rw (plain_is_text b all.0) (plain_ascii bytes all.1)

plain_feed : (b : ℕ) → is_plain b ≡ true → is_line_feed b ≡ false
plain_feed b is = grind (arith, nat_tests)

plain_feeds : (bytes : List ℕ) → ArePlain bytes → AllByRecursion (λ b. is_line_feed b ≡ false) bytes
plain_feeds [] all = tt
plain_feeds (b ∷ bytes) all = (plain_feed b all.0, plain_feeds bytes all.1)

plain_return : (b : ℕ) → is_plain b ≡ true → nat_eq b 13 ≡ false
plain_return b is = grind (arith, nat_tests)

plain_at : (bytes : List ℕ) (i : ℕ) → ArePlain bytes → nat_eq (get_or bytes i 0) 13 ≡ false
plain_at [] i all = refl
plain_at (b ∷ bytes) zero all = plain_return b all.0
plain_at (b ∷ bytes) (suc i) all = plain_at bytes i all.1

plain_line : (bytes : List ℕ) → ArePlain bytes → IsLine bytes
plain_line bytes all = record { solid = All-from_recursion (λ b. is_line_feed b ≡ false) bytes (plain_feeds bytes all); plain = rw (plain_at bytes (length bytes - 1) all) refl }

solid_blank : (b : ℕ) → is_solid b ≡ true → is_blank b ≡ false
solid_blank b is = grind (arith, nat_tests)

solid_blanks : (bytes : List ℕ) → AreSolid bytes → AllByRecursion (λ b. is_blank b ≡ false) bytes
solid_blanks [] all = tt
solid_blanks (b ∷ bytes) all = (solid_blank b all.0, solid_blanks bytes all.1)

not_empty : (bytes : List ℕ) → 0 < length bytes → is_empty bytes ≡ false
not_empty [] some = absurd (omega arith)
not_empty (b ∷ bytes) some = refl

solid_word : (word : List ℕ) → IsSolidWord word → IsWord word
solid_word word is = record { some = not_empty word is.some; solid = All-from_recursion (λ b. is_blank b ≡ false) word (solid_blanks word is.solid) }

solid_words : (words : List (List ℕ)) → AreSolidWords words → AllByRecursion IsWord words
solid_words [] all = tt
solid_words (word ∷ words) all = (solid_word word all.0, solid_words words all.1)

-- the line of the words: it is read as these, and has no code by its bytes
pub record IsLineOf (line : List ℕ) (words : List (List ℕ)) : Type 0 where
  pub words_are : (v : Version) → words_under v line ≡ words
  pub short : is_too_long line ≡ false
  pub ascii : has_wrong_byte line ≡ false
  pub is_line : IsLine line
  pub few : length line ≤ 200

plain_hash : (b : ℕ) → is_plain b ≡ true → is_hash b ≡ false
plain_hash b is = grind (arith, nat_tests)

uncut_by : (t : Bool) (n b : ℕ) (bytes : List ℕ) → t ≡ false → take n bytes ≡ bytes → take (cond (not t) (1 + n) 0) (b ∷ bytes) ≡ b ∷ bytes
uncut_by true n b bytes is same = cc
uncut_by false n b bytes is same = (let more : 1 + n ≡ suc n = omega arith in ap (λ (m : ℕ). take m (b ∷ bytes)) more ∙ ap (λ (bs : List ℕ). b ∷ bs) same)

plain_uncut : (bytes : List ℕ) → ArePlain bytes → before_first is_hash bytes ≡ bytes
plain_uncut [] all = refl
plain_uncut (b ∷ bytes) all = uncut_by (is_hash b) (position_or_len is_hash bytes) b bytes (plain_hash b all.0) (plain_uncut bytes all.1)

plain_said : (v : Version) (bytes : List ℕ) → ArePlain bytes → before_comment v bytes ≡ bytes
plain_said One bytes all = refl
plain_said Two bytes all = plain_uncut bytes all

-- words with one space between, which have at most 200 bytes
pub fitting_line : (word : List ℕ) (words : List (List ℕ)) → AreSolidWords (word ∷ words) → length (spaced (word ∷ words)) ≤ 200 → IsLineOf (spaced (word ∷ words)) (word ∷ words)
fitting_line word words all few =
    let plain = spaced_plain (word ∷ words) all in
    record {
      words_are = λ v. ap words_in (plain_said v (spaced (word ∷ words)) plain) ∙ words_in-spaced word words (solid_word word all.0) (solid_words words all.1);
      short = grind (arith, nat_tests);
      ascii = plain_ascii (spaced (word ∷ words)) plain;
      is_line = plain_line (spaced (word ∷ words)) plain;
      few = few;
    }

pub solid_line : (word : List ℕ) (words : List (List ℕ)) → AreSolidWords (word ∷ words) → extent (word ∷ words) ≤ 200 → IsLineOf (spaced (word ∷ words)) (word ∷ words)
solid_line word words all fits = fitting_line word words all (let most = spaced_extent word words in omega (arith, most, fits))

-- where nothing is a comment
pub words_in_line : (line : List ℕ) (words : List (List ℕ)) → IsLineOf line words → words_in line ≡ words
words_in_line line words is = is.words_are One

plain_all : (bytes : List ℕ) → list_all is_plain bytes ≡ true → ArePlain bytes
plain_all [] is = tt
plain_all (b ∷ bytes) is = let parts = and_parts (is_plain b) (list_all is_plain bytes) is in (parts.0, plain_all bytes parts.1)

pub plain_text : (bytes : List ℕ) → list_all is_plain bytes ≡ true → IsLine bytes
plain_text bytes is = plain_line bytes (plain_all bytes is)
