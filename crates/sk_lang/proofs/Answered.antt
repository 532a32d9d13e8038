-- The answer that is computed is the one that the text has.
use Rattle.std.proofs.Common.{◌≡◌, ℕ, ◌+◌, ◌≤◌, ◌⊎◌, inl, inr, Bool, true, false, not, ◌&&◌, cond, nat_lt, List, [], ◌∷◌, ◌++◌, length, Option, Some, None, Ok, Err, refl, sym, ap, subst, ◌∙◌, arith}
use Rattle.std.specs.List.{list_all}
use Rattle.std.proofs.lemmas.Bool.Decides.{nat_tests}
use Rattle.sk_base.specs.declared.Sketch.{Sketch}
use Rattle.sk_lines.specs.declared.Code.{Code}
use Rattle.sk_lines.specs.declared.Code.TheVariants.{E15, E16, E18, E19, E20}
use Rattle.sk_lines.specs.declared.Version.{Version}
use Rattle.sk_lang.specs.declared.progress.Progress.{Progress}
use Rattle.sk_lang.specs.declared.progress.Progress.TheVariants.{Before, Within, After}
use Rattle.sk_lines.specs.declared.Keyword.{Keyword}
use Rattle.sk_lang.specs.Header.{words_at}
use Rattle.sk_lines.specs.Keywords.{keyword_of}
use Rattle.sk_lang.specs.Codes.{code_of, word_rows}
use Rattle.sk_lines.specs.EndLine.{is_none_left}
use Rattle.sk_lines.specs.FirstCode.{first_code}
use Rattle.sk_entry.specs.Growth.{empty_sketch}
use Rattle.sk_lang.specs.Progress.{progress_after, progress_after_words, progress_within}
use Rattle.sk_lines.specs.Words.{is_too_long, has_wrong_byte, words_in}
use Rattle.sk_lines.specs.Lines.{lines_in}
use Rattle.sk_lang.specs.Reading.{is_blank_line, progress_along, HaveNoCode, HasFirstCode, has_ended, Reads, Refuses, TooLong, Empty, AtLine, NoEnd}
use Rattle.sk_lang.proofs.Computed.{Answer, or_code, at_end, read_from, reading}

pub both : (a b : Bool) → (a && b) ≡ true → (a ≡ true) × (b ≡ true)
both true b e = (refl, e)
both false b e = cc

chosen : {X : Type 0} (t : Bool) (x y z : X) → cond t x y ≡ z → ((t ≡ true) × (x ≡ z)) ⊎ ((t ≡ false) × (y ≡ z))
chosen true x y z e = inl (refl, e)
chosen false x y z e = inr (refl, e)

or_code_ok : (code : Option Code) (n : ℕ) (rest : Answer) (s : Sketch) → or_code code n rest ≡ Ok s → (code ≡ None) × (rest ≡ Ok s)
or_code_ok None n rest s e = (refl, e)
or_code_ok (Some code) n rest s e = cc

line_of : Answer → ℕ
line_of (Ok s) = 0
line_of (Err refusal) = refusal.0

code_in : Code → Answer → Code
code_in code (Ok s) = code
code_in code (Err refusal) = refusal.1

-- two refusals that are one
err_same : (n m : ℕ) (c d : Code) (a b : Answer) → a ≡ Err (n, c) → b ≡ Err (m, d) → a ≡ b → (n ≡ m) × (c ≡ d)
unfolding line_of code_in
err_same n m c d a b is_a is_b e = (ap line_of (sym is_a) ∙ ap line_of e ∙ ap line_of is_b, ap (code_in c) (sym is_a) ∙ ap (code_in c) e ∙ ap (code_in c) is_b)

or_code_err : (found : Option Code) (n : ℕ) (rest : Answer) (m : ℕ) (code : Code) → or_code found n rest ≡ Err (m, code) → ((found ≡ Some code) × (m ≡ n)) ⊎ ((found ≡ None) × (rest ≡ Err (m, code)))
or_code_err None n rest m code e = inr (refl, e)
or_code_err (Some found) n rest m code e =
    let same = err_same n m found code (Err (n, found)) (Err (m, code)) refl refl e in inl (ap (λ c. Some c) same.1, sym same.0)

at_end_ok : (progress : Progress) (n : ℕ) (s : Sketch) → at_end progress n ≡ Ok s → (v : Version) × (progress ≡ After v s)
at_end_ok Before n s e = cc
at_end_ok (Within v t) n s e = cc
at_end_ok (After v t) n s e = (let same : t ≡ s = cc in (v, ap (λ (u : Sketch). After v u) same))

read_ok : (lines : List (List ℕ)) (progress : Progress) (n : ℕ) (s : Sketch) → read_from progress n lines ≡ Ok s → HaveNoCode progress lines × ((v : Version) × (progress_along progress lines ≡ After v s))
read_ok [] progress n s e = (tt, at_end_ok progress n s e)
read_ok (line ∷ lines) progress n s e =
    let head = or_code_ok (code_of progress line) n (read_from (progress_after progress line) (n + 1) lines) s e in
    let rest = read_ok lines (progress_after progress line) (n + 1) s head.1 in ((head.0, rest.0), rest.1)

-- the first line with a code, from a progress on
record Fault (progress : Progress) (lines : List (List ℕ)) (n m : ℕ) (code : Code) : Type 0 where
  before : List (List ℕ)
  line : List ℕ
  after : List (List ℕ)
  parts : lines ≡ before ++ line ∷ after
  clean : HaveNoCode progress before
  code_is : code_of (progress_along progress before) line ≡ Some code
  number : m ≡ n + length before

abbrev AtEnd : Progress → List (List ℕ) → ℕ → ℕ → Code → Type 0
AtEnd progress lines n m code = HaveNoCode progress lines × (at_end (progress_along progress lines) (n + length lines) ≡ Err (m, code))

read_err : (lines : List (List ℕ)) (progress : Progress) (n m : ℕ) (code : Code) → read_from progress n lines ≡ Err (m, code) → Fault progress lines n m code ⊎ AtEnd progress lines n m code
read_err [] progress n m code e = let none : n + 0 ≡ n = omega arith in inr (tt, ap (at_end progress) none ∙ e)
read_err (line ∷ lines) progress n m code e =
    elim (or_code_err (code_of progress line) n (read_from (progress_after progress line) (n + 1) lines) m code e) [
      | inl here ↦ inl (record { before = []; line = line; after = lines; parts = refl; clean = tt; code_is = here.0; number = omega arith })
      | inr later ↦
          elim (read_err lines (progress_after progress line) (n + 1) m code later.1) [
            | inl fault ↦ inl (record { before = line ∷ fault.before; line = fault.line; after = fault.after; parts = ap (λ ls. line ∷ ls) fault.parts; clean = (later.0, fault.clean); code_is = fault.code_is; number = omega (arith, fault.number) })
            | inr rest ↦ let count : n + length (line ∷ lines) ≡ n + 1 + length lines = omega arith in inr ((later.0, rest.0), ap (at_end (progress_along (progress_after progress line) lines)) count ∙ rest.1)
          ]
    ]

-- lines that progress before the header
blank_by : (a b : Bool) (ws : List (List ℕ)) → (not a && not b && is_none_left ws) ≡ true → (first_code ((a, E15) ∷ (b, E19) ∷ word_rows Before ws) ≡ None) × (progress_after_words Before ws ≡ Before)
blank_by false false [] e = (refl, refl)
blank_by false false (w ∷ ws) e = cc
blank_by false true ws e = cc
blank_by true b ws e = cc

step_by : (a b : Bool) (ws : List (List ℕ)) → first_code ((a, E15) ∷ (b, E19) ∷ word_rows Before ws) ≡ None → (((not a && not b && is_none_left ws) ≡ true) × (progress_after_words Before ws ≡ Before)) ⊎ ((v : Version) × (progress_after_words Before ws ≡ Within v empty_sketch))
step_by false false [] e = inl (refl, refl)
step_by false false (w ∷ ws) e = inr (_, refl)
step_by false true ws e = cc
step_by true b ws e = cc

pub all_blank : (lines : List (List ℕ)) → list_all is_blank_line lines ≡ true → HaveNoCode Before lines × (progress_along Before lines ≡ Before)
all_blank [] e = (tt, refl)
all_blank (line ∷ lines) e =
    let parts = both (is_blank_line line) (list_all is_blank_line lines) e in
    let here = blank_by (is_too_long line) (has_wrong_byte line) (words_in line) parts.0 in
    let rest = all_blank lines parts.1 in
    ((here.0, subst (λ (progress : Progress). HaveNoCode progress lines) (sym here.1) rest.0), ap (λ progress. progress_along progress lines) here.1 ∙ rest.1)

abbrev is_begun : Progress → Bool
is_begun Before = false
is_begun _ = true

begun_within : (v : Version) (s : Sketch) (k : Option Keyword) (ws : List (List ℕ)) → is_begun (progress_within v s k ws) ≡ true
begun_within v s (Some k) ws = refl
begun_within v s None ws = refl

begun_next : (progress : Progress) (ws : List (List ℕ)) → is_begun progress ≡ true → is_begun (progress_after_words progress ws) ≡ true
begun_next Before ws e = cc
begun_next (Within v s) [] e = refl
begun_next (Within v s) (w ∷ ws) e = begun_within v s (keyword_of v w) ws
begun_next (After v s) [] e = refl
begun_next (After v s) (w ∷ ws) e = refl

led_begun : (lines : List (List ℕ)) (progress : Progress) → is_begun progress ≡ true → is_begun (progress_along progress lines) ≡ true
led_begun [] progress e = e
led_begun (line ∷ lines) progress e = led_begun lines (progress_after progress line) (begun_next progress (words_at progress line) e)

pub still_before : (lines : List (List ℕ)) → HaveNoCode Before lines → progress_along Before lines ≡ Before → list_all is_blank_line lines ≡ true
still_before [] clean led = refl
still_before (line ∷ lines) clean led =
    elim (step_by (is_too_long line) (has_wrong_byte line) (words_in line) clean.0) [
      | inl blank ↦
          let clean_rest = subst (λ (progress : Progress). HaveNoCode progress lines) blank.1 clean.1 in
          let led_rest : progress_along Before lines ≡ Before = ap (λ progress. progress_along progress lines) (sym blank.1) ∙ led in
          rw blank.0 (still_before lines clean_rest led_rest)
      | inr begun ↦
          let stays : is_begun (progress_along (progress_after Before line) lines) ≡ true = led_begun lines (progress_after Before line) (ap is_begun begun.1) in
          let is : is_begun (progress_along (progress_after Before line) lines) ≡ false = ap is_begun led in absurd cc
    ]

pub clean_at : (before : List (List ℕ)) (line : List ℕ) (after : List (List ℕ)) (progress : Progress) → HaveNoCode progress (before ++ line ∷ after) → code_of (progress_along progress before) line ≡ None
clean_at [] line after progress clean = clean.0
clean_at (b ∷ before) line after progress clean = clean_at before line after (progress_after progress b) clean.1

pub Reads-from : (bytes : List ℕ) (s : Sketch) → reading bytes ≡ Ok s → Reads bytes s
Reads-from bytes s e = elim (chosen (nat_lt 1048576 (length bytes)) (Err (0, E20)) (read_from Before 1 (lines_in bytes)) (Ok s) e) [
  | inl long ↦ absurd (cc)
  | inr short ↦
      let test = short.0 in
      let lines = read_ok (lines_in bytes) Before 1 s short.1 in
      record { version = lines.1.0; fits = grind (arith, nat_tests); clean = lines.0; ended = lines.1.1 }
]

refuses_as : (bytes : List ℕ) (n m : ℕ) (c d : Code) → n ≡ m → c ≡ d → Refuses bytes n c → Refuses bytes m d
refuses_as bytes n m c d number code refuses =
    subst (λ (k : ℕ). Refuses bytes k d) number (subst (λ (e : Code). Refuses bytes n e) code refuses)

pub no_true : (t : Bool) → (t ≡ true → ⊥) → t ≡ false
no_true true never = absurd (never refl)
no_true false never = refl

not_blank : (lines : List (List ℕ)) (m : ℕ) (code : Code) → Fault Before lines 1 m code → list_all is_blank_line lines ≡ false
not_blank lines m code fault = no_true (list_all is_blank_line lines) (λ blank.
    let clean = subst (λ (ls : List (List ℕ)). HaveNoCode Before ls) fault.parts (all_blank lines blank).0 in
    let none = clean_at fault.before fault.line fault.after Before clean in
    let some = fault.code_is in cc)

refuses_at_end : (bytes : List ℕ) (progress : Progress) (m : ℕ) (code : Code) → length bytes ≤ 1048576 → HaveNoCode Before (lines_in bytes) → progress_along Before (lines_in bytes) ≡ progress → at_end progress (1 + length (lines_in bytes)) ≡ Err (m, code) → Refuses bytes m code
refuses_at_end bytes Before m code fits clean led e =
    let same = err_same 0 m E18 code (Err (0, E18)) (Err (m, code)) refl refl e in
    refuses_as bytes 0 m E18 code same.0 same.1 (Empty fits (still_before (lines_in bytes) clean led))
refuses_at_end bytes (Within v s) m code fits clean led e =
    let n = length (lines_in bytes) in
    let same = err_same (1 + n) m E16 code (Err (1 + n, E16)) (Err (m, code)) refl refl e in
    let number : n + 1 ≡ m = omega (arith, same.0) in
    let words = no_true (list_all is_blank_line (lines_in bytes)) (λ blank. let before = (all_blank (lines_in bytes) blank).1 in let within = led in cc) in
    refuses_as bytes (n + 1) m E16 code number same.1 (NoEnd fits words clean (ap has_ended led))
refuses_at_end bytes (After v s) m code fits clean led e = cc

pub Refuses-from : (bytes : List ℕ) (m : ℕ) (code : Code) → reading bytes ≡ Err (m, code) → Refuses bytes m code
Refuses-from bytes m code e = elim (chosen (nat_lt 1048576 (length bytes)) (Err (0, E20)) (read_from Before 1 (lines_in bytes)) (Err (m, code)) e) [
  | inl long ↦
      let test = long.0 in
      let same = err_same 0 m E20 code (Err (0, E20)) (Err (m, code)) refl refl long.1 in
      refuses_as bytes 0 m E20 code same.0 same.1 (TooLong (grind (arith, nat_tests)))
  | inr short ↦
      let test = short.0 in
      let fits : length bytes ≤ 1048576 = grind (arith, nat_tests) in
      elim (read_err (lines_in bytes) Before 1 m code short.1) [
        | inl fault ↦
            let first : HasFirstCode (lines_in bytes) fault.before fault.line code = record { after = fault.after; parts = fault.parts; clean = fault.clean; code_is = fault.code_is } in
            refuses_as bytes (length fault.before + 1) m code code (omega (arith, fault.number)) refl (AtLine fits (not_blank (lines_in bytes) m code fault) fault.before fault.line code first)
        | inr rest ↦ refuses_at_end bytes (progress_along Before (lines_in bytes)) m code fits rest.0 refl rest.1
      ]
]

-- where no line has a code, the end answers
clean_read : (lines : List (List ℕ)) (progress : Progress) (n : ℕ) → HaveNoCode progress lines → read_from progress n lines ≡ at_end (progress_along progress lines) (n + length lines)
clean_read [] progress n clean = let none : n ≡ n + 0 = omega arith in ap (at_end progress) none
clean_read (line ∷ lines) progress n clean =
    let count : n + 1 + length lines ≡ n + length (line ∷ lines) = omega arith in
    ap (λ code. or_code code n (read_from (progress_after progress line) (n + 1) lines)) clean.0 ∙ clean_read lines (progress_after progress line) (n + 1) clean.1 ∙ ap (at_end (progress_along (progress_after progress line) lines)) count

-- the first line with a code answers
fault_read : (before : List (List ℕ)) (line : List ℕ) (after : List (List ℕ)) (progress : Progress) (n : ℕ) (code : Code) → HaveNoCode progress before → code_of (progress_along progress before) line ≡ Some code → read_from progress n (before ++ line ∷ after) ≡ Err (n + length before, code)
fault_read [] line after progress n code clean is =
    let none : n ≡ n + 0 = omega arith in
    ap (λ found. or_code found n (read_from (progress_after progress line) (n + 1) after)) is ∙ ap (λ (m : ℕ). let answer : Answer = Err (m, code) in answer) none
fault_read (first ∷ before) line after progress n code clean is =
    let count : n + 1 + length before ≡ n + length (first ∷ before) = omega arith in
    ap (λ found. or_code found n (read_from (progress_after progress first) (n + 1) (before ++ line ∷ after))) clean.0 ∙ fault_read before line after (progress_after progress first) (n + 1) code clean.1 is ∙ ap (λ (m : ℕ). let answer : Answer = Err (m, code) in answer) count

within_limit : (bytes : List ℕ) → length bytes ≤ 1048576 → reading bytes ≡ read_from Before 1 (lines_in bytes)
within_limit bytes fits =
    let test : nat_lt 1048576 (length bytes) ≡ false = grind (arith, nat_tests) in rw test refl

pub reading-Reads : (bytes : List ℕ) (s : Sketch) → Reads bytes s → reading bytes ≡ Ok s
reading-Reads bytes s reads =
    within_limit bytes reads.fits ∙ clean_read (lines_in bytes) Before 1 reads.clean ∙ ap (λ progress. at_end progress (1 + length (lines_in bytes))) reads.ended

open_end : (progress : Progress) (n : ℕ) → has_ended progress ≡ false → (progress ≡ Before → ⊥) → at_end progress n ≡ Err (n, E16)
open_end Before n e begun = absurd (begun refl)
open_end (Within v s) n e begun = refl
open_end (After v s) n e begun = cc

pub reading-Refuses : (bytes : List ℕ) (n : ℕ) (code : Code) → Refuses bytes n code → reading bytes ≡ Err (n, code)
reading-Refuses bytes n code (TooLong long) =
    let test : nat_lt 1048576 (length bytes) ≡ true = grind (arith, nat_tests) in rw test refl
reading-Refuses bytes n code (Empty fits blank) =
    let lines = all_blank (lines_in bytes) blank in
    within_limit bytes fits ∙ clean_read (lines_in bytes) Before 1 lines.0 ∙ ap (λ progress. at_end progress (1 + length (lines_in bytes))) lines.1
reading-Refuses bytes n code (AtLine fits words before line c first) =
    let count : 1 + length before ≡ length before + 1 = omega arith in
    within_limit bytes fits ∙ ap (read_from Before 1) first.parts ∙ fault_read before line first.after Before 1 c first.clean first.code_is ∙ ap (λ (m : ℕ). let answer : Answer = Err (m, c) in answer) count
reading-Refuses bytes n code (NoEnd fits words clean unended) =
    let lines = lines_in bytes in
    let count : 1 + length lines ≡ length lines + 1 = omega arith in
    let begun : progress_along Before lines ≡ Before → ⊥ = λ before. (let blank = still_before lines clean before in cc) in
    within_limit bytes fits ∙ clean_read lines Before 1 clean ∙ open_end (progress_along Before lines) (1 + length lines) unended begun ∙ ap (λ (m : ℕ). let answer : Answer = Err (m, E16) in answer) count

by_answer : (bytes : List ℕ) (answer : Answer) → reading bytes ≡ answer → ((s : Sketch) × Reads bytes s) ⊎ ((n : ℕ) × ((code : Code) × Refuses bytes n code))
by_answer bytes (Ok s) e = inl (s, Reads-from bytes s e)
by_answer bytes (Err refusal) e = inr (refusal.0, (refusal.1, Refuses-from bytes refusal.0 refusal.1 e))

-- exactly one of the two holds, with one sketch or one refusal
pub some_answer : (bytes : List ℕ) → ((s : Sketch) × Reads bytes s) ⊎ ((n : ℕ) × ((code : Code) × Refuses bytes n code))
some_answer bytes = by_answer bytes (reading bytes) refl

pub one_sketch : (bytes : List ℕ) (s t : Sketch) → Reads bytes s → Reads bytes t → s ≡ t
one_sketch bytes s t left right =
    let first = reading-Reads bytes s left in
    let second = reading-Reads bytes t right in cc

pub one_refusal : (bytes : List ℕ) (n m : ℕ) (c d : Code) → Refuses bytes n c → Refuses bytes m d → (n ≡ m) × (c ≡ d)
one_refusal bytes n m c d left right =
    err_same n m c d (reading bytes) (reading bytes) (reading-Refuses bytes n c left) (reading-Refuses bytes m d right) refl

pub not_both : (bytes : List ℕ) (s : Sketch) (n : ℕ) (code : Code) → Reads bytes s → Refuses bytes n code → ⊥
not_both bytes s n code reads refuses =
    let first = reading-Reads bytes s reads in
    let second = reading-Refuses bytes n code refuses in cc
