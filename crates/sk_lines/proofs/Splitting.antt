-- The words of a line, one after another.
use Rattle.std.proofs.Common.{◌≡◌, ℕ, suc, ◌+◌, ◌-◌, ◌<◌, ◌≤◌, Bool, true, false, not, cond, List, [], ◌∷◌, ◌++◌, length, take, drop, get_or, map, refl, sym, ap, ◌∙◌, arith, append_assoc, drop-cons, add-one, inl, inr}
use Rattle.std.specs.List.{position_or_len, slice_range, All}
use Rattle.std.proofs.lemmas.Bool.{cases_lt}
use Rattle.std.proofs.lemmas.List.Splits.{slice_split-cons_yes, slice_split_first, slice_split_none}
use Rattle.std.proofs.lemmas.List.Sums.{passes_at_first, fails_before_first, prefix_len-le-length}
use Rattle.std.proofs.lemmas.List.{length-take-le, take_all, drop_all, drop-drop, map-append, drop-take, take-take}
use Rattle.sk_lines.specs.declared.words.Word.{Word}
use Rattle.sk_lines.specs.Words.{is_blank, is_empty, words_in, bytes_of, StandInOrder}

zero_len : (t : Bool) (n : ℕ) → cond (not t) (1 + n) 0 ≡ 0 → t ≡ true
zero_len true n e = refl
zero_len false n e = absurd (omega arith)

blank_if_zero : (b : ℕ) (bs : List ℕ) → position_or_len is_blank (b ∷ bs) ≡ 0 → is_blank b ≡ true
blank_if_zero b bs none = zero_len (is_blank b) (position_or_len is_blank bs) none

-- a blank in front is no part of a word
pub words_in-cons_blank : (b : ℕ) (bs : List ℕ) → is_blank b ≡ true → words_in (b ∷ bs) ≡ words_in bs
words_in-cons_blank b bs is = rw (slice_split-cons_yes is_blank b bs is) refl

-- the same by places
pub words_in-skip : (line : List ℕ) (at : ℕ) → at < length line → position_or_len is_blank (drop at line) ≡ 0 → words_in (drop at line) ≡ words_in (drop (at + 1) line)
words_in-skip line at below none =
    let b = get_or line at 0 in
    let whole : drop at line ≡ b ∷ drop (at + 1) line = rw add-one (drop-cons line at 0 below) in
    let len = ap (position_or_len is_blank) (sym whole) ∙ none in
    rw whole (words_in-cons_blank b (drop (at + 1) line) (blank_if_zero b (drop (at + 1) line) len))

is_not_empty : (n : ℕ) (bs : List ℕ) → length bs ≡ n → 0 < n → is_empty bs ≡ false
is_not_empty n [] e more = absurd (omega arith)
is_not_empty n (b ∷ bs) e more = refl

words_in-whole : (bs : List ℕ) → is_empty bs ≡ false → All (λ b. is_blank b ≡ false) bs → words_in bs ≡ bs ∷ []
words_in-whole bs front none = rw (slice_split_none is_blank bs none) (rw front refl)

-- a word in front, up to the first blank
pub words_in-word : (bs : List ℕ) → 0 < position_or_len is_blank bs → words_in bs ≡ take (position_or_len is_blank bs) bs ∷ words_in (drop (position_or_len is_blank bs) bs)
words_in-word bs more =
    let p = position_or_len is_blank bs in
    let short : p ≤ length bs = prefix_len-le-length (λ b. not (is_blank b)) bs in
    let front = is_not_empty p (take p bs) (length-take-le p bs short) more in
    elim (cases_lt p (length bs)) as (λ _. words_in bs ≡ take p bs ∷ words_in (drop p bs)) [
      | inl below ↦
          let split = slice_split_first is_blank bs 0 below in
          let whole = drop-cons bs p 0 below in
          let after = words_in-cons_blank (get_or bs p 0) (drop (suc p) bs) (passes_at_first is_blank bs 0 below) in
          rw split (rw front (ap (λ ws. take p bs ∷ ws) (sym (ap words_in whole ∙ after ∙ rw add-one refl))))
      | inr all ↦
          let is_whole = take_all p bs all in
          let whole = words_in-whole bs (ap is_empty (sym is_whole) ∙ front) (λ k d below. fails_before_first is_blank bs k d (omega arith)) in
          whole ∙ ap (λ w. w ∷ []) (sym is_whole) ∙ ap (λ rest. take p bs ∷ words_in rest) (sym (drop_all p bs all))
    ]

-- the same by places
pub words_in-word_at : (line : List ℕ) (at : ℕ) → 0 < position_or_len is_blank (drop at line) → words_in (drop at line) ≡ take (position_or_len is_blank (drop at line)) (drop at line) ∷ words_in (drop (at + position_or_len is_blank (drop at line)) line)
words_in-word_at line at more =
    let p = position_or_len is_blank (drop at line) in
    words_in-word (drop at line) more ∙ ap (λ rest. take p (drop at line) ∷ words_in rest) (drop-drop p at line)

pub StandInOrder-push : (from : ℕ) (words : List Word) (mid : ℕ) (word : Word) (to : ℕ) → StandInOrder from words mid → mid ≤ word.start → word.start < word.end → word.end ≤ to → StandInOrder from (words ++ word ∷ []) to
StandInOrder-push from [] mid word to order low up high = (omega arith, up, high)
StandInOrder-push from (first ∷ words) mid word to order low up high = (order.0, order.1, StandInOrder-push first.end words mid word to order.2 low up high)

pub StandInOrder-wider : (from : ℕ) (words : List Word) (mid to : ℕ) → StandInOrder from words mid → mid ≤ to → StandInOrder from words to
StandInOrder-wider from [] mid to order wider = omega arith
StandInOrder-wider from (first ∷ words) mid to order wider = (order.0, order.1, StandInOrder-wider first.end words mid to order.2 wider)

-- one more word, and the rest behind it
pub words_in-pushed : (line : List ℕ) (items : List Word) (at len : ℕ) → map (bytes_of line) items ++ words_in (drop at line) ≡ words_in line → words_in (drop at line) ≡ take len (drop at line) ∷ words_in (drop (at + len) line) → map (bytes_of line) (items ++ record { start = at; end = at + len } ∷ []) ++ words_in (drop (at + len) line) ≡ words_in line
words_in-pushed line items at len before word =
    let width : (at + len) - at ≡ len = omega arith in
    rw (map-append, append_assoc, width, ← word) before

order_ends : (from : ℕ) (words : List Word) (to : ℕ) → StandInOrder from words to → from ≤ to
order_ends from [] to order = order
order_ends from (word ∷ words) to order =
    let rest = order_ends word.end words to order.2 in
    let start = order.0 in
    let some = order.1 in omega arith

bytes_of_front : (line : List ℕ) (end a b : ℕ) → a ≤ b → b ≤ end → slice_range (take end line) a b ≡ slice_range line a b
bytes_of_front line end a b rising within =
    let width : end ≡ a + (end - a) = omega arith in
    ap (λ (n : ℕ). take (b - a) (drop a (take n line))) width ∙ ap (take (b - a)) (drop-take a (end - a) line) ∙ take-take (b - a) (end - a) (drop a line) (omega arith)

-- the words of a front of the line are words of the line
pub words_of_front : (line : List ℕ) (end from : ℕ) (words : List Word) → StandInOrder from words end → map (bytes_of (take end line)) words ≡ map (bytes_of line) words
words_of_front line end from [] order = refl
words_of_front line end from (word ∷ words) order =
    let last = order_ends word.end words end order.2 in
    rw (bytes_of_front line end word.start word.end (let some = order.1 in omega arith) last) (ap (λ (ws : List (List ℕ)). bytes_of line word ∷ ws) (words_of_front line end word.end words order.2))
