-- Lines that say that constraints repeat the others, where lines tell how far off each is that is left out.
use Rattle.std.proofs.Common.{◌≡◌, ◌≢◌, inl, inr, ℕ, ℤ, pos, negsuc, unsigned_abs, ◌≤◌, Bool, true, false, List, [], ◌∷◌, ◌++◌, get_or, codes, refl, ap, sym, subst, ◌∙◌, arith, append_assoc}
use Rattle.std.specs.Prelude.{Contains, Option, None, Some, is_none, nat_le}
use Rattle.std.proofs.lemmas.Bool.{and_parts}
use Rattle.std.proofs.lemmas.Bool.Decides.{nat_tests}
use Rattle.std.proofs.lemmas.Int.{ints}
use Rattle.std.proofs.lemmas.List.{append_cancel_left}
use Rattle.std.proofs.lemmas.List.Elements.{Contains-append_cases}
use Rattle.sk_base.specs.declared.ConId.{ConId}
use Rattle.sk_base.specs.declared.Placed.{Placed}
use Rattle.sk_base.specs.declared.Sketch.{Sketch}
use Rattle.sk_base.specs.Bounds.{IsWithin}
use Rattle.sk_base.specs.Spelling.{whole_text}
use Rattle.sk_base.proofs.Members.{contains_none, contains_head, contains_later, contains_cases}
use Rattle.sk_claims.proofs.SpelledNumbers.{whole_spelled}
use Rattle.sk_lines.proofs.SolidLines.{is_solid, AreSolid}
use Rattle.sk_tolerance.specs.declared.OffBy.{OffBy}
use Rattle.sk_tolerance.specs.declared.Turned.{Turned}
use Rattle.sk_report.specs.ExcessReport.{left_words, left_lines, is_repeat, repeat_word, off_unit, turned_words, off_line}
use Rattle.sk_answers.specs.OffsThere.{IsOffThere}
use Rattle.sk_cli.specs.ExcessReport.{AreOffsTold}
use Rattle.sk_laws.specs.Repeats.{AreRepeats}

-- ---- what has no line feed

unbroken_solid : (bytes : List ℕ) → AreSolid bytes → ¬ Contains bytes 10
unbroken_solid [] solid h = contains_none 10 h
unbroken_solid (b ∷ bytes) solid h =
    elim (contains_cases b bytes 10 h) [
      | inl here ↦ absurd (let feed : false ≡ true = subst (λ (c : ℕ). is_solid c ≡ true) here solid.0 in cc)
      | inr later ↦ unbroken_solid bytes solid.1 later
    ]

unbroken_spaced : (bytes : List ℕ) → AreSolid bytes → ¬ Contains (32 ∷ bytes) 10
unbroken_spaced bytes solid h =
    elim (contains_cases 32 bytes 10 h) [
      | inl here ↦ absurd (omega (arith, here))
      | inr later ↦ unbroken_solid bytes solid later
    ]

unbroken_both : (xs ys : List ℕ) → (¬ Contains xs 10) → (¬ Contains ys 10) → ¬ Contains (xs ++ ys) 10
unbroken_both xs ys first second h = elim (Contains-append_cases xs ys 10 h) [ inl early ↦ first early | inr late ↦ second late ]

unit_unbroken : (length : Bool) → ¬ Contains (off_unit length) 10
unit_unbroken true = unbroken_spaced (codes "nm") (refl, (refl, tt))
unit_unbroken false = unbroken_spaced (codes "ppb") (refl, (refl, (refl, tt)))

turned_unbroken : (turned : Option Turned) → is_none turned ≡ true → ¬ Contains (turned_words turned) 10
turned_unbroken None none h = contains_none 10 h
turned_unbroken (Some t) none h = cc

within_few : (z : ℤ) → unsigned_abs z ≤ 1000000 → IsWithin 4611686018427387904 z
within_few (pos n) few = (omega (arith, ints, few), omega (arith, ints, few))
within_few (negsuc n) few = (omega (arith, ints, few), omega (arith, ints, few))

few_of : (limit m : ℕ) → limit ≤ 1000000 → nat_le m limit ≡ true → m ≤ 1000000
few_of limit m few is = grind (arith, nat_tests)

-- the words behind a repeat
tail_unbroken : (limit : ℕ) → limit ≤ 1000000 → (off : OffBy) → is_repeat limit off ≡ true → ¬ Contains ((32 ∷ whole_text off.off) ++ (off_unit off.length ++ turned_words off.turned)) 10
tail_unbroken limit few off is =
    let parts = and_parts (is_none off.turned) (nat_le (unsigned_abs off.off) limit) is in
    let number = whole_spelled off.off (within_few off.off (few_of limit (unsigned_abs off.off) few parts.1)) in
    unbroken_both (32 ∷ whole_text off.off) (off_unit off.length ++ turned_words off.turned) (unbroken_spaced (whole_text off.off) number.solid)
    (unbroken_both (off_unit off.length) (turned_words off.turned) (unit_unbroken off.length) (turned_unbroken off.turned parts.0))

-- what stands behind the first line feed
same_behind : (xs ys us vs : List ℕ) → (¬ Contains xs 10) → (¬ Contains ys 10) → xs ++ 10 ∷ us ≡ ys ++ 10 ∷ vs → us ≡ vs
same_behind [] [] us vs first second is = cc
same_behind [] (y ∷ ys) us vs first second is = absurd (let feed : y ≡ 10 = cc in second (subst (λ (b : ℕ). Contains (y ∷ ys) b) feed (contains_head y ys)))
same_behind (x ∷ xs) [] us vs first second is = absurd (let feed : x ≡ 10 = cc in first (subst (λ (b : ℕ). Contains (x ∷ xs) b) feed (contains_head x xs)))
same_behind (x ∷ xs) (y ∷ ys) us vs first second is =
    let rest : xs ++ 10 ∷ us ≡ ys ++ 10 ∷ vs = cc in
    same_behind xs ys us vs (λ h. first (contains_later x xs 10 h)) (λ h. second (contains_later y ys 10 h)) rest

-- ---- a line

line_cut : (w r n u t more : List ℕ) → (((((w ++ r) ++ 32 ∷ n) ++ u) ++ t) ++ 10 ∷ []) ++ more ≡ w ++ (r ++ (((32 ∷ n) ++ (u ++ t)) ++ 10 ∷ more))
line_cut w r n u t more =
    append_assoc ((((w ++ r) ++ 32 ∷ n) ++ u) ++ t) (10 ∷ []) more
    ∙ ap (λ (l : List ℕ). l ++ 10 ∷ more) (append_assoc ((w ++ r) ++ 32 ∷ n) u t)
    ∙ ap (λ (l : List ℕ). l ++ 10 ∷ more) (append_assoc (w ++ r) (32 ∷ n) (u ++ t))
    ∙ append_assoc (w ++ r) ((32 ∷ n) ++ (u ++ t)) (10 ∷ more)
    ∙ append_assoc w r (((32 ∷ n) ++ (u ++ t)) ++ 10 ∷ more)

word_read : (repeats : Bool) (rest behind : List ℕ) → repeat_word repeats ++ rest ≡ codes " repeat off" ++ behind → (repeats ≡ true) × (rest ≡ behind)
word_read true rest behind is = (refl, append_cancel_left (codes " repeat off") rest behind is)
word_read false rest behind is = absurd (let letter : 99 ≡ 114 = ap (λ (l : List ℕ). get_or l 1 0) is in omega (arith, letter))

-- where the line says so, the constraint repeats the others
line_read : (limit : ℕ) → limit ≤ 1000000 → (s : Sketch) (k : ConId) (off : OffBy) (more by behind : List ℕ) → (¬ Contains by 10)
    → off_line s limit k off ++ more ≡ left_words s k ++ (codes " repeat off" ++ (by ++ 10 ∷ behind)) → (is_repeat limit off ≡ true) × (more ≡ behind)
line_read limit few s k off more by behind unbroken is =
    let w = left_words s k in
    let r = repeat_word (is_repeat limit off) in
    let n = whole_text off.off in
    let u = off_unit off.length in
    let t = turned_words off.turned in
    let rest = ((32 ∷ n) ++ (u ++ t)) ++ 10 ∷ more in
    let cut = append_cancel_left w (r ++ rest) (codes " repeat off" ++ (by ++ 10 ∷ behind)) (sym (line_cut w r n u t more) ∙ is) in
    let read = word_read (is_repeat limit off) rest (by ++ 10 ∷ behind) cut in
    (read.0, same_behind ((32 ∷ n) ++ (u ++ t)) by more behind (tail_unbroken limit few off read.0) unbroken read.1)

-- each constraint repeats the others where its line says so
pub told_repeats : (limit : ℕ) → limit ≤ 1000000 → (own : Sketch) (at : Placed) (left : List ConId) (text : List ℕ) → AreOffsTold limit own at left text → AreRepeats own left text
    → (k : ConId) → Contains left k → (off : OffBy) × IsOffThere at own k off × (is_repeat limit off ≡ true)
told_repeats limit few own at [] text told repeats k k_in = absurd (contains_none k k_in)
told_repeats limit few own at (j ∷ left) text (off, more, there, rest, is) (by, behind, unbroken, again, said) k k_in =
    let read = line_read limit few own j off more by behind unbroken (sym is ∙ said) in
    elim (contains_cases j left k k_in) [
      | inl here ↦ (off, subst (λ (i : ConId). IsOffThere at own i off) here there, read.0)
      | inr later ↦ told_repeats limit few own at left more rest (subst (λ (t : List ℕ). AreRepeats own left t) (sym read.1) again) k later
    ]

-- no line of those says so where there are lines without it, and something behind them
pub never_repeats : (s : Sketch) (left : List ConId) (behind text : List ℕ) → behind ≢ [] → text ≡ left_lines s left ++ behind → AreRepeats s left text → ⊥
never_repeats s [] behind text some is none = some (sym is ∙ none)
never_repeats s (k ∷ left) behind text some is (by, more, unbroken, rest, said) =
    let w = left_words s k in
    let lines = left_lines s left in
    let here : ((w ++ 10 ∷ []) ++ lines) ++ behind ≡ w ++ (codes " repeat off" ++ (by ++ 10 ∷ more)) = sym is ∙ said in
    let cut = append_assoc (w ++ 10 ∷ []) lines behind ∙ append_assoc w (10 ∷ []) (lines ++ behind) in
    let next = append_cancel_left w (10 ∷ (lines ++ behind)) (codes " repeat off" ++ (by ++ 10 ∷ more)) (sym cut ∙ here) in
    let byte : 10 ≡ 32 = ap (λ (l : List ℕ). get_or l 0 0) next in omega (arith, byte)
