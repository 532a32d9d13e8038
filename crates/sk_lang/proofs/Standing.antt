-- Where the reading of a text stands: the front that was read, and the rest.
use Rattle.std.proofs.Common.{◌≡◌, ℕ, ◌+◌, ◌-◌, ◌<◌, ◌≤◌, false, List, [], ◌∷◌, ◌++◌, length, take, drop, Some, None, refl, sym, ap, subst, ◌∙◌, arith, ◌⊎◌, inl, inr, append_assoc, append-nil, length-append}
use Rattle.std.specs.List.{list_all}
use Rattle.std.proofs.Math.Seq.{take-append_seam, take-length}
use Rattle.std.proofs.lemmas.List.{drop_all, take-append-drop}
use Rattle.sk_base.specs.declared.Sketch.{Sketch}
use Rattle.sk_lines.specs.declared.Code.{Code}
use Rattle.sk_lines.specs.declared.Code.TheVariants.{E16, E18}
use Rattle.sk_lang.specs.declared.front.Front.{Front}
use Rattle.sk_lines.specs.declared.Version.{Version}
use Rattle.sk_lang.specs.declared.progress.Progress.{Progress}
use Rattle.sk_lang.specs.declared.progress.Progress.TheVariants.{Before, Within, After}
use Rattle.sk_lines.specs.Lines.{lines_in, EndsLine, IsFirstLine}
use Rattle.sk_lang.specs.Codes.{code_of}
use Rattle.sk_lang.specs.Progress.{progress_after}
use Rattle.sk_lang.specs.Reading.{is_blank_line, progress_along, HaveNoCode, HasFirstCode, has_ended, Reads, Refuses, Empty, AtLine, NoEnd}
use Rattle.sk_lang.specs.Front.{has_ended_by, ReadsFront, RefusesFront}
use Rattle.sk_lines.proofs.WholeLines.{lines_in-append}
use Rattle.sk_lang.proofs.Answered.{all_blank, still_before, clean_at, no_true}

-- so much was read, without a code, and the rest begins a line
pub record StandsAt (bytes rest : List ℕ) (progress : Progress) (count : ℕ) : Type 0 where
  pub front : List ℕ
  pub cut : bytes ≡ front ++ rest
  pub ends : EndsLine front ⊎ (rest ≡ [])
  pub clean : HaveNoCode Before (lines_in front)
  pub reached : progress_along Before (lines_in front) ≡ progress
  pub count_is : count ≡ length (lines_in front)

pub stands_first : (bytes : List ℕ) → StandsAt bytes bytes Before 0
stands_first bytes = record { front = []; cut = refl; ends = inl (inl refl); clean = tt; reached = refl; count_is = refl }

clean_push : (lines : List (List ℕ)) (line : List ℕ) (progress : Progress) → HaveNoCode progress lines → code_of (progress_along progress lines) line ≡ None → HaveNoCode progress (lines ++ line ∷ [])
clean_push [] line progress clean is = (is, tt)
clean_push (first ∷ lines) line progress clean is = (clean.0, clean_push lines line (progress_after progress first) clean.1 is)

pub along_append : (lines more : List (List ℕ)) (progress : Progress) → progress_along progress (lines ++ more) ≡ progress_along (progress_along progress lines) more
along_append [] more progress = refl
along_append (first ∷ lines) more progress = along_append lines more (progress_after progress first)

ends_both : (front taken rest : List ℕ) → EndsLine front → EndsLine taken ⊎ (rest ≡ []) → EndsLine (front ++ taken) ⊎ (rest ≡ [])
ends_both front taken rest whole (inr none) = inr none
ends_both front taken rest whole (inl (inl none)) = inl (subst EndsLine (sym (ap (λ (bs : List ℕ). front ++ bs) none ∙ append-nil front)) whole)
ends_both front taken rest whole (inl (inr (before, ends))) = inl (inr (front ++ before, ap (λ (bs : List ℕ). front ++ bs) ends ∙ sym (append_assoc front before (10 ∷ []))))

begins_line : (front rest : List ℕ) → EndsLine front ⊎ (rest ≡ []) → 0 < length rest → EndsLine front
begins_line front rest (inl whole) more = whole
begins_line front rest (inr none) more = let empty = ap length none in absurd (omega arith)

-- what the first line of the rest adds
lines_more : (front taken line : List ℕ) → EndsLine front → lines_in taken ≡ line ∷ [] → lines_in (front ++ taken) ≡ lines_in front ++ line ∷ []
lines_more front taken line whole only = lines_in-append front taken whole ∙ ap (λ (ls : List (List ℕ)). lines_in front ++ ls) only

-- one line further
pub stands_next : (bytes rest line after : List ℕ) (progress : Progress) (count : ℕ) → StandsAt bytes rest progress count → 0 < length rest → IsFirstLine rest line after → code_of progress line ≡ None → StandsAt bytes after (progress_after progress line) (count + 1)
stands_next bytes rest line after progress count at more first is =
    let whole = begins_line at.front rest at.ends more in
    let lines = lines_more at.front first.taken line whole first.only in
    let code = ap (λ (p : Progress). code_of p line) at.reached ∙ is in
    record {
      front = at.front ++ first.taken;
      cut = at.cut ∙ ap (λ (bs : List ℕ). at.front ++ bs) first.cut ∙ sym (append_assoc at.front first.taken after);
      ends = ends_both at.front first.taken after whole first.ends;
      clean = rw lines (clean_push (lines_in at.front) line Before at.clean code);
      reached = ap (progress_along Before) lines ∙ along_append (lines_in at.front) (line ∷ []) Before ∙ ap (λ (p : Progress). progress_after p line) at.reached;
      count_is = ap (λ (n : ℕ). n + 1) at.count_is ∙ sym (ap length lines ∙ length-append (lines_in at.front) (line ∷ []));
    }

rest_lines : (rest line after : List ℕ) → IsFirstLine rest line after → lines_in rest ≡ line ∷ lines_in after
rest_lines rest line after first =
    elim first.ends [
      | inl whole ↦ ap lines_in first.cut ∙ lines_in-append first.taken after whole ∙ ap (λ (ls : List (List ℕ)). ls ++ lines_in after) first.only
      | inr none ↦ ap lines_in (first.cut ∙ ap (λ (bs : List ℕ). first.taken ++ bs) none ∙ append-nil first.taken) ∙ first.only ∙ ap (λ (bs : List ℕ). line ∷ lines_in bs) (sym none)
    ]

lines_at : (bytes rest line after : List ℕ) (progress : Progress) (count : ℕ) (at : StandsAt bytes rest progress count) → 0 < length rest → IsFirstLine rest line after → lines_in bytes ≡ lines_in at.front ++ line ∷ lines_in after
lines_at bytes rest line after progress count at more first =
    ap lines_in at.cut ∙ lines_in-append at.front rest (begins_line at.front rest at.ends more) ∙ ap (λ (ls : List (List ℕ)). lines_in at.front ++ ls) (rest_lines rest line after first)

-- a line with a code isn't blank
some_word : (lines before : List (List ℕ)) (line : List ℕ) (after : List (List ℕ)) (code : Code) → lines ≡ before ++ line ∷ after → code_of (progress_along Before before) line ≡ Some code → list_all is_blank_line lines ≡ false
some_word lines before line after code parts is = no_true (list_all is_blank_line lines) (λ blank.
    let clean = subst (λ (ls : List (List ℕ)). HaveNoCode Before ls) parts (all_blank lines blank).0 in
    let none = clean_at before line after Before clean in cc)

-- the first line of the rest has a code
pub refused_here : (bytes rest line after : List ℕ) (progress : Progress) (count : ℕ) (code : Code) → length bytes ≤ 1048576 → StandsAt bytes rest progress count → 0 < length rest → IsFirstLine rest line after → code_of progress line ≡ Some code → Refuses bytes (count + 1) code
refused_here bytes rest line after progress count code fits at more first is =
    let before = lines_in at.front in
    let parts = lines_at bytes rest line after progress count at more first in
    let here : code_of (progress_along Before before) line ≡ Some code = ap (λ (p : Progress). code_of p line) at.reached ∙ is in
    let found : HasFirstCode (lines_in bytes) before line code = record { after = lines_in after; parts = parts; clean = at.clean; code_is = here } in
    let number : length before + 1 ≡ count + 1 = ap (λ (n : ℕ). n + 1) (sym at.count_is) in
    subst (λ (n : ℕ). Refuses bytes n code) number (AtLine fits (some_word (lines_in bytes) before line (lines_in after) code parts here) before line code found)

-- nothing is left
whole_front : (bytes : List ℕ) (progress : Progress) (count : ℕ) (at : StandsAt bytes [] progress count) → at.front ≡ bytes
whole_front bytes progress count at = sym (at.cut ∙ append-nil at.front)

pub reads_here : (bytes : List ℕ) (v : Version) (s : Sketch) (count : ℕ) → length bytes ≤ 1048576 → StandsAt bytes [] (After v s) count → Reads bytes s
reads_here bytes v s count fits at =
    let whole = whole_front bytes (After v s) count at in
    record { version = v; fits = fits; clean = subst (λ (bs : List ℕ). HaveNoCode Before (lines_in bs)) whole at.clean; ended = subst (λ (bs : List ℕ). progress_along Before (lines_in bs) ≡ After v s) whole at.reached }

pub empty_here : (bytes : List ℕ) (count : ℕ) → length bytes ≤ 1048576 → StandsAt bytes [] Before count → Refuses bytes 0 E18
empty_here bytes count fits at =
    let whole = whole_front bytes Before count at in
    subst (λ (bs : List ℕ). length bs ≤ 1048576 → Refuses bs 0 E18) whole (λ short. Empty short (still_before (lines_in at.front) at.clean at.reached)) fits

not_blank_within : (lines : List (List ℕ)) (v : Version) (s : Sketch) → progress_along Before lines ≡ Within v s → list_all is_blank_line lines ≡ false
not_blank_within lines v s within = no_true (list_all is_blank_line lines) (λ blank. let before = (all_blank lines blank).1 in cc)

pub unended_here : (bytes : List ℕ) (v : Version) (s : Sketch) (count : ℕ) → length bytes ≤ 1048576 → StandsAt bytes [] (Within v s) count → Refuses bytes (count + 1) E16
unended_here bytes v s count fits at =
    let whole = whole_front bytes (Within v s) count at in
    let number : length (lines_in at.front) + 1 ≡ count + 1 = ap (λ (n : ℕ). n + 1) (sym at.count_is) in
    let short : length at.front ≤ 1048576 = let same = ap length whole in omega arith in
    subst (λ (bs : List ℕ). Refuses bs (count + 1) E16) whole (subst (λ (n : ℕ). Refuses at.front n E16) number (NoEnd short (not_blank_within (lines_in at.front) v s at.reached) at.clean (ap has_ended at.reached)))

-- the lines before this one
open_here : (bytes rest line after : List ℕ) (progress : Progress) (count : ℕ) → StandsAt bytes rest progress count → 0 < length rest → IsFirstLine rest line after → has_ended progress ≡ false → has_ended_by count bytes ≡ false
open_here bytes rest line after progress count at more first unended =
    let before = lines_in at.front in
    let lines = lines_at bytes rest line after progress count at more first in
    let front : take count (lines_in bytes) ≡ before = rw (lines, at.count_is) (take-append_seam before (line ∷ lines_in after)) in
    ap (λ (ls : List (List ℕ)). has_ended (progress_along Before ls)) front ∙ ap has_ended at.reached ∙ unended

one_less : (count : ℕ) → count + 1 - 1 ≡ count
one_less count = omega arith

pub front_refused_here : (bytes rest line after : List ℕ) (progress : Progress) (count : ℕ) (code : Code) → length bytes ≤ 1048576 → StandsAt bytes rest progress count → 0 < length rest → IsFirstLine rest line after → has_ended progress ≡ false → code_of progress line ≡ Some code → RefusesFront bytes (count + 1) code
front_refused_here bytes rest line after progress count code fits at more first unended is = record {
  refuses = refused_here bytes rest line after progress count code fits at more first is;
  before_end = ap (λ (n : ℕ). has_ended_by n bytes) (one_less count) ∙ open_here bytes rest line after progress count at more first unended;
}

pub front_empty_here : (bytes : List ℕ) (count : ℕ) → length bytes ≤ 1048576 → StandsAt bytes [] Before count → RefusesFront bytes 0 E18
front_empty_here bytes count fits at = record { refuses = empty_here bytes count fits at; before_end = refl }

pub front_unended_here : (bytes : List ℕ) (v : Version) (s : Sketch) (count : ℕ) → length bytes ≤ 1048576 → StandsAt bytes [] (Within v s) count → RefusesFront bytes (count + 1) E16
front_unended_here bytes v s count fits at =
    let whole = whole_front bytes (Within v s) count at in
    let lines : take count (lines_in bytes) ≡ lines_in at.front =
    subst (λ (bs : List ℕ). take count (lines_in bs) ≡ lines_in at.front) whole (rw at.count_is (take-length (lines_in at.front))) in
    record {
      refuses = unended_here bytes v s count fits at;
      before_end = ap (λ (n : ℕ). has_ended_by n bytes) (one_less count) ∙ ap (λ (ls : List (List ℕ)). has_ended (progress_along Before ls)) lines ∙ ap has_ended at.reached;
    }

front_ends : (bytes front rest : List ℕ) → bytes ≡ front ++ rest → EndsLine front ⊎ (rest ≡ []) → EndsLine front ⊎ (length front ≡ length bytes)
front_ends bytes front rest cut (inl whole) = inl whole
front_ends bytes front rest cut (inr none) = inr (let count = ap length cut ∙ length-append front rest in let empty = ap length none in omega arith)

front_of : (bytes front rest : List ℕ) (used : ℕ) → bytes ≡ front ++ rest → used ≡ length front → take used bytes ≡ front
front_of bytes front rest used cut is = ap (λ (n : ℕ). take n bytes) is ∙ ap (take (length front)) cut ∙ take-append_seam front rest

-- the sketch ends with this line
pub front_read_here : (bytes rest line after : List ℕ) (progress : Progress) (count used : ℕ) (v : Version) (s : Sketch) → length bytes ≤ 1048576 → StandsAt bytes rest progress count → 0 < length rest → IsFirstLine rest line after → has_ended progress ≡ false → code_of progress line ≡ None → progress_after progress line ≡ After v s → used + length after ≡ length bytes → ReadsFront bytes (record { sketch = s; used = used; lines = count + 1 }) × (progress_along Before (lines_in (take used bytes)) ≡ After v s)
front_read_here bytes rest line after progress count used v s fits at more first unended is ended size =
    let next = stands_next bytes rest line after progress count at more first is in
    let parts = ap length next.cut ∙ length-append next.front after in
    let used_is : used ≡ length next.front = omega arith in
    let front = front_of bytes next.front after used next.cut used_is in
    let ended_there = next.reached ∙ ended in
    let read : Reads next.front s = record { version = v; fits = omega arith; clean = next.clean; ended = ended_there } in (
      record {
        fits = fits;
        within = omega arith;
        whole = rw (front, used_is) (front_ends bytes next.front after next.cut next.ends);
        reads = rw front read;
        count = rw front next.count_is;
        last = ap (λ (n : ℕ). has_ended_by n bytes) (one_less count) ∙ open_here bytes rest line after progress count at more first unended;
      },
      rw front ended_there,
    )

behind_ends : (bytes : List ℕ) (used : ℕ) → EndsLine (take used bytes) ⊎ (used ≡ length bytes) → EndsLine (take used bytes) ⊎ (drop used bytes ≡ [])
behind_ends bytes used (inl whole) = inl whole
behind_ends bytes used (inr all) = inr (drop_all used bytes (omega arith))

-- behind the front that was read
pub stands_behind : (bytes rest : List ℕ) (v : Version) (front : Front) → ReadsFront bytes front → progress_along Before (lines_in (take front.used bytes)) ≡ After v front.sketch → rest ≡ drop front.used bytes → StandsAt bytes rest (After v front.sketch) front.lines
stands_behind bytes rest v front is ended behind = rw behind (let at : StandsAt bytes (drop front.used bytes) (After v front.sketch) front.lines = record {
  front = take front.used bytes;
  cut = sym (take-append-drop front.used bytes);
  ends = behind_ends bytes front.used is.whole;
  clean = is.reads.clean;
  reached = ended;
  count_is = is.count;
} in at)
