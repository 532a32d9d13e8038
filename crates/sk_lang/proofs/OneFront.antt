-- A text has one front, or one refusal of it, and not both.
use Rattle.std.proofs.Common.{◌≡◌, ℕ, ◌+◌, ◌-◌, ◌<◌, ◌≤◌, ◌⊎◌, inl, inr, Bool, true, false, List, [], ◌∷◌, ◌++◌, length, take, drop, Some, None, refl, sym, ap, subst, ◌∙◌, arith, append-nil, append_assoc, take-take, length-append, length-drop}
use Rattle.std.specs.Prelude.{Option, position}
use Rattle.std.specs.List.{list_all}
use Rattle.std.proofs.Math.Seq.{take-append_seam, take-append-add}
use Rattle.std.proofs.lemmas.Bool.{cases_lt}
use Rattle.std.proofs.lemmas.List.{take_all, take-append-drop, length-take-le}
use Rattle.sk_base.specs.declared.Sketch.{Sketch}
use Rattle.sk_lines.specs.declared.Code.{Code}
use Rattle.sk_lang.specs.declared.front.Front.{Front}
use Rattle.sk_lines.specs.declared.Version.{Version}
use Rattle.sk_lang.specs.declared.progress.Progress.{Progress}
use Rattle.sk_lang.specs.declared.progress.Progress.TheVariants.{Before, After}
use Rattle.sk_lines.specs.Lines.{is_line_feed, lines_in, EndsLine}
use Rattle.sk_lang.specs.Codes.{code_of}
use Rattle.sk_lines.specs.Comments.{words_under}
use Rattle.sk_lang.specs.Progress.{progress_after_words}
use Rattle.sk_lang.specs.Reading.{is_blank_line, progress_along, HaveNoCode, has_ended, Reads, Refuses, TooLong, Empty, AtLine, NoEnd}
use Rattle.sk_lang.specs.Front.{has_ended_by, ReadsFront, RefusesFront}
use Rattle.sk_lang.proofs.Answered.{all_blank, clean_at, both, one_sketch}
use Rattle.sk_lines.proofs.LineByLine.{first_line, only_line}
use Rattle.sk_lang.proofs.Standing.{along_append}
use Rattle.sk_lines.proofs.WholeLines.{lines_in-append}

stays_by : (v : Version) (s : Sketch) (words : List (List ℕ)) → progress_after_words (After v s) words ≡ After v s
stays_by v s [] = refl
stays_by v s (word ∷ words) = refl

-- a sketch that has ended stays as it is
stays : (v : Version) (s : Sketch) (lines : List (List ℕ)) → progress_along (After v s) lines ≡ After v s
stays v s [] = refl
stays v s (line ∷ lines) = ap (λ (p : Progress). progress_along p lines) (stays_by v s (words_under v line)) ∙ stays v s lines

-- the shorter front of one list is a front of the longer
front_of_front : (xs ys ms ns : List (List ℕ)) → xs ++ ms ≡ ys ++ ns → length xs ≤ length ys → (more : List (List ℕ)) × (ys ≡ xs ++ more)
front_of_front [] ys ms ns same shorter = (ys, refl)
front_of_front (x ∷ xs) [] ms ns same shorter = absurd (omega arith)
front_of_front (x ∷ xs) (y ∷ ys) ms ns same shorter =
    let rest : xs ++ ms ≡ ys ++ ns = cc in
    let head : x ≡ y = cc in
    let found = front_of_front xs ys ms ns rest (omega arith) in
    (found.0, ap (λ (z : List ℕ). z ∷ ys) (sym head) ∙ ap (λ (zs : List (List ℕ)). x ∷ zs) found.1)

-- the lines of the front, and what follows them
behind_front : (bytes : List ℕ) (front : Front) → ReadsFront bytes front → (more : List (List ℕ)) × (lines_in bytes ≡ lines_in (take front.used bytes) ++ more)
behind_front bytes front is = by is.whole
  where
    by : EndsLine (take front.used bytes) ⊎ (front.used ≡ length bytes) → (more : List (List ℕ)) × (lines_in bytes ≡ lines_in (take front.used bytes) ++ more)
    by (inl whole) = (lines_in (drop front.used bytes), ap lines_in (sym (take-append-drop front.used bytes)) ∙ lines_in-append (take front.used bytes) (drop front.used bytes) whole)
    by (inr all) = ([], ap lines_in (sym (take_all front.used bytes (omega arith))) ∙ sym (append-nil (lines_in (take front.used bytes))))

ended_behind : (front more : List (List ℕ)) (v : Version) (s : Sketch) → progress_along Before front ≡ After v s → has_ended (progress_along Before (front ++ more)) ≡ true
ended_behind front more v s ended = ap has_ended (along_append front more Before ∙ ap (λ (p : Progress). progress_along p more) ended ∙ stays v s more)

all_front : (p : List ℕ → Bool) (xs ys : List (List ℕ)) → list_all p (xs ++ ys) ≡ true → list_all p xs ≡ true
all_front p [] ys all = refl
all_front p (x ∷ xs) ys all = let parts = both (p x) (list_all p (xs ++ ys)) all in rw parts.0 (all_front p xs ys parts.1)

no_line_of_front : (lines front more before : List (List ℕ)) (line : List ℕ) (after : List (List ℕ)) (v : Version) (s : Sketch) (code : Code) → lines ≡ front ++ more → lines ≡ before ++ line ∷ after → HaveNoCode Before front → progress_along Before front ≡ After v s → code_of (progress_along Before before) line ≡ Some code → has_ended (progress_along Before before) ≡ false → ⊥
no_line_of_front lines front more before line after v s code is parts clean ended coded unended =
    elim (cases_lt (length before) (length front)) [
      | inl shorter ↦ (
          let longer = length-append before (line ∷ []) in
          let with_line : (before ++ line ∷ []) ++ after ≡ before ++ line ∷ after = append_assoc before (line ∷ []) after in
          let found = front_of_front (before ++ line ∷ []) front after more (with_line ∙ sym parts ∙ is) (omega arith) in
          let whole : front ≡ before ++ line ∷ found.0 = found.1 ∙ append_assoc before (line ∷ []) found.0 in
          let none = clean_at before line found.0 Before (subst (λ (ls : List (List ℕ)). HaveNoCode Before ls) whole clean) in cc)
      | inr longer ↦ (
          let found = front_of_front front before more (line ∷ after) (sym is ∙ parts) longer in
          let over : has_ended (progress_along Before before) ≡ true = ap (λ (ls : List (List ℕ)). has_ended (progress_along Before ls)) found.1 ∙ ended_behind front found.0 v s ended in cc)
    ]

one_less : (n : ℕ) → n + 1 - 1 ≡ n
one_less n = omega arith

no_refusal : (bytes : List ℕ) (n : ℕ) (code : Code) (front more : List (List ℕ)) (v : Version) (s : Sketch) → length bytes ≤ 1048576 → lines_in bytes ≡ front ++ more → HaveNoCode Before front → progress_along Before front ≡ After v s → Refuses bytes n code → has_ended_by (n - 1) bytes ≡ false → ⊥
no_refusal bytes n code front more v s fits is clean ended (TooLong long) unended = absurd (omega arith)
no_refusal bytes n code front more v s fits is clean ended (Empty short blank) unended =
    let lines : list_all is_blank_line (front ++ more) ≡ true = ap (list_all is_blank_line) (sym is) ∙ blank in
    let before = (all_blank front (all_front is_blank_line front more lines)).1 in cc
no_refusal bytes n code front more v s fits is clean ended (AtLine short words before line c first) unended =
    let front_is : take (length before) (lines_in bytes) ≡ before = ap (take (length before)) first.parts ∙ take-append_seam before (line ∷ first.after) in
    let unended_there : has_ended (progress_along Before before) ≡ false =
    ap (λ (ls : List (List ℕ)). has_ended (progress_along Before ls)) (sym front_is) ∙ ap (λ (k : ℕ). has_ended_by k bytes) (sym (one_less (length before))) ∙ unended in
    no_line_of_front (lines_in bytes) front more before line first.after v s c is first.parts clean ended first.code_is unended_there
no_refusal bytes n code front more v s fits is clean ended (NoEnd short words none unfinished) unended =
    let over : has_ended (progress_along Before (lines_in bytes)) ≡ true = ap (λ (ls : List (List ℕ)). has_ended (progress_along Before ls)) is ∙ ended_behind front more v s ended in cc

pub front_not_both : (bytes : List ℕ) (front : Front) (n : ℕ) (code : Code) → ReadsFront bytes front → RefusesFront bytes n code → ⊥
front_not_both bytes front n code reads refuses =
    let behind = behind_front bytes front reads in
    no_refusal bytes n code (lines_in (take front.used bytes)) behind.0 reads.reads.version front.sketch reads.fits behind.1 reads.reads.clean reads.reads.ended refuses.refuses refuses.before_end

-- the front that ends first is the only one
not_later : (bytes : List ℕ) (f g : Front) → ReadsFront bytes f → ReadsFront bytes g → f.lines < g.lines → ⊥
not_later bytes f g left right less =
    let front = lines_in (take f.used bytes) in
    let behind = behind_front bytes f left in
    let count = left.count in
    let k = g.lines - 1 - length front in
    let size : g.lines - 1 ≡ length front + k = omega arith in
    let lines : take (g.lines - 1) (lines_in bytes) ≡ front ++ take k behind.0 =
    ap (λ (n : ℕ). take n (lines_in bytes)) size ∙ ap (take (length front + k)) behind.1 ∙ take-append-add front behind.0 k in
    let over : has_ended_by (g.lines - 1) bytes ≡ true = ap (λ (ls : List (List ℕ)). has_ended (progress_along Before ls)) lines ∙ ended_behind front (take k behind.0) left.reads.version f.sketch left.reads.ended in
    let unended_there = right.last in absurd (cc)

some_line : (bytes : List ℕ) → 0 < length bytes → 0 < length (lines_in bytes)
some_line bytes some = by (position is_line_feed bytes) refl
  where
    by : (place : Option ℕ) → position is_line_feed bytes ≡ place → 0 < length (lines_in bytes)
    by None none = let one = ap length (only_line bytes some none) in omega arith
    by (Some end) found = let more = ap length (first_line bytes end found) in omega arith

ends_early : (bytes : List ℕ) (used : ℕ) → used < length bytes → EndsLine (take used bytes) ⊎ (used ≡ length bytes) → EndsLine (take used bytes)
ends_early bytes used less (inl whole) = whole
ends_early bytes used less (inr all) = absurd (omega arith)

not_longer : (bytes : List ℕ) (f g : Front) → ReadsFront bytes f → ReadsFront bytes g → f.lines ≡ g.lines → f.used < g.used → ⊥
not_longer bytes f g left right same less =
    let within = right.within in
    let front = take f.used bytes in
    let longer = take g.used bytes in
    let more = drop f.used longer in
    let len = length-take-le g.used bytes within in
    let part : take f.used longer ≡ front = take-take f.used g.used bytes (omega arith) in
    let whole : longer ≡ front ++ more = sym (take-append-drop f.used longer) ∙ ap (λ (bs : List ℕ). bs ++ more) part in
    let ends = ends_early bytes f.used (omega arith) left.whole in
    let lines = ap length (ap lines_in whole ∙ lines_in-append front more ends) ∙ length-append (lines_in front) (lines_in more) in
    let some : 0 < length more = let rest = length-drop f.used longer in omega arith in
    let one_more = some_line more some in
    let left_count = left.count in
    let right_count = right.count in absurd (omega arith)

same_front : (f g : Front) → f.sketch ≡ g.sketch → f.used ≡ g.used → f.lines ≡ g.lines → f ≡ g
same_front f g sketch used lines =
    let made : Sketch → ℕ → ℕ → Front = λ s n m. record { sketch = s; used = n; lines = m } in
    ap (λ (s : Sketch). made s f.used f.lines) sketch ∙ ap (λ (n : ℕ). made g.sketch n f.lines) used ∙ ap (λ (m : ℕ). made g.sketch g.used m) lines

pub one_front : (bytes : List ℕ) (f g : Front) → ReadsFront bytes f → ReadsFront bytes g → f ≡ g
one_front bytes f g left right =
    let lines : f.lines ≡ g.lines = elim (cases_lt f.lines g.lines) [
      | inl less ↦ absurd (not_later bytes f g left right less)
      | inr other ↦ elim (cases_lt g.lines f.lines) [ inl less ↦ absurd (not_later bytes g f right left less) | inr both ↦ omega arith ]
    ] in
    let used : f.used ≡ g.used = elim (cases_lt f.used g.used) [
      | inl less ↦ absurd (not_longer bytes f g left right lines less)
      | inr other ↦ elim (cases_lt g.used f.used) [ inl less ↦ absurd (not_longer bytes g f right left (sym lines) less) | inr both ↦ omega arith ]
    ] in
    let again : Reads (take f.used bytes) g.sketch = subst (λ (n : ℕ). Reads (take n bytes) g.sketch) (sym used) right.reads in
    let sketch = one_sketch (take f.used bytes) f.sketch g.sketch left.reads again in
    same_front f g sketch used lines
