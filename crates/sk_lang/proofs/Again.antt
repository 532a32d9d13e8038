-- An element that is written is read again.
use Rattle.std.proofs.Common.{◌≡◌, ◌≢◌, ℕ, ◌+◌, ◌<◌, ◌≤◌, Bool, true, false, not, ◌&&◌, cond, nat_le, nat_eq, List, [], ◌∷◌, ◌++◌, length, Option, Some, None, is_none, refl, sym, ap, ◌∙◌, arith, ℤ, pos, negsuc, codes, bytes_eq, IsTrue}
use Rattle.std.specs.Prelude.{Contains, AllPairs, ◌≤ℤ◌}
use Rattle.std.specs.List.{find, position_or_len}
use Rattle.std.specs.Ordering.{int_eq}
use Rattle.std.proofs.lemmas.Bool.Decides.{nat_tests, Decides-int_eq}
use Rattle.std.proofs.lemmas.Int.{ints}
use Rattle.sk_base.specs.declared.Elem.{Elem}
use Rattle.sk_base.specs.declared.Um.{Um}
use Rattle.sk_base.specs.declared.Element.{Element}
use Rattle.sk_base.specs.declared.Shape.{Shape}
use Rattle.sk_base.specs.declared.Shape.TheVariants as shape
use Rattle.sk_base.specs.declared.Sketch.{Sketch}
use Rattle.sk_base.specs.Bounds.{IsWithin}
use Rattle.sk_base.specs.Labels.{is_name}
use Rattle.sk_base.specs.Millimetres.{mm_of}
use Rattle.sk_base.specs.SoundSketch.{IsSoundShape, IsLength}
use Rattle.sk_base.proofs.Members.{contains_head, contains_later}
use Rattle.sk_base.proofs.Pairs.{pairs_head, pairs_tail}
use Rattle.sk_base.specs.Spelling.{mm_text, spaced}
use Rattle.sk_text.proofs.ReadBack.{mm_of-mm_text}
use Rattle.sk_lines.specs.declared.Version.{Version}
use Rattle.sk_lines.specs.declared.Version.TheVariants.{One, Two}
use Rattle.sk_lines.specs.declared.Keyword.{Keyword}
use Rattle.sk_lines.specs.declared.Keyword.TheVariants.{Point, Line, Circle}
use Rattle.sk_lang.specs.declared.progress.Progress.TheVariants.{Within}
use Rattle.sk_lines.specs.Quantities.{um, length_of, not_negative, is_zero}
use Rattle.sk_lines.specs.FirstCode.{first_code}
use Rattle.sk_lang.specs.Codes.{code_of}
use Rattle.sk_entry.specs.EntryCodes.{entry_rows}
use Rattle.sk_lines.specs.Keywords.{keyword_of}
use Rattle.sk_entry.specs.Meaning.{entry_made, added}
use Rattle.sk_lang.specs.Progress.{next_elem, next_con, progress_after, progress_after_words, progress_within}
use Rattle.sk_entry.specs.CanonicalLines.{shape_words}
use Rattle.sk_lang.specs.Renumbered.{elements_from}
use Rattle.sk_base.proofs.Finding.{found_in}
use Rattle.sk_lines.proofs.Finding.{equal_bytes, different_bytes}
use Rattle.sk_entry.proofs.Passing.{Passes, passes_to}
use Rattle.sk_lines.proofs.SolidLines.{IsLineOf, literal, name_spelled}
use Rattle.sk_lang.proofs.Written.{AreWritten, mm_written, magnitude_within, short_line, written_line}

-- a keyword of both versions
pub shared : (v : Version) (word : List ℕ) (k : Keyword) → keyword_of One word ≡ Some k → keyword_of Two word ≡ Some k → keyword_of v word ≡ Some k
shared One word k one two = one
shared Two word k one two = two

-- the words of a line decide
pub code_by_words : (v : Version) (s : Sketch) (line first : List ℕ) (rest : List (List ℕ)) (k : Keyword) → IsLineOf line (first ∷ rest) → keyword_of v first ≡ Some k → first_code (entry_rows s k rest) ≡ None → code_of (Within v s) line ≡ None
code_by_words v s line first rest k is keyword clean = rw (is.short, is.ascii, is.words_are v, keyword) clean

pub progress_by_words : (v : Version) (s : Sketch) (line first : List ℕ) (rest : List (List ℕ)) (k : Keyword) → IsLineOf line (first ∷ rest) → keyword_of v first ≡ Some k → progress_after (Within v s) line ≡ Within v (added s (entry_made s k rest (next_elem s) (next_con s)))
progress_by_words v s line first rest k is keyword = ap (progress_after_words (Within v s)) (is.words_are v) ∙ ap (λ (o : Option Keyword). progress_within v s o rest) keyword

-- a name that no element has
pub fresh_name : (n : ℕ) (name : List ℕ) (done : List Element) → ((x : Element) → Contains done x → x.label ≢ name) → find (λ (x : Element). bytes_eq name x.label) (elements_from n done) ≡ None
fresh_name n name [] other = refl
fresh_name n name (x ∷ done) other =
    let here = different_bytes name x.label (λ same. other x (contains_head x done) (sym same)) in
    rw here (fresh_name (n + 1) name done (λ y among. other y (contains_later x done y among)))

pub length_from : (n : ℕ) (done : List Element) → length (elements_from n done) ≡ length done
length_from n [] = refl
length_from n (x ∷ done) = let rest = length_from (n + 1) done in omega arith

pub elements_push : (n : ℕ) (done : List Element) (e : Element) → elements_from n (done ++ e ∷ []) ≡ elements_from n done ++ (let again : Element = record e { number = record { 0 = n + length done } } in again) ∷ []
elements_push n [] e = let none : n ≡ n + 0 = omega arith in ap (λ (m : ℕ). let again : Element = record e { number = record { 0 = m } } in again ∷ []) none
elements_push n (x ∷ done) e =
    let count : n + 1 + length done ≡ n + length (x ∷ done) = omega arith in
    let first : Element = record x { number = record { 0 = n } } in
    ap (λ (es : List Element). first ∷ es) (elements_push (n + 1) done e ∙ ap (λ (m : ℕ). let again : Element = record e { number = record { 0 = m } } in elements_from (n + 1) done ++ again ∷ []) count)

-- the element of a number is found by its name, with its new number
pub found_again : (u : Elem) (n : ℕ) (es : List Element) (e : Element) → AllPairs (λ (x y : Element). x.label ≢ y.label) es → find (λ (x : Element). nat_eq x.number.0 u.0) es ≡ Some e
    → find (λ (x : Element). bytes_eq e.label x.label) (elements_from n es) ≡ Some (let again : Element = record e { number = record { 0 = n + position_or_len (λ (x : Element). nat_eq x.number.0 u.0) es } } in again)
found_again u n [] e differ is = cc
found_again u n (x ∷ es) e differ is = by (nat_eq x.number.0 u.0) is (λ later. (found_again u (n + 1) es e (pairs_tail (λ (a b : Element). a.label ≢ b.label) x es differ) later, pairs_head (λ (a b : Element). a.label ≢ b.label) x es differ e (found_in (λ (y : Element). nat_eq y.number.0 u.0) es e later).0))
  where
    by : (t : Bool) → cond t (Some x) (find (λ (y : Element). nat_eq y.number.0 u.0) es) ≡ Some e
        → (find (λ (y : Element). nat_eq y.number.0 u.0) es ≡ Some e → (find (λ (y : Element). bytes_eq e.label y.label) (elements_from (n + 1) es) ≡ Some (let again : Element = record e { number = record { 0 = n + 1 + position_or_len (λ (y : Element). nat_eq y.number.0 u.0) es } } in again)) × (x.label ≢ e.label))
        → cond (bytes_eq e.label x.label) (Some (let first : Element = record x { number = record { 0 = n } } in first)) (find (λ (y : Element). bytes_eq e.label y.label) (elements_from (n + 1) es)) ≡ Some (let again : Element = record e { number = record { 0 = n + cond (not t) (1 + position_or_len (λ (y : Element). nat_eq y.number.0 u.0) es) 0 } } in again)
    by true same later =
        let one : x ≡ e = cc in
        let equal = equal_bytes e.label x.label (ap (λ (y : Element). y.label) (sym one)) in
        let none : n ≡ n + 0 = omega arith in
        rw equal (ap (λ (y : Element). Some (let again : Element = record y { number = record { 0 = n } } in again)) one ∙ ap (λ (m : ℕ). Some (let again : Element = record e { number = record { 0 = m } } in again)) none)
    by false is rest =
        let found = rest is in
        let other = different_bytes e.label x.label (λ same. found.1 (sym same)) in
        let count : n + 1 + position_or_len (λ (y : Element). nat_eq y.number.0 u.0) es ≡ n + (1 + position_or_len (λ (y : Element). nat_eq y.number.0 u.0) es) = omega arith in
        rw other (found.0 ∙ ap (λ (m : ℕ). Some (let again : Element = record e { number = record { 0 = m } } in again)) count)

-- what was read of the elements so far
abbrev pub elements_so_far : List Element → Sketch
elements_so_far done = record { elements = elements_from 1 done; constraints = [] }

pub coordinate_back : (x : Um) → IsWithin 1000000000 x.0 → mm_of (mm_text x.0) ≡ Some x.0
coordinate_back x within = mm_of-mm_text x.0 (magnitude_within 1000000000 x.0 within)

pub length_within : (x : Um) → IsLength x → IsWithin 1000000000 x.0
length_within x is = let low = is.0 in (omega (arith, ints), is.1)

pub um_back : (x : Um) → mm_of (mm_text x.0) ≡ Some x.0 → um (mm_text x.0) ≡ x
um_back x back = rw back refl

length_by : (z : ℤ) → pos 1 ≤ℤ z → (is_none (not_negative z) ≡ false) × (is_zero (not_negative z) ≡ false)
length_by (pos n) low = let more : 1 ≤ n = omega (arith, ints) in (refl, grind (arith, nat_tests))
length_by (negsuc n) low = absurd (omega (arith, ints))

pub length_back : (x : Um) → IsLength x → mm_of (mm_text x.0) ≡ Some x.0 → (is_none (length_of (mm_text x.0)) ≡ false) × (is_zero (length_of (mm_text x.0)) ≡ false)
length_back x is back = rw back (length_by x.0 is.0)

-- an element's words and its line, which is written
pub words_written : (name : List ℕ) (s : Shape) → IsTrue (is_name name) → IsSoundShape s → AreWritten (shape_words name s)
words_written name (shape.Point x y) is sound =
    (literal (codes "point") 16 (omega arith) (omega arith) refl, (name_spelled name is, (mm_written x.0 (magnitude_within 1000000000 x.0 sound.0), (mm_written y.0 (magnitude_within 1000000000 y.0 sound.1), tt))))
words_written name (shape.Line x1 y1 x2 y2) is sound =
    (literal (codes "line") 16 (omega arith) (omega arith) refl, (name_spelled name is, (mm_written x1.0 (magnitude_within 1000000000 x1.0 sound.0), (mm_written y1.0 (magnitude_within 1000000000 y1.0 sound.1), (mm_written x2.0 (magnitude_within 1000000000 x2.0 sound.2), (mm_written y2.0 (magnitude_within 1000000000 y2.0 sound.3), tt))))))
words_written name (shape.Circle x y r) is sound =
    (literal (codes "circle") 16 (omega arith) (omega arith) refl, (name_spelled name is, (mm_written x.0 (magnitude_within 1000000000 x.0 sound.0), (mm_written y.0 (magnitude_within 1000000000 y.0 sound.1), (mm_written r.0 (magnitude_within 1000000000 r.0 (length_within r sound.2)), tt)))))

pub shape_written : (name : List ℕ) (s : Shape) → IsTrue (is_name name) → IsSoundShape s → IsLineOf (spaced (shape_words name s)) (shape_words name s)
shape_written name (shape.Point x y) is sound = written_line (codes "point") (name ∷ mm_text x.0 ∷ mm_text y.0 ∷ []) (words_written name (shape.Point x y) is sound) (omega arith)
shape_written name (shape.Line x1 y1 x2 y2) is sound = written_line (codes "line") (name ∷ mm_text x1.0 ∷ mm_text y1.0 ∷ mm_text x2.0 ∷ mm_text y2.0 ∷ []) (words_written name (shape.Line x1 y1 x2 y2) is sound) (omega arith)
shape_written name (shape.Circle x y r) is sound = written_line (codes "circle") (name ∷ mm_text x.0 ∷ mm_text y.0 ∷ mm_text r.0 ∷ []) (words_written name (shape.Circle x y r) is sound) (omega arith)

pub shape_short : (name : List ℕ) (s : Shape) → IsTrue (is_name name) → IsSoundShape s → length (spaced (shape_words name s)) ≤ 102
shape_short name (shape.Point x y) is sound = short_line (codes "point") (name ∷ mm_text x.0 ∷ mm_text y.0 ∷ []) (words_written name (shape.Point x y) is sound) (omega arith)
shape_short name (shape.Line x1 y1 x2 y2) is sound = short_line (codes "line") (name ∷ mm_text x1.0 ∷ mm_text y1.0 ∷ mm_text x2.0 ∷ mm_text y2.0 ∷ []) (words_written name (shape.Line x1 y1 x2 y2) is sound) (omega arith)
shape_short name (shape.Circle x y r) is sound = short_line (codes "circle") (name ∷ mm_text x.0 ∷ mm_text y.0 ∷ mm_text r.0 ∷ []) (words_written name (shape.Circle x y r) is sound) (omega arith)

same_element : (m n : ℕ) (name : List ℕ) (s t : Shape) → m ≡ n → s ≡ t → (let first : Element = record { number = record { 0 = m }; label = name; shape = s } in first) ≡ (let second : Element = record { number = record { 0 = n }; label = name; shape = t } in second)
same_element m n name s t p q = rw (p, q) refl

-- one more element
grown : (v : Version) (done : List Element) (number : Elem) (name : List ℕ) (s t : Shape) → t ≡ s
    → Within v (record { elements = elements_from 1 done ++ record { number = record { 0 = length (elements_from 1 done) + 1 }; label = name; shape = t } ∷ []; constraints = [] }) ≡ Within v (elements_so_far (done ++ record { number = number; label = name; shape = s } ∷ []))
grown v done number name s t same =
    let count : length (elements_from 1 done) + 1 ≡ 1 + length done = let len = length_from 1 done in omega arith in
    let e : Element = record { number = number; label = name; shape = s } in
    ap (λ (x : Element). Within v (let sketch : Sketch = record { elements = elements_from 1 done ++ x ∷ []; constraints = [] } in sketch)) (same_element (length (elements_from 1 done) + 1) (1 + length done) name t s count same)
    ∙ ap (λ (es : List Element). Within v (let sketch : Sketch = record { elements = es; constraints = [] } in sketch)) (sym (elements_push 1 done e))

room_left : (done : List Element) → length done < 2000 → nat_le 2000 (length (elements_from 1 done)) ≡ false
room_left done few = let len = length_from 1 done in grind (arith, nat_tests)

-- the line of an element is read as that element, with the next number
unfoldable pub IsReadAgain : Version → List Element → Elem → List ℕ → Shape → Type 0
IsReadAgain v done number name s =
    (code_of (Within v (elements_so_far done)) (spaced (shape_words name s)) ≡ None)
    × (progress_after (Within v (elements_so_far done)) (spaced (shape_words name s)) ≡ Within v (elements_so_far (done ++ record { number = number; label = name; shape = s } ∷ [])))

pub flat_not : (x1 y1 x2 y2 : Um) → ¬ ((x1 ≡ x2) × (y1 ≡ y2)) → (int_eq x1.0 x2.0 && int_eq y1.0 y2.0) ≡ false
flat_not x1 y1 x2 y2 other = by (int_eq x1.0 x2.0) (int_eq y1.0 y2.0) refl refl
  where
    by : (a b : Bool) → int_eq x1.0 x2.0 ≡ a → int_eq y1.0 y2.0 ≡ b → (a && b) ≡ false
    by false b p q = refl
    by true false p q = refl
    by true true p q =
        let um_of : ℤ → Um = λ z. record { 0 = z } in
        absurd (other (ap um_of ((Decides-int_eq x1.0 x2.0).0 p), ap um_of ((Decides-int_eq y1.0 y2.0).0 q)))

pub element_again : (v : Version) (done : List Element) (number : Elem) (name : List ℕ) (s : Shape) → IsTrue (is_name name) → IsSoundShape s → ((x : Element) → Contains done x → x.label ≢ name) → length done < 2000 → IsReadAgain v done number name s
unfolding IsReadAgain
element_again v done number name (shape.Point x y) is sound other few =
    let w = shape_written name (shape.Point x y) is sound in
    let xb = coordinate_back x sound.0 in
    let yb = coordinate_back y sound.1 in
    let fresh = fresh_name 1 name done other in
    let rest = name ∷ mm_text x.0 ∷ mm_text y.0 ∷ [] in
    let passes : Passes (elements_so_far done) Point rest = record {
      radius = refl;
      count = refl;
      names = rw is refl;
      free = rw fresh refl;
      known = refl;
      kinds = refl;
      numbers = rw (xb, yb) refl;
      zeros = refl;
      same = refl;
      flat = refl;
      elements = room_left done few;
      constraints = refl;
    } in (
      code_by_words v (elements_so_far done) (spaced (codes "point" ∷ rest)) (codes "point") rest Point w (shared v (codes "point") Point refl refl) (passes_to (elements_so_far done) Point rest passes),
      progress_by_words v (elements_so_far done) (spaced (codes "point" ∷ rest)) (codes "point") rest Point w (shared v (codes "point") Point refl refl) ∙ grown v done number name (shape.Point x y) (shape.Point (um (mm_text x.0)) (um (mm_text y.0))) (rw (um_back x xb, um_back y yb) refl),
    )
element_again v done number name (shape.Line x1 y1 x2 y2) is sound other few =
    let w = shape_written name (shape.Line x1 y1 x2 y2) is sound in
    let x1b = coordinate_back x1 sound.0 in
    let y1b = coordinate_back y1 sound.1 in
    let x2b = coordinate_back x2 sound.2 in
    let y2b = coordinate_back y2 sound.3 in
    let fresh = fresh_name 1 name done other in
    let rest = name ∷ mm_text x1.0 ∷ mm_text y1.0 ∷ mm_text x2.0 ∷ mm_text y2.0 ∷ [] in
    let passes : Passes (elements_so_far done) Line rest = record {
      radius = refl;
      count = refl;
      names = rw is refl;
      free = rw fresh refl;
      known = refl;
      kinds = refl;
      numbers = rw (x1b, y1b, x2b, y2b) refl;
      zeros = refl;
      same = refl;
      flat = rw (x1b, y1b, x2b, y2b) (flat_not x1 y1 x2 y2 sound.4);
      elements = room_left done few;
      constraints = refl;
    } in (
      code_by_words v (elements_so_far done) (spaced (codes "line" ∷ rest)) (codes "line") rest Line w (shared v (codes "line") Line refl refl) (passes_to (elements_so_far done) Line rest passes),
      progress_by_words v (elements_so_far done) (spaced (codes "line" ∷ rest)) (codes "line") rest Line w (shared v (codes "line") Line refl refl) ∙ grown v done number name (shape.Line x1 y1 x2 y2) (shape.Line (um (mm_text x1.0)) (um (mm_text y1.0)) (um (mm_text x2.0)) (um (mm_text y2.0))) (rw (um_back x1 x1b, um_back y1 y1b, um_back x2 x2b, um_back y2 y2b) refl),
    )
element_again v done number name (shape.Circle x y r) is sound other few =
    let w = shape_written name (shape.Circle x y r) is sound in
    let xb = coordinate_back x sound.0 in
    let yb = coordinate_back y sound.1 in
    let rb = coordinate_back r (length_within r sound.2) in
    let len = length_back r sound.2 rb in
    let fresh = fresh_name 1 name done other in
    let rest = name ∷ mm_text x.0 ∷ mm_text y.0 ∷ mm_text r.0 ∷ [] in
    let passes : Passes (elements_so_far done) Circle rest = record {
      radius = refl;
      count = refl;
      names = rw is refl;
      free = rw fresh refl;
      known = refl;
      kinds = refl;
      numbers = rw (xb, yb, len.0) refl;
      zeros = rw len.1 refl;
      same = refl;
      flat = refl;
      elements = room_left done few;
      constraints = refl;
    } in (
      code_by_words v (elements_so_far done) (spaced (codes "circle" ∷ rest)) (codes "circle") rest Circle w (shared v (codes "circle") Circle refl refl) (passes_to (elements_so_far done) Circle rest passes),
      progress_by_words v (elements_so_far done) (spaced (codes "circle" ∷ rest)) (codes "circle") rest Circle w (shared v (codes "circle") Circle refl refl) ∙ grown v done number name (shape.Circle x y r) (shape.Circle (um (mm_text x.0)) (um (mm_text y.0)) (um (mm_text r.0))) (rw (um_back x xb, um_back y yb, um_back r rb) refl),
    )
