-- A block that is read is sound.
use Rattle.std.proofs.Common.{◌≡◌, ◌≢◌, ℕ, zero, suc, ◌*◌, ◌≤◌, Bool, true, false, ◌||◌, cond, List, [], ◌∷◌, length, map, Option, Some, None, is_none, unwrap_or, refl, sym, ap, subst, ◌∙◌, arith, ℤ, pos, inl, inr, bytes_eq, codes}
use Rattle.std.specs.Prelude.{All, AllPairs, Contains}
use Rattle.std.specs.List.{list_any, flat_map}
use Rattle.std.specs.Option.{option_map}
use Rattle.std.proofs.lemmas.List.{length-map}
use Rattle.std.proofs.lemmas.List.Elements.{All-nil, All-cons}
use Rattle.sk_base.specs.declared.Element.{Element}
use Rattle.sk_base.specs.declared.Pin.{Pin}
use Rattle.sk_base.specs.declared.Shape.{Shape}
use Rattle.sk_base.specs.declared.Shape.TheVariants.{Point, Line, Circle}
use Rattle.sk_base.specs.declared.Sketch.{Sketch}
use Rattle.sk_base.specs.Drawn.{element_of, shape_of, is_line, HasCentre}
use Rattle.sk_base.specs.ElementNames.{name_of}
use Rattle.sk_base.specs.Millimetres.{mm_of}
use Rattle.sk_base.specs.Pins.{IsOnSheet, pin_words}
use Rattle.sk_base.specs.SoundSketch.{IsSoundSketch, IsSoundBlock, IsCentred}
use Rattle.sk_base.specs.Spelling.{mm_text}
use Rattle.sk_base.proofs.Finding.{found_in}
use Rattle.sk_base.proofs.Members.{contains_none, contains_head, contains_later, contains_cases, mapped_from}
use Rattle.sk_base.proofs.Pairs.{pairs_none, pairs_cons}
use Rattle.sk_lines.specs.declared.Keyword.TheVariants as word
use Rattle.sk_lines.specs.declared.Version.{Version}
use Rattle.sk_lines.specs.declared.Version.TheVariants.{One, Two}
use Rattle.sk_entry.specs.Conditions.{is_drawn_line, at_one_place, of_one_name}
use Rattle.sk_lines.specs.Keywords.{keyword_of, shared_keyword, pin_count}
use Rattle.sk_entry.specs.Meaning.{pin_asked}
use Rattle.sk_entry.specs.Named.{element_named, number_named}
use Rattle.sk_entry.specs.PinLines.{PinWords, pins_in, some_two}
use Rattle.sk_lines.specs.Quantities.{um}
use Rattle.sk_lines.proofs.Amounts.{coordinate_within}
use Rattle.sk_entry.proofs.Declaring.{first_of_two}
use Rattle.sk_lines.proofs.Finding.{same_bytes}
use Rattle.sk_entry.proofs.Growing.{drawn_named, numbers_apart, differ}
use Rattle.sk_lines.proofs.LineWords.{extent, spaced_extent, BeginsLine}
use Rattle.sk_entry.proofs.Passing.{Passes}
use Rattle.sk_entry.proofs.PinTests.{in_threes, pins_length, tested}
use Rattle.sk_entry.proofs.Shorter.{mm_shorter}

-- ---- lists whose tests fail

any_fails : {X : Type 0} (test : X → Bool) (xs : List X) → list_any test xs ≡ false → (x : X) → Contains xs x → test x ≡ false
any_fails test [] none x among = absurd (contains_none x among)
any_fails test (y ∷ xs) none x among =
    let parts = first_of_two (test y) (list_any test xs) none in
    elim (contains_cases y xs x among) [
      | inl here ↦ subst (λ z. test z ≡ false) here parts.0
      | inr later ↦ any_fails test xs parts.1 x later
    ]

mapped_all : {X Y : Type 0} (R : Y → Type 0) (f : X → Y) (xs : List X) → ((x : X) → Contains xs x → R (f x)) → All R (map f xs)
mapped_all R f [] each = All-nil R
mapped_all R f (x ∷ xs) each = All-cons R (f x) (map f xs) (each x (contains_head x xs)) (mapped_all R f xs (λ y among. each y (contains_later x xs y among)))

mapped_pairs : {X Y : Type 0} (test : X → X → Bool) (R : Y → Y → Type 0) (f : X → Y) (xs : List X) → some_two test xs ≡ false
    → ((a b : X) → Contains xs a → Contains xs b → test a b ≡ false → R (f a) (f b)) → AllPairs R (map f xs)
mapped_pairs test R f [] none each = pairs_none R
mapped_pairs test R f (x ∷ xs) none each =
    let parts = first_of_two (list_any (test x) xs) (some_two test xs) none in
    pairs_cons R (f x) (map f xs) (mapped_pairs test R f xs parts.1 (λ a b left right. each a b (contains_later x xs a left) (contains_later x xs b right)))
    (λ y among.
    let source = mapped_from f xs y among in
    subst (λ z. R (f x) z) source.2 (each x source.0 (contains_head x xs) (contains_later x xs source.0 source.1) (any_fails (test x) xs parts.0 source.0 source.1)))

-- ---- one pin

record IsKnown (s : Sketch) (pin : PinWords) : Type 0 where
  element : Element
  named : element_named s pin.name ≡ Some element
  centre : HasCentre element.shape
  x : mm_of pin.x ≡ Some (um pin.x).0
  y : mm_of pin.y ≡ Some (um pin.y).0

centre_of : (shape : Shape) → is_line shape ≡ false → HasCentre shape
centre_of (Point x y) is = tt
centre_of (Line x1 y1 x2 y2) is = cc
centre_of (Circle x y r) is = tt

record IsNamed (o : Option Element) : Type 0 where
  element : Element
  is : o ≡ Some element
  centre : HasCentre element.shape

named_by : (o : Option Element) → is_none o ≡ false → is_drawn_line o ≡ false → IsNamed o
named_by None some centre = cc
named_by (Some e) some centre = record { element = e; is = refl; centre = centre_of e.shape centre }

value_of : (o : Option ℤ) → is_none o ≡ false → o ≡ Some (unwrap_or o (pos 0))
value_of None some = cc
value_of (Some z) some = refl

known_pin : (s : Sketch) (pin : PinWords) → is_none (element_named s pin.name) ≡ false → is_drawn_line (element_named s pin.name) ≡ false → (is_none (mm_of pin.x) || is_none (mm_of pin.y)) ≡ false → IsKnown s pin
known_pin s pin known kind numbers =
    let found = named_by (element_named s pin.name) known kind in
    let both = first_of_two (is_none (mm_of pin.x)) (is_none (mm_of pin.y)) numbers in
    record { element = found.element; named = found.is; centre = found.centre; x = value_of (mm_of pin.x) both.0; y = value_of (mm_of pin.y) both.1 }

number_is : (s : Sketch) (pin : PinWords) (k : IsKnown s pin) → number_named s pin.name ≡ k.element.number
number_is s pin k = rw k.named refl

drawn : (s : Sketch) (pin : PinWords) (k : IsKnown s pin) → IsSoundSketch s → element_of s (number_named s pin.name) ≡ Some k.element
drawn s pin k sound = ap (element_of s) (number_is s pin k) ∙ drawn_named s pin.name k.element sound k.named

centred : (s : Sketch) (pin : PinWords) → IsSoundSketch s → IsKnown s pin → IsCentred (shape_of s (number_named s pin.name))
centred s pin sound k = subst (λ (o : Option Element). IsCentred (option_map (λ (x : Element). x.shape) o)) (sym (drawn s pin k sound)) k.centre

-- its words, written again, are no longer
record IsShort (s : Sketch) (pin : PinWords) : Type 0 where
  name : length (name_of s (number_named s pin.name)) ≤ length pin.name
  x : length (mm_text (um pin.x).0) ≤ length pin.x
  y : length (mm_text (um pin.y).0) ≤ length pin.y

short_pin : (s : Sketch) (pin : PinWords) → IsSoundSketch s → IsKnown s pin → IsShort s pin
short_pin s pin sound k =
    let label : pin.name ≡ k.element.label = same_bytes pin.name k.element.label (found_in (λ (e : Element). bytes_eq pin.name e.label) s.elements k.element k.named).1 in
    let name : name_of s (number_named s pin.name) ≡ k.element.label = ap (λ (o : Option Element). unwrap_or (option_map (λ (e : Element). e.label) o) []) (drawn s pin k sound) in
    let same = ap length (name ∙ sym label) in
    record { name = omega (arith, same); x = mm_shorter pin.x (um pin.x).0 k.x; y = mm_shorter pin.y (um pin.y).0 k.y }

pins_extent : (s : Sketch) (n : ℕ) (rest : List (List ℕ)) → length rest ≡ 3 * n → ((pin : PinWords) → Contains (pins_in rest) pin → IsShort s pin) → extent (flat_map (pin_words s) (map (pin_asked s) (pins_in rest))) ≤ extent rest
pins_extent s zero [] count short = omega arith
pins_extent s zero (a ∷ rest) count short = absurd (omega arith)
pins_extent s (suc n) [] count short = absurd (omega arith)
pins_extent s (suc n) (a ∷ []) count short = absurd (omega arith)
pins_extent s (suc n) (a ∷ b ∷ []) count short = absurd (omega arith)
pins_extent s (suc n) (a ∷ b ∷ c ∷ rest) count short =
    let pin : PinWords = record { name = a; x = b; y = c } in
    let here = short pin (contains_head pin (pins_in rest)) in
    let more = pins_extent s n rest (omega arith) (λ p among. short p (contains_later pin (pins_in rest) p among)) in omega (arith, here.name, here.x, here.y, more)

-- ---- the line

shared_not_block : (a b c d e f g h i : Bool) → cond a (Some word.Point) (cond b (Some word.Line) (cond c (Some word.Circle) (cond d (Some word.Distance) (cond e (Some word.On) (cond f (Some word.Tangent) (cond g (Some word.Outside) (cond h (Some word.Inside) (cond i (Some word.Angle) None)))))))) ≡ Some word.Block → ⊥
shared_not_block true b c d e f g h i is = cc
shared_not_block false true c d e f g h i is = cc
shared_not_block false false true d e f g h i is = cc
shared_not_block false false false true e f g h i is = cc
shared_not_block false false false false true f g h i is = cc
shared_not_block false false false false false true g h i is = cc
shared_not_block false false false false false false true h i is = cc
shared_not_block false false false false false false false true i is = cc
shared_not_block false false false false false false false false true is = cc
shared_not_block false false false false false false false false false is = cc

never_shared : (first : List ℕ) → shared_keyword first ≡ Some word.Block → ⊥
never_shared first is =
    shared_not_block (bytes_eq first (codes "point")) (bytes_eq first (codes "line")) (bytes_eq first (codes "circle")) (bytes_eq first (codes "distance")) (bytes_eq first (codes "on"))
    (bytes_eq first (codes "tangent")) (bytes_eq first (codes "outside")) (bytes_eq first (codes "inside")) (bytes_eq first (codes "angle")) is

block_word : (v : Version) (first : List ℕ) → keyword_of v first ≡ Some word.Block → first ≡ codes "block"
block_word One first is = absurd (never_shared first is)
block_word Two first is = by (bytes_eq first (codes "block")) refl is
  where
    by : (t : Bool) → bytes_eq first (codes "block") ≡ t → cond t (Some word.Block) (shared_keyword first) ≡ Some word.Block → first ≡ codes "block"
    by true same is = same_bytes first (codes "block") same
    by false other is = absurd (never_shared first is)

pub block_sound : (v : Version) (s : Sketch) (rest : List (List ℕ)) → IsSoundSketch s → BeginsLine v word.Block rest → Passes s word.Block rest → IsSoundBlock s (map (pin_asked s) (pins_in rest))
block_sound v s rest sound begins p =
    let pins = pins_in rest in
    let n = pin_count (length rest) in
    let count = in_threes rest p.count in
    let t = tested s rest count in
    let size = length-map pins (pin_asked s) in
    let pins_are = pins_length n rest count in
    let known = any_fails (λ (pin : PinWords). is_none (element_named s pin.name)) pins (sym t.known ∙ p.known) in
    let kinds = any_fails (λ (pin : PinWords). is_drawn_line (element_named s pin.name)) pins p.kinds in
    let numbers = any_fails (λ (pin : PinWords). is_none (mm_of pin.x) || is_none (mm_of pin.y)) pins (sym t.numbers ∙ p.numbers) in
    let each : (pin : PinWords) → Contains pins pin → IsKnown s pin = λ pin among. known_pin s pin (known pin among) (kinds pin among) (numbers pin among) in
    let written = pins_extent s n rest count (λ pin among. short_pin s pin sound (each pin among)) in
    let first = ap length (block_word v begins.first begins.keyword) in
    let fits = begins.fits in
    let text = spaced_extent (codes "block") (flat_map (pin_words s) (map (pin_asked s) pins)) in
    record {
      sound = record {
        at_least = omega (arith, size, pins_are);
        at_most = omega (arith, size, pins_are);
        elements_differ = mapped_pairs of_one_name (λ (a b : Pin). a.elem ≢ b.elem) (pin_asked s) pins p.same (λ a b left right other.
            let j = each a left in
            let k = each b right in
            rw (number_is s a j, number_is s b k) (numbers_apart s a.name b.name j.element k.element sound j.named k.named other));
        places_differ = mapped_pairs at_one_place (λ (a b : Pin). ¬ ((a.x ≡ b.x) × (a.y ≡ b.y))) (pin_asked s) pins (first_of_two _ _ p.zeros).1 (λ a b left right other. differ (um a.x) (um a.y) (um b.x) (um b.y) other);
        on_sheet = mapped_all IsOnSheet (pin_asked s) pins (λ pin among. (coordinate_within pin.x, coordinate_within pin.y));
      };
      centred = mapped_all (λ (pin : Pin). IsCentred (shape_of s pin.elem)) (pin_asked s) pins (λ pin among. centred s pin sound (each pin among));
      fits = omega (arith, written, first, fits, text);
    }
