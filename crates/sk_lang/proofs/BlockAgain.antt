-- A block that is written is read again.
use Rattle.std.proofs.Common.{◌≡◌, ◌≢◌, ◌*◌, ◌<◌, ◌≤◌, Bool, false, not, ◌||◌, nat_eq, List, [], ◌∷◌, length, map, Option, Some, None, is_none, refl, ap, ◌∙◌, arith, codes, IsTrue}
use Rattle.std.specs.Prelude.{AllPairs, Contains}
use Rattle.std.specs.List.{list_any, flat_map}
use Rattle.std.specs.Option.{option_map}
use Rattle.std.proofs.lemmas.Bool.Decides.{nat_tests}
use Rattle.std.proofs.lemmas.List.Elements.{All-contains}
use Rattle.sk_base.specs.declared.ConId.{ConId}
use Rattle.sk_base.specs.declared.Element.{Element}
use Rattle.sk_base.specs.declared.Constraint.{Constraint}
use Rattle.sk_base.specs.declared.Pin.{Pin}
use Rattle.sk_base.specs.declared.Rule.TheVariants as rule
use Rattle.sk_base.specs.declared.Shape.{Shape}
use Rattle.sk_base.specs.declared.Shape.TheVariants.{Point, Line, Circle}
use Rattle.sk_base.specs.declared.Sketch.{Sketch}
use Rattle.sk_base.specs.Drawn.{element_of, is_line, HasCentre}
use Rattle.sk_base.specs.ElementNames.{name_of}
use Rattle.sk_base.specs.Labels.{is_name}
use Rattle.sk_base.specs.Millimetres.{mm_of}
use Rattle.sk_base.specs.Pins.{IsOnSheet, pin_words, block_words}
use Rattle.sk_base.specs.SoundSketch.{IsSoundSketch, IsSoundBlock, IsCentred}
use Rattle.sk_base.specs.Spelling.{mm_text, spaced}
use Rattle.sk_base.proofs.Members.{contains_head, contains_later}
use Rattle.sk_base.proofs.Pairs.{pairs_head, pairs_tail}
use Rattle.sk_lines.specs.declared.Keyword.TheVariants.{Block}
use Rattle.sk_lines.specs.declared.Version.TheVariants.{Two}
use Rattle.sk_entry.specs.Conditions.{is_drawn_line, at_one_place, of_one_name}
use Rattle.sk_lines.specs.Keywords.{pin_places, pin_count, places}
use Rattle.sk_entry.specs.Meaning.{pin_asked}
use Rattle.sk_entry.specs.Named.{element_named}
use Rattle.sk_entry.specs.PinCodes.{lacks_name}
use Rattle.sk_entry.specs.PinLines.{PinWords, pins_in, some_two}
use Rattle.sk_lang.specs.Renumbered.{place_of, pin_renumbered}
use Rattle.sk_lang.proofs.Again.{code_by_words, progress_by_words, coordinate_back, flat_not}
use Rattle.sk_lines.proofs.Finding.{different_bytes}
use Rattle.sk_entry.proofs.Passing.{Passes, passes_to}
use Rattle.sk_entry.proofs.PinTests.{in_threes, places_length, tested}
use Rattle.sk_lang.proofs.RulesAgain.{rules_so_far, among, labels_apart, again_named, ruled, room_left, IsRuleAgain}
use Rattle.sk_lines.proofs.SolidLines.{IsLineOf, literal, name_spelled, fitting_line}
use Rattle.sk_lang.proofs.Written.{AreWritten, mm_written, magnitude_within, written_solid}

-- a pin's words as they are written
abbrev pin_written : Sketch → Pin → PinWords
pin_written s pin = record { name = name_of s pin.elem; x = mm_text pin.x.0; y = mm_text pin.y.0 }

pins_back : (s : Sketch) (pins : List Pin) → pins_in (flat_map (pin_words s) pins) ≡ map (pin_written s) pins
pins_back s [] = refl
pins_back s (pin ∷ pins) = ap (λ (ps : List PinWords). pin_written s pin ∷ ps) (pins_back s pins)

words_length : (s : Sketch) (pins : List Pin) → length (flat_map (pin_words s) pins) ≡ 3 * length pins
words_length s [] = refl
words_length s (pin ∷ pins) = let rest = words_length s pins in omega (arith, rest)

-- ---- one pin

record IsKept (s : Sketch) (pin : Pin) : Type 0 where
  element : Element
  is : element_of s pin.elem ≡ Some element
  name : IsTrue (is_name element.label)
  kind : is_line element.shape ≡ false
  x : mm_of (mm_text pin.x.0) ≡ Some pin.x.0
  y : mm_of (mm_text pin.y.0) ≡ Some pin.y.0

no_line : (shape : Shape) → HasCentre shape → is_line shape ≡ false
no_line (Point x y) centre = refl
no_line (Line x1 y1 x2 y2) centre = absurd centre
no_line (Circle x y r) centre = refl

kept_by : (s : Sketch) (pin : Pin) (o : Option Element) → IsSoundSketch s → element_of s pin.elem ≡ o → IsCentred (option_map (λ (x : Element). x.shape) o) → IsOnSheet pin → IsKept s pin
kept_by s pin None sound is centred sheet = absurd centred
kept_by s pin (Some e) sound is centred sheet = record {
  element = e;
  is = is;
  name = All-contains (λ (x : Element). IsTrue (is_name x.label)) s.elements e sound.labels_are_names (among s pin.elem e is);
  kind = no_line e.shape centred;
  x = coordinate_back pin.x sheet.0;
  y = coordinate_back pin.y sheet.1;
}

name_is : (s : Sketch) (pin : Pin) (k : IsKept s pin) → name_of s pin.elem ≡ k.element.label
name_is s pin k = rw k.is refl

found : (s : Sketch) (done : List Constraint) (pin : Pin) (k : IsKept s pin) → IsSoundSketch s → element_named (rules_so_far s done) (name_of s pin.elem) ≡ Some (let again : Element = record k.element { number = place_of s pin.elem } in again)
found s done pin k sound = ap (element_named (rules_so_far s done)) (name_is s pin k) ∙ again_named s done pin.elem k.element sound k.is

pin_back : (s : Sketch) (done : List Constraint) (pin : Pin) (k : IsKept s pin) → IsSoundSketch s → pin_asked (rules_so_far s done) (pin_written s pin) ≡ pin_renumbered s pin
pin_back s done pin k sound = rw (found s done pin k sound, k.x, k.y) refl

-- ---- all pins

module _ (s : Sketch) (done : List Constraint) (sound : IsSoundSketch s) where
  pins_written : (pins : List Pin) → ((pin : Pin) → Contains pins pin → IsKept s pin) → ((pin : Pin) → Contains pins pin → IsOnSheet pin) → AreWritten (flat_map (pin_words s) pins)
  pins_written [] kept sheet = tt
  pins_written (pin ∷ pins) kept sheet =
      let k = kept pin (contains_head pin pins) in
      let on = sheet pin (contains_head pin pins) in
      let rest = pins_written pins (λ p there. kept p (contains_later pin pins p there)) (λ p there. sheet p (contains_later pin pins p there)) in
      (rw (name_is s pin k) (name_spelled k.element.label k.name), (mm_written pin.x.0 (magnitude_within 1000000000 pin.x.0 on.0), (mm_written pin.y.0 (magnitude_within 1000000000 pin.y.0 on.1), rest)))

  none_mapped : (test : PinWords → Bool) (pins : List Pin) → ((pin : Pin) → Contains pins pin → test (pin_written s pin) ≡ false) → list_any test (map (pin_written s) pins) ≡ false
  none_mapped test [] fails = refl
  none_mapped test (pin ∷ pins) fails = rw (fails pin (contains_head pin pins)) (none_mapped test pins (λ p there. fails p (contains_later pin pins p there)))

  no_two : (test : PinWords → PinWords → Bool) (R : Pin → Pin → Type 0) (pins : List Pin) → AllPairs R pins → ((a b : Pin) → Contains pins a → Contains pins b → R a b → test (pin_written s a) (pin_written s b) ≡ false) → some_two test (map (pin_written s) pins) ≡ false
  no_two test R [] pairs fails = refl
  no_two test R (pin ∷ pins) pairs fails =
      let here = none_mapped (test (pin_written s pin)) pins (λ p there. fails pin p (contains_head pin pins) (contains_later pin pins p there) (pairs_head R pin pins pairs p there)) in
      rw here (no_two test R pins (pairs_tail R pin pins pairs) (λ a b left right. fails a b (contains_later pin pins a left) (contains_later pin pins b right)))

  all_back : (pins : List Pin) → ((pin : Pin) → Contains pins pin → IsKept s pin) → map (pin_asked (rules_so_far s done)) (map (pin_written s) pins) ≡ map (pin_renumbered s) pins
  all_back [] kept = refl
  all_back (pin ∷ pins) kept =
      rw (pin_back s done pin (kept pin (contains_head pin pins)) sound, all_back pins (λ p there. kept p (contains_later pin pins p there))) refl

  apart : (a b : Pin) (j : IsKept s a) (k : IsKept s b) → ¬ ((a.x ≡ b.x) × (a.y ≡ b.y)) → at_one_place (pin_written s a) (pin_written s b) ≡ false
  apart a b j k other = rw (j.x, j.y, k.x, k.y) (flat_not a.x a.y b.x b.y other)

  named_apart : (a b : Pin) (j : IsKept s a) (k : IsKept s b) → a.elem ≢ b.elem → of_one_name (pin_written s a) (pin_written s b) ≡ false
  named_apart a b j k other =
      rw (name_is s a j, name_is s b k) (different_bytes j.element.label k.element.label (labels_apart s a.elem b.elem j.element k.element sound other j.is k.is))

  count_back : (pins : List Pin) → 2 ≤ length pins → length pins ≤ 16 → (let rest = flat_map (pin_words s) pins in not (nat_eq (length rest) (length (places Block (length rest)))) ≡ false)
  count_back pins more less =
      let rest = flat_map (pin_words s) pins in
      let size = words_length s pins in
      let count : pin_count (length rest) ≡ length pins = omega (arith, size) in
      let same = places_length (pin_count (length rest)) in
      let equal : length rest ≡ length (pin_places (pin_count (length rest))) = omega (arith, size, count, same) in grind (arith, nat_tests)

  passes_back : (pins : List Pin) → IsSoundBlock s pins → ((pin : Pin) → Contains pins pin → IsKept s pin) → length done < 4000 → Passes (rules_so_far s done) Block (flat_map (pin_words s) pins)
  passes_back pins block kept few =
      let so_far = rules_so_far s done in
      let rest = flat_map (pin_words s) pins in
      let count = count_back pins block.sound.at_least block.sound.at_most in
      let t = tested so_far rest (in_threes rest count) in
      let back = pins_back s pins in
      record {
        radius = refl;
        count = count;
        names = t.names ∙ ap (list_any lacks_name) back ∙ none_mapped lacks_name pins (λ pin there. let k = kept pin there in rw (name_is s pin k, k.name) refl);
        free = t.free;
        known = t.known ∙ ap (list_any (λ (pin : PinWords). is_none (element_named so_far pin.name))) back ∙ none_mapped (λ (pin : PinWords). is_none (element_named so_far pin.name)) pins (λ pin there. rw (found s done pin (kept pin there) sound) refl);
        kinds = ap (list_any (λ (pin : PinWords). is_drawn_line (element_named so_far pin.name))) back ∙ none_mapped (λ (pin : PinWords). is_drawn_line (element_named so_far pin.name)) pins (λ pin there. rw (found s done pin (kept pin there) sound) (kept pin there).kind);
        numbers = t.numbers ∙ ap (list_any (λ (pin : PinWords). is_none (mm_of pin.x) || is_none (mm_of pin.y))) back ∙ none_mapped (λ (pin : PinWords). is_none (mm_of pin.x) || is_none (mm_of pin.y)) pins (λ pin there. let k = kept pin there in rw (k.x, k.y) refl);
        zeros = rw t.zeros (ap (some_two at_one_place) back ∙ no_two at_one_place (λ (a b : Pin). ¬ ((a.x ≡ b.x) × (a.y ≡ b.y))) pins block.sound.places_differ (λ a b left right other. apart a b (kept a left) (kept b right) other));
        same = ap (some_two of_one_name) back ∙ no_two of_one_name (λ (a b : Pin). a.elem ≢ b.elem) pins block.sound.elements_differ (λ a b left right other. named_apart a b (kept a left) (kept b right) other);
        flat = refl;
        elements = refl;
        constraints = room_left s done few;
      }

pub block_again : (s : Sketch) (done : List Constraint) (number : ConId) (pins : List Pin) → IsSoundSketch s → IsSoundBlock s pins → length done < 4000 → IsRuleAgain Two s done number (rule.Block pins) (block_words s pins)
block_again s done number [] sound block few = absurd (let more = block.sound.at_least in omega arith)
block_again s done number (pin ∷ pins) sound block few =
    let all = pin ∷ pins in
    let so_far = rules_so_far s done in
    let rest = flat_map (pin_words s) all in
    let sheet : (p : Pin) → Contains all p → IsOnSheet p = λ p there. All-contains IsOnSheet all p block.sound.on_sheet there in
    let kept : (p : Pin) → Contains all p → IsKept s p = λ p there. kept_by s p (element_of s p.elem) sound refl (All-contains (λ (q : Pin). IsCentred (option_map (λ (x : Element). x.shape) (element_of s q.elem))) all p block.centred there) (sheet p there) in
    let w : IsLineOf (spaced (codes "block" ∷ rest)) (codes "block" ∷ rest) = fitting_line (codes "block") rest (written_solid (codes "block" ∷ rest) (literal (codes "block") 16 (omega arith) (omega arith) refl, pins_written s done sound all kept sheet)) block.fits in
    let passes = passes_back s done sound all block kept few in
    let read : rule.Block (map (pin_asked so_far) (pins_in rest)) ≡ rule.Block (map (pin_renumbered s) all) =
    ap (λ (ps : List PinWords). rule.Block (map (pin_asked so_far) ps)) (pins_back s all) ∙ ap (λ (ps : List Pin). rule.Block ps) (all_back s done sound all kept) in
    (w, code_by_words Two so_far (spaced (codes "block" ∷ rest)) (codes "block") rest Block w refl (passes_to so_far Block rest passes), progress_by_words Two so_far (spaced (codes "block" ∷ rest)) (codes "block") rest Block w refl ∙ ruled Two s done number (rule.Block all) (rule.Block (map (pin_asked so_far) (pins_in rest))) read)
