-- The tests of a block's line, by its pins.
use Rattle.std.proofs.Common.{◌≡◌, ℕ, zero, suc, ◌*◌, Bool, true, false, not, ◌||◌, nat_eq, List, [], ◌∷◌, length, map, Option, Some, None, is_none, unwrap_or, refl, ap, ◌∙◌, arith, ℤ, pos}
use Rattle.std.specs.List.{list_any, zip}
use Rattle.std.specs.Option.{option_map}
use Rattle.std.proofs.lemmas.Bool.Decides.{nat_tests}
use Rattle.sk_base.specs.declared.ConId.{ConId}
use Rattle.sk_base.specs.declared.Um.{Um}
use Rattle.sk_base.specs.declared.Pin.{Pin}
use Rattle.sk_base.specs.declared.Rule.TheVariants as rule
use Rattle.sk_base.specs.declared.Constraint.{Constraint}
use Rattle.sk_base.specs.declared.Sketch.{Sketch}
use Rattle.sk_base.specs.Millimetres.{mm_of}
use Rattle.sk_lines.specs.declared.Keyword.TheVariants.{Block}
use Rattle.sk_entry.specs.EntryCodes.{entry_rows}
use Rattle.sk_entry.specs.Conditions.{Field, has_bad_name, is_taken, is_unknown, is_bad_number, is_zero_number, is_drawn_line, at_one_place, of_one_name}
use Rattle.sk_lines.specs.FirstCode.{first_code}
use Rattle.sk_lines.specs.Keywords.{UsedName, Coordinate, pin_places, pin_count, places}
use Rattle.sk_entry.specs.Meaning.{pin_asked}
use Rattle.sk_entry.specs.Named.{element_named}
use Rattle.sk_entry.specs.PinCodes.{said_by, lacks_name, lacks_element, names_line, lacks_place, share_name, share_place, pin_told, pin_rows, block_told}
use Rattle.sk_entry.specs.PinLines.{PinWords, pins_in, some_two}

pub any_map : {X Y : Type 0} (test : Y → Bool) (f : X → Y) (xs : List X) → list_any test (map f xs) ≡ list_any (λ x. test (f x)) xs
any_map test f [] = refl
any_map test f (x ∷ xs) = ap (λ (t : Bool). test (f x) || t) (any_map test f xs)

any_same : {X : Type 0} (test other : X → Bool) (xs : List X) → ((x : X) → test x ≡ other x) → list_any test xs ≡ list_any other xs
any_same test other [] same = refl
any_same test other (x ∷ xs) same = rw (same x, any_same test other xs same) refl

never : {X : Type 0} (xs : List X) → list_any (λ (x : X). false) xs ≡ false
never [] = refl
never (x ∷ xs) = never xs

pub two_map : {X Y : Type 0} (test : Y → Y → Bool) (f : X → Y) (xs : List X) → some_two test (map f xs) ≡ some_two (λ a b. test (f a) (f b)) xs
two_map test f [] = refl
two_map test f (x ∷ xs) = rw (any_map (test (f x)) f xs, two_map test f xs) refl

or_none : (a : Bool) → (a || (false || false)) ≡ a
or_none true = refl
or_none false = refl

regrouped : (a b c d : Bool) → (a || (b || (c || d))) ≡ ((a || (b || c)) || d)
regrouped true b c d = refl
regrouped false true c d = refl
regrouped false false c d = refl

pub places_length : (n : ℕ) → length (pin_places n) ≡ 3 * n
places_length zero = refl
places_length (suc n) = let rest = places_length n in omega (arith, rest)

pub pins_length : (n : ℕ) (rest : List (List ℕ)) → length rest ≡ 3 * n → length (pins_in rest) ≡ n
pins_length zero [] count = refl
pins_length zero (a ∷ rest) count = absurd (omega arith)
pins_length (suc n) [] count = absurd (omega arith)
pins_length (suc n) (a ∷ []) count = absurd (omega arith)
pins_length (suc n) (a ∷ b ∷ []) count = absurd (omega arith)
pins_length (suc n) (a ∷ b ∷ c ∷ rest) count = let more = pins_length n rest (omega arith) in omega (arith, more)

-- a test of all words, each in its place, by pins
any_fields : (test : Field → Bool) (n : ℕ) (rest : List (List ℕ)) → length rest ≡ 3 * n → list_any test (zip (pin_places n) rest) ≡ list_any (λ (pin : PinWords). test (UsedName, pin.name) || (test (Coordinate, pin.x) || test (Coordinate, pin.y))) (pins_in rest)
any_fields test zero [] count = refl
any_fields test zero (a ∷ rest) count = absurd (omega arith)
any_fields test (suc n) [] count = absurd (omega arith)
any_fields test (suc n) (a ∷ []) count = absurd (omega arith)
any_fields test (suc n) (a ∷ b ∷ []) count = absurd (omega arith)
any_fields test (suc n) (a ∷ b ∷ c ∷ rest) count =
    rw (any_fields test n rest (omega arith)) (regrouped (test (UsedName, a)) (test (Coordinate, b)) (test (Coordinate, c)) _)

-- the words make three a pin
pub in_threes : (rest : List (List ℕ)) → not (nat_eq (length rest) (length (places Block (length rest)))) ≡ false → length rest ≡ 3 * pin_count (length rest)
in_threes rest count =
    let places = places_length (pin_count (length rest)) in
    let same : length rest ≡ length (pin_places (pin_count (length rest))) = grind (arith, nat_tests) in same ∙ places

is_told : (o : Option ℤ) → is_none (option_map (λ (z : ℤ). let um : Um = record { 0 = z } in um) o) ≡ is_none o
is_told None = refl
is_told (Some z) = refl

um_told : (o : Option ℤ) → unwrap_or (option_map (λ (z : ℤ). let um : Um = record { 0 = z } in um) o) (record { 0 = pos 0 }) ≡ record { 0 = unwrap_or o (pos 0) }
um_told None = refl
um_told (Some z) = refl

pub pin_same : (s : Sketch) (pin : PinWords) → pin_told s (said_by pin) ≡ pin_asked s pin
pin_same s pin = rw (um_told (mm_of pin.x), um_told (mm_of pin.y)) refl

pub pins_same : (s : Sketch) (pins : List PinWords) → map (pin_told s) (map said_by pins) ≡ map (pin_asked s) pins
pins_same s [] = refl
pins_same s (pin ∷ pins) = rw (pin_same s pin, pins_same s pins) refl

pub block_same : (s : Sketch) (number : ConId) (pins : List PinWords) → block_told s number pins ≡ (let block : Constraint = record { number = number; rule = rule.Block (map (pin_asked s) pins) } in block)
block_same s number pins = ap (λ (ps : List Pin). let block : Constraint = record { number = number; rule = rule.Block ps } in block) (pins_same s pins)

-- each test of the table is one of the pins
pub record AreTested (s : Sketch) (rest : List (List ℕ)) : Type 0 where
  pub names : list_any has_bad_name (zip (places Block (length rest)) rest) ≡ list_any lacks_name (pins_in rest)
  pub free : list_any (is_taken s) (zip (places Block (length rest)) rest) ≡ false
  pub known : list_any (is_unknown s) (zip (places Block (length rest)) rest) ≡ list_any (λ (pin : PinWords). is_none (element_named s pin.name)) (pins_in rest)
  pub numbers : list_any is_bad_number (zip (places Block (length rest)) rest) ≡ list_any (λ (pin : PinWords). is_none (mm_of pin.x) || is_none (mm_of pin.y)) (pins_in rest)
  pub zeros : list_any is_zero_number (zip (places Block (length rest)) rest) ≡ false

pub tested : (s : Sketch) (rest : List (List ℕ)) → length rest ≡ 3 * pin_count (length rest) → AreTested s rest
tested s rest count =
    let n = pin_count (length rest) in
    record {
      names = any_fields has_bad_name n rest count ∙ any_same _ lacks_name (pins_in rest) (λ pin. or_none (lacks_name pin));
      free = any_fields (is_taken s) n rest count ∙ never (pins_in rest);
      known = any_fields (is_unknown s) n rest count ∙ any_same _ (λ (pin : PinWords). is_none (element_named s pin.name)) (pins_in rest) (λ pin. or_none (is_none (element_named s pin.name)));
      numbers = any_fields is_bad_number n rest count;
      zeros = any_fields is_zero_number n rest count ∙ never (pins_in rest);
    }

lacks_same : (pin : PinWords) → lacks_place (said_by pin) ≡ (is_none (mm_of pin.x) || is_none (mm_of pin.y))
lacks_same pin = rw (is_told (mm_of pin.x), is_told (mm_of pin.y)) refl

-- the first code of a block's line is that of its pins
pub pins_code : (s : Sketch) (rest : List (List ℕ)) → not (nat_eq (length rest) (length (places Block (length rest)))) ≡ false → first_code (entry_rows s Block rest) ≡ first_code (pin_rows s (pins_in rest))
pins_code s rest count =
    let pins = pins_in rest in
    let t = tested s rest (in_threes rest count) in
    let known : list_any (lacks_element s) (map said_by pins) ≡ list_any (λ (pin : PinWords). is_none (element_named s pin.name)) pins = any_map (lacks_element s) said_by pins in
    let kinds : list_any (names_line s) (map said_by pins) ≡ list_any (λ (pin : PinWords). is_drawn_line (element_named s pin.name)) pins = any_map (names_line s) said_by pins in
    let numbers : list_any lacks_place (map said_by pins) ≡ list_any (λ (pin : PinWords). is_none (mm_of pin.x) || is_none (mm_of pin.y)) pins = any_map lacks_place said_by pins ∙ any_same _ _ pins lacks_same in
    let at_places : some_two share_place (map (pin_told s) (map said_by pins)) ≡ some_two at_one_place pins = ap (some_two share_place) (pins_same s pins) ∙ two_map share_place (pin_asked s) pins in
    let of_names : some_two share_name (map said_by pins) ≡ some_two of_one_name pins = two_map share_name said_by pins in
    rw (count, t.names, t.free, t.known, t.numbers, t.zeros, known, kinds, numbers, at_places, of_names) refl
