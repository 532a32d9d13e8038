-- The codes of a block in their order, by what the words of its pins say.
use Rattle.std.specs.Prelude.{ℕ, Bool, ◌&&◌, ◌||◌, not, nat_le, List, [], ◌∷◌, length, map, Option, unwrap_or, is_none, ℤ, pos, bytes_eq}
use Rattle.std.specs.List.{list_any}
use Rattle.std.specs.Option.{option_map}
use Rattle.std.specs.Ordering.{int_eq}
use Rattle.sk_base.specs.declared.ConId.{ConId}
use Rattle.sk_base.specs.declared.Um.{Um}
use Rattle.sk_base.specs.declared.Pin.{Pin}
use Rattle.sk_base.specs.declared.Rule.TheVariants.{Block}
use Rattle.sk_base.specs.declared.Constraint.{Constraint}
use Rattle.sk_base.specs.declared.Sketch.{Sketch}
use Rattle.sk_base.specs.Labels.{is_name}
use Rattle.sk_base.specs.Millimetres.{mm_of}
use Rattle.sk_entry.specs.declared.block.PinSaid.{PinSaid}
use Rattle.sk_lines.specs.declared.Code.{Code}
use Rattle.sk_lines.specs.declared.Code.TheVariants.{E4, E6, E7, E8, E9, E10, E14}
use Rattle.sk_entry.specs.Conditions.{is_drawn_line}
use Rattle.sk_entry.specs.Named.{element_named, number_named}
use Rattle.sk_entry.specs.PinLines.{PinWords, some_two}

-- the coordinate that a word says
abbrev pub coordinate : List ℕ → Option Um
coordinate word = option_map (λ (z : ℤ). record { 0 = z }) (mm_of word)

-- what the words of a pin say
abbrev pub said_by : PinWords → PinSaid
said_by pin = record { name = pin.name; x = coordinate pin.x; y = coordinate pin.y }

abbrev pub lacks_name : PinWords → Bool
lacks_name pin = not (is_name pin.name)

abbrev pub lacks_element : Sketch → PinSaid → Bool
lacks_element s said = is_none (element_named s said.name)

abbrev pub names_line : Sketch → PinSaid → Bool
names_line s said = is_drawn_line (element_named s said.name)

abbrev pub lacks_place : PinSaid → Bool
lacks_place said = is_none said.x || is_none said.y

abbrev pub share_name : PinSaid → PinSaid → Bool
share_name a b = bytes_eq a.name b.name

abbrev pub share_place : Pin → Pin → Bool
share_place a b = int_eq a.x.0 b.x.0 && int_eq a.y.0 b.y.0

-- the pin that was said
abbrev pub pin_told : Sketch → PinSaid → Pin
pin_told s said = record { elem = number_named s said.name; x = unwrap_or said.x (record { 0 = pos 0 }); y = unwrap_or said.y (record { 0 = pos 0 }) }

abbrev pub said_rows : Sketch → List PinSaid → List (Bool × Code)
said_rows s said =
    (list_any (lacks_element s) said, E6) ∷
    (list_any (names_line s) said, E7) ∷
    (list_any lacks_place said, E8) ∷
    (some_two share_place (map (pin_told s) said), E9) ∷
    (some_two share_name said, E10) ∷
    (nat_le 4000 (length s.constraints), E14) ∷ []

abbrev pub pin_rows : Sketch → List PinWords → List (Bool × Code)
pin_rows s pins = (list_any lacks_name pins, E4) ∷ said_rows s (map said_by pins)

-- the block that was said
abbrev pub block_told : Sketch → ConId → List PinWords → Constraint
block_told s number pins = record { number = number; rule = Block (map (pin_told s) (map said_by pins)) }
