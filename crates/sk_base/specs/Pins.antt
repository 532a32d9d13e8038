-- The pins of a rigid block.
use Rattle.std.specs.Prelude.{◌≡◌, ◌≢◌, ◌≤◌, ℕ, List, [], ◌∷◌, length, map, codes, All, AllPairs}
use Rattle.std.specs.List.{flat_map}
use Rattle.sk_base.specs.declared.numbered.Elem.{Elem}
use Rattle.sk_base.specs.declared.sketch.Pin.{Pin}
use Rattle.sk_base.specs.declared.sketch.Sketch.{Sketch}
use Rattle.sk_base.specs.Bounds.{IsCoordinate}
use Rattle.sk_base.specs.ElementNames.{name_of}
use Rattle.sk_base.specs.Spelling.{mm_text}

-- the elements at the pins, in their order
abbrev pub elements_of : List Pin → List Elem
elements_of pins = map (λ (pin : Pin). pin.elem) pins

-- a pin's element by its name, and its place
abbrev pub pin_words : Sketch → Pin → List (List ℕ)
pin_words s pin = name_of s pin.elem ∷ mm_text pin.x.0 ∷ mm_text pin.y.0 ∷ []

-- the words of a block's line
abbrev pub block_words : Sketch → List Pin → List (List ℕ)
block_words s pins = codes "block" ∷ flat_map (pin_words s) pins

-- both coordinates are within bounds
abbrev pub IsOnSheet : Pin → Type 0
IsOnSheet pin = IsCoordinate pin.x × IsCoordinate pin.y

-- two to sixteen pins of different elements at different places, within bounds
pub record AreSoundPins (pins : List Pin) : Type 0 where
  pub at_least : 2 ≤ length pins
  pub at_most : length pins ≤ 16
  pub elements_differ : AllPairs (λ (a b : Pin). a.elem ≢ b.elem) pins
  pub places_differ : AllPairs (λ (a b : Pin). ¬ ((a.x ≡ b.x) × (a.y ≡ b.y))) pins
  pub on_sheet : All IsOnSheet pins
