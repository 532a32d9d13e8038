-- The line of a rigid block, put down pin by pin, and sketches with one more element or constraint.
use Rattle.std.proofs.Common.{◌≡◌, ℕ, List, [], ◌∷◌, ◌++◌, Option, Some, None, refl, sym, ap, ◌∙◌, nat_eq, append_assoc, append-nil, codes}
use Rattle.std.specs.List.{flat_map, find}
use Rattle.std.specs.Option.{option_map, option_or}
use Rattle.std.proofs.lemmas.List.Folds.{find-append}
use Rattle.std.proofs.lemmas.List.Elements.{All-weaker}
use Rattle.sk_base.specs.declared.Elem.{Elem}
use Rattle.sk_base.specs.declared.Element.{Element}
use Rattle.sk_base.specs.declared.Constraint.{Constraint}
use Rattle.sk_base.specs.declared.Pin.{Pin}
use Rattle.sk_base.specs.declared.Sketch.{Sketch}
use Rattle.sk_base.specs.Drawn.{element_of, shape_of}
use Rattle.sk_base.specs.ElementNames.{name_of}
use Rattle.sk_base.specs.Pins.{pin_words, block_words}
use Rattle.sk_base.specs.SoundSketch.{IsCentred, IsSoundBlock}
use Rattle.sk_base.specs.Spelling.{mm_text, spaced}
use Rattle.sk_base.proofs.Blocks.{block_kept}
use Rattle.sk_entry.specs.Growth.{with_element, with_constraint}

-- a pin's name and place, each with a space before it
abbrev pub pin_text : Sketch → Pin → List ℕ
pin_text s pin = (32 ∷ name_of s pin.elem) ++ (32 ∷ mm_text pin.x.0) ++ (32 ∷ mm_text pin.y.0)

spaced_words : (word : List ℕ) (words : List (List ℕ)) → spaced (word ∷ words) ≡ word ++ flat_map (λ w. 32 ∷ w) words
spaced_words word [] = sym (append-nil word)
spaced_words word (next ∷ words) = ap (λ text. word ++ 32 ∷ text) (spaced_words next words)

regrouped : (a b c rest more : List ℕ) → rest ≡ more → a ++ (b ++ (c ++ rest)) ≡ (a ++ b ++ c) ++ more
regrouped a b c rest more same = rw same (simp append_assoc)

spaced_pins : (s : Sketch) (pins : List Pin) → flat_map (λ w. 32 ∷ w) (flat_map (pin_words s) pins) ≡ flat_map (pin_text s) pins
spaced_pins s [] = refl
spaced_pins s (pin ∷ pins) = regrouped (32 ∷ name_of s pin.elem) (32 ∷ mm_text pin.x.0) (32 ∷ mm_text pin.y.0) _ _ (spaced_pins s pins)

pub block_line : (s : Sketch) (pins : List Pin) → spaced (block_words s pins) ≡ codes "block" ++ flat_map (pin_text s) pins
block_line s pins = spaced_words (codes "block") (flat_map (pin_words s) pins) ∙ ap (λ text. codes "block" ++ text) (spaced_pins s pins)

-- an element that is drawn stays where one more stands at the end
found_still : (s : Sketch) (e : Element) (u : Elem) → IsCentred (shape_of s u) → element_of (with_element s e) u ≡ element_of s u
found_still s e u centred = find-append (λ (x : Element). nat_eq x.number.0 u.0) s.elements (e ∷ []) ∙ first (element_of s u) centred
  where
    first : (o : Option Element) → IsCentred (option_map (λ (x : Element). x.shape) o) → option_or o (find (λ (x : Element). nat_eq x.number.0 u.0) (e ∷ [])) ≡ o
    first None centred = absurd centred
    first (Some x) centred = refl

pub block_still : (s : Sketch) (e : Element) (pins : List Pin) → IsSoundBlock s pins → IsSoundBlock (with_element s e) pins
block_still s e pins sound =
    let t : Sketch = with_element s e in
    block_kept s t pins (All-weaker (λ (pin : Pin). IsCentred (shape_of s pin.elem)) (λ (pin : Pin). element_of t pin.elem ≡ element_of s pin.elem) (λ pin. found_still s e pin.elem) pins sound.centred) sound

pub block_also : (s : Sketch) (c : Constraint) (pins : List Pin) → IsSoundBlock s pins → IsSoundBlock (with_constraint s c) pins
block_also s c pins sound = record { sound = sound.sound; centred = sound.centred; fits = sound.fits }
