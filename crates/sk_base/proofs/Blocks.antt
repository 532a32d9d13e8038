-- A rigid block stays sound where its elements stay.
use Rattle.std.proofs.Common.{◌≡◌, List, [], ◌∷◌, Option, refl, sym, subst}
use Rattle.std.specs.Prelude.{All}
use Rattle.std.specs.List.{flat_map}
use Rattle.std.specs.Option.{option_map}
use Rattle.std.proofs.lemmas.List.Elements.{All-head, All-tail}
use Rattle.sk_base.specs.declared.sketch.Element.{Element}
use Rattle.sk_base.specs.declared.sketch.Pin.{Pin}
use Rattle.sk_base.specs.declared.sketch.Sketch.{Sketch}
use Rattle.sk_base.specs.Drawn.{element_of, shape_of}
use Rattle.sk_base.specs.ElementNames.{name_of}
use Rattle.sk_base.specs.Pins.{pin_words}
use Rattle.sk_base.specs.SoundSketch.{IsCentred, IsSoundBlock}

-- each pin's element is the same in the two sketches
abbrev pub AreKept : Sketch → Sketch → List Pin → Type 0
AreKept s t pins = All (λ (pin : Pin). element_of t pin.elem ≡ element_of s pin.elem) pins

words_kept : (s t : Sketch) (pins : List Pin) → AreKept s t pins → flat_map (pin_words t) pins ≡ flat_map (pin_words s) pins
words_kept s t [] kept = refl
words_kept s t (pin ∷ pins) kept =
    let here = All-head (λ (pin : Pin). element_of t pin.elem ≡ element_of s pin.elem) pin pins kept in
    let name : name_of t pin.elem ≡ name_of s pin.elem = rw here refl in
    let rest = words_kept s t pins (All-tail (λ (pin : Pin). element_of t pin.elem ≡ element_of s pin.elem) pin pins kept) in
    rw (name, rest) refl

centred_kept : (s t : Sketch) (pins : List Pin) → AreKept s t pins → All (λ (pin : Pin). IsCentred (shape_of s pin.elem)) pins → All (λ (pin : Pin). IsCentred (shape_of t pin.elem)) pins
centred_kept s t pins kept centred k d below = subst (λ (o : Option Element). IsCentred (option_map (λ (x : Element). x.shape) o)) (sym (kept k d below)) (centred k d below)

pub block_kept : (s t : Sketch) (pins : List Pin) → AreKept s t pins → IsSoundBlock s pins → IsSoundBlock t pins
block_kept s t pins kept sound = record {
  sound = sound.sound;
  centred = centred_kept s t pins kept sound.centred;
  fits = rw (words_kept s t pins kept) sound.fits;
}
