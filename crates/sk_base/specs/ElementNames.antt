-- The names of elements in texts.
use Rattle.std.specs.Prelude.{ℕ, List, [], ◌∷◌, unwrap_or}
use Rattle.std.specs.List.{flat_map}
use Rattle.std.specs.Option.{option_map}
use Rattle.sk_base.specs.declared.numbered.Elem.{Elem}
use Rattle.sk_base.specs.declared.sketch.Element.{Element}
use Rattle.sk_base.specs.declared.sketch.Sketch.{Sketch}
use Rattle.sk_base.specs.Drawn.{element_of}

-- the name of the element that has the number
abbrev pub name_of : Sketch → Elem → List ℕ
name_of s number = unwrap_or (option_map (λ (element : Element). element.label) (element_of s number)) []

-- the names, each with a space before it
abbrev pub names_of : Sketch → List Elem → List ℕ
names_of s elements = flat_map (λ e. 32 ∷ name_of s e) elements
