-- Elements by their names.
use Rattle.std.specs.Prelude.{ℕ, List, Option, unwrap_or, bytes_eq}
use Rattle.std.specs.List.{find}
use Rattle.std.specs.Option.{option_map}
use Rattle.sk_base.specs.declared.Elem.{Elem}
use Rattle.sk_base.specs.declared.Element.{Element}
use Rattle.sk_base.specs.declared.Sketch.{Sketch}

-- the element of the sketch that has the name
abbrev pub element_named : Sketch → List ℕ → Option Element
element_named s name = find (λ (element : Element). bytes_eq name element.label) s.elements

-- its number
abbrev pub number_named : Sketch → List ℕ → Elem
number_named s name = unwrap_or (option_map (λ (element : Element). element.number) (element_named s name)) (record { 0 = 0 })
