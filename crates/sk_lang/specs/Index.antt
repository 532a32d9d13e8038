-- Names that are looked up by hash.
use Rattle.std.specs.Prelude.{List, map}
use Rattle.sk_base.specs.declared.Element.{Element}
use Rattle.sk_base.specs.declared.Sketch.{Sketch}
use Rattle.sk_lang.specs.declared.draft.Key.{Key}

-- the key of an element's name
abbrev pub key_of : Element → Key
key_of element = record { 0 = element.label }

-- the names of all elements, in their order
abbrev pub keys_of : Sketch → List Key
keys_of s = map key_of s.elements
