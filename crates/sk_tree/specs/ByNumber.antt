-- Three elements by rising number.
use Rattle.std.specs.Prelude.{List, []}
use Rattle.sk_base.specs.declared.Elem.{Elem}
use Rattle.sk_base.specs.Numbering.{elem_number}
use Rattle.sk_base.specs.Rising.{put}

abbrev pub by_number : Elem → Elem → Elem → List Elem
by_number a b c = put elem_number a (put elem_number b (put elem_number c []))
