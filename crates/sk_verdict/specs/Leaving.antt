-- Which elements stay without a mark.
use Rattle.std.specs.Prelude.{◌↔◌, Bool, List}
use Rattle.sk_base.specs.declared.Elem.{Elem}
use Rattle.sk_triangles.specs.Marks.{IsMarked}

-- of those that had none, just the ones of that kind still have none
abbrev pub LeavesOut : (Elem → Type 0) → List Bool → List Bool → Type 0
LeavesOut kind old new = (e : Elem) → (¬ IsMarked new e) ↔ ((¬ IsMarked old e) × kind e)
