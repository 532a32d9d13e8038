use Rattle.std.proofs.Common.{◌≡◌, ◌++◌, take}
use Rattle.std.specs.List.{flat_map}
use Rattle.sk_dxf.specs.Entities.{entity}
use Rattle.sk_dxf.proofs.drawing.put_entities.Given as goal

abbrev pub invariant-loop-element : goal.invariant-loop-element
invariant-loop-element l = l.text ≡ l.fn.text ++ flat_map (entity l.s l.at) (take l.element-index l.elements)
