use Rattle.std.proofs.Common.{◌≡◌, take}
use Rattle.std.specs.Prelude.{◌↔◌, ◌⊎◌, Contains}
use Rattle.sk_base.specs.declared.Elem.{Elem}
use Rattle.sk_triangles.specs.Marks.{IsMarked}
use Rattle.sk_close_any_order.proofs.growth.Growth.add_all.Given as goal

abbrev pub invariant-loop-elem : goal.invariant-loop-elem
invariant-loop-elem l = record {
  names : l.self.names ≡ l.fn.self.names;
  marks : (e : Elem) → IsMarked l.self.marks.items e ↔ (IsMarked l.fn.self.marks.items e ⊎ Contains (take l.elem-index l.elements) e);
}
