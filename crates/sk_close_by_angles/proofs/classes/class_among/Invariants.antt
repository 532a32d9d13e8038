use Rattle.std.proofs.Common.{◌≡◌, take}
use Rattle.std.specs.Prelude.{Contains}
use Rattle.sk_base.specs.declared.Elem.{Elem}
use Rattle.sk_close_by_angles.specs.Classes.{class_of}
use Rattle.sk_close_by_angles.proofs.classes.class_among.Given as goal

abbrev pub invariant-loop-elem : goal.invariant-loop-elem
invariant-loop-elem l = (e : Elem) → Contains (take l.elem-index l.elements) e → class_of l.classes e ≡ 0
