use Rattle.std.proofs.Common.{◌≡◌, ◌<◌, List, take}
use Rattle.std.specs.Prelude.{Contains}
use Rattle.sk_base.specs.declared.Elem.{Elem}
use Rattle.sk_base.specs.declared.Graph.{Graph}
use Rattle.sk_family.specs.Body.{Body}
use Rattle.sk_close_by_angles.specs.Classes.{class_of, Coarsens, TellTies, IsClassOfOne}
use Rattle.sk_close_by_angles.proofs.classes.tie_to.Given as goal

abbrev pub invariant-loop-elem : goal.invariant-loop-elem
invariant-loop-elem l = record {
  coarsens : Coarsens l.fn.classes l.classes;
  joined : (e : Elem) → Contains (take l.elem-index l.elements) e → 0 < class_of l.classes e → class_of l.classes e ≡ l.to;
  one : IsClassOfOne l.fn.classes l.elements l.to → IsClassOfOne l.classes l.elements l.to;
  tell : (g : Graph) (f : List Body) (x : Body) → Contains f x → x.elements ≡ l.elements → IsClassOfOne l.fn.classes l.elements l.to → TellTies g f l.fn.classes → TellTies g f l.classes;
}
