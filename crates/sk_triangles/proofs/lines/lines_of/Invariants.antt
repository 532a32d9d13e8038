use Rattle.std.proofs.Common.{◌≡◌, take}
use Rattle.std.specs.Prelude.{slice_get, Some, true, ◌↔◌, Contains}
use Rattle.sk_base.specs.declared.Elem.{Elem}
use Rattle.sk_base.specs.declared.Kind.TheVariants.{Line}
use Rattle.sk_triangles.proofs.lines.lines_of.Given as goal

abbrev pub invariant-loop-node : goal.invariant-loop-node
invariant-loop-node l = (e : Elem) → (slice_get l.lines.items e.0 ≡ Some true) ↔ Contains (take l.node-index l.nodes) (record { elem = e; kind = Line })
