use Rattle.std.proofs.Common.{◌≤◌, ◌-◌, length, take}
use Rattle.sk_triangles.specs.Growing.{GrowsBy, FromSome}
use Rattle.sk_triangles.specs.Walk.{Found}
use Rattle.sk_triangles.proofs.walk.add_triangles.Given as goal

abbrev pub invariant-loop-done : goal.invariant-loop-done
invariant-loop-done g l = record {
  within : l.done ≤ length l.ends;
  grows : GrowsBy (FromSome (Found (g.V.Visitor.keeps l.visitor) l.lines l.counts l.ends) (take l.done l.ends)) l.fn.all l.all;
}

abbrev pub decreases-loop-done : goal.decreases-loop-done
decreases-loop-done g l = length l.ends - l.done
