-- The sketch without the constraints that are left out.
use Rattle.std.specs.Prelude.{List, filter}
use Rattle.sk_base.specs.declared.ConId.{ConId}
use Rattle.sk_base.specs.declared.Constraint.{Constraint}
use Rattle.sk_base.specs.declared.Sketch.{Sketch}
use Rattle.sk_excess.specs.LeftOut.{is_kept}

-- all elements and the other constraints, as they are in the sketch
abbrev pub kept_sketch : List ConId → Sketch → Sketch
kept_sketch left s = record {
  elements = s.elements;
  constraints = filter (λ (c : Constraint). is_kept left c.number) s.constraints;
}
