-- What a constraint of a sound graph measures is within its limits.
use Rattle.std.proofs.Common.{◌≡◌, ℕ, Some}
use Rattle.std.specs.Prelude.{◌==◌}
use Rattle.sk_base.specs.declared.Edge.{Edge}
use Rattle.sk_base.specs.declared.Elem.{Elem}
use Rattle.sk_base.specs.declared.Graph.{Graph}
use Rattle.sk_base.specs.declared.Measure.{Measure}
use Rattle.sk_base.specs.declared.Measure.TheVariants.{PointPoint, PointLine, LineLine}
use Rattle.sk_base.specs.Lookups.{edge_numbered}
use Rattle.sk_base.specs.SoundGraph.{IsSoundGraph, Measures}
use Rattle.sk_base.proofs.Finding.{found_in}
use Rattle.sk_steps.specs.Leaves.{IsSoundMeasure}

measured : (g : Graph) (u v : Elem) (m : Measure) → Measures g u v m → IsSoundMeasure m
measured g u v (PointPoint far) h = h.2
measured g u v (PointLine far side) h = h.2
measured g u v (LineLine ratio sense) h = h.2

pub edge_measured : (g : Graph) → IsSoundGraph g → (k : ℕ) (e : Edge) → edge_numbered g k ≡ Some e → IsSoundMeasure e.measure
edge_measured g sound k e is = measured g e.u e.v e.measure (sound.edges_measure e (found_in (λ (x : Edge). x.id.0 == k) g.edges e is).0)
