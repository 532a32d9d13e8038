use Rattle.std.proofs.Common.{◌≡◌, [], take}
use Rattle.std.specs.Prelude.{AllPairs}
use Rattle.sk_base.specs.declared.Graph.{Graph}
use Rattle.sk_base.specs.declared.Name.{Name}
use Rattle.sk_base.specs.ClusterNames.{IsBelow}
use Rattle.sk_family.specs.Clusters.{bodies}
use Rattle.sk_triangles.specs.Growing.{GrowsBy, FromSome}
use Rattle.sk_close_by_angles.specs.Classes.{AreClasses}
use Rattle.sk_close_by_angles.specs.TieMerges.{IsTiedTo}
use Rattle.sk_close_by_angles.proofs.tie_merges.tied_among.Given as goal

abbrev pub invariant-loop-other : goal.invariant-loop-other
invariant-loop-other l = record {
  exactly : (g : Graph) → AreClasses g (bodies l.family) l.classes → GrowsBy (FromSome (λ (n m : Name). IsTiedTo g l.family l.cluster n × (m ≡ n)) (take l.other-index l.others)) [] l.tied.items;
  in_order : AllPairs IsBelow l.others → AllPairs IsBelow l.tied.items;
}
