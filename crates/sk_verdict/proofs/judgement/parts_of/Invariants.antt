use Rattle.std.proofs.Common.{take}
use Rattle.sk_verdict.specs.Building.{AreOfClusters}
use Rattle.sk_verdict.proofs.judgement.parts_of.Given as goal

-- the parts of the clusters so far
abbrev pub invariant-loop-cluster : goal.invariant-loop-cluster
invariant-loop-cluster l = AreOfClusters l.graph (take l.cluster-index l.clusters) l.parts
