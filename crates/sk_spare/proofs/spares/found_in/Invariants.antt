use Rattle.std.proofs.Common.{take}
use Rattle.std.specs.Prelude.{Contains, ◌↔◌}
use Rattle.sk_base.specs.declared.ConId.{ConId}
use Rattle.sk_spare.specs.Sparing.{IsSpare}
use Rattle.sk_spare.proofs.Deciding.{IsOwnedBy}
use Rattle.sk_spare.proofs.spares.found_in.Given as goal

-- the spare ones that the clusters so far own
abbrev pub invariant-loop-cluster : goal.invariant-loop-cluster
invariant-loop-cluster l = (k : ConId) → Contains l.found k ↔ (IsOwnedBy (take l.cluster-index l.cluster-items) k × IsSpare l.graph k)
