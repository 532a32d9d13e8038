use Rattle.std.proofs.Common.{take}
use Rattle.std.specs.Prelude.{All}
use Rattle.sk_family.specs.Clusters.{IsLive}
use Rattle.sk_close_by_order.specs.Heirs.{IsFreshOn}
use Rattle.sk_close_by_order.proofs.heir.add_fresh_of_all.Given as goal

abbrev pub invariant-loop-name : goal.invariant-loop-name
invariant-loop-name l = record {
  live : All (λ n. IsLive l.family n) (take l.name-index l.names);
  on : IsFreshOn l.family (take l.name-index l.names) l.base.name l.fn.fresh l.fresh;
}
