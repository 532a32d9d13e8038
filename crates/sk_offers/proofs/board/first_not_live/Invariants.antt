use Rattle.std.specs.Prelude.{All, take}
use Rattle.sk_family.specs.Clusters.{IsLive}
use Rattle.sk_offers.proofs.board.first_not_live.Given as goal

abbrev pub invariant-loop-name : goal.invariant-loop-name
invariant-loop-name l = All (λ m. IsLive l.family m) (take l.name-index l.names)
