use Rattle.std.proofs.Common.{sym, subst}
use Rattle.std.specs.Prelude.{All, IfNone}
use Rattle.sk_family.specs.Clusters.{IsLive}
use Rattle.sk_family.specs.declared.Merge.{Merge}
use Rattle.sk_family.specs.Merges.{names_of}
use Rattle.sk_offers.proofs.board.first_stale.Goals as goal

pub returns-in-Two-clause-none : goal.returns-in-Two-clause-none
returns-in-Two-clause-none c =
    subst (λ (m : Merge). IfNone c.first_not_live.result (All (λ n. IsLive c.args.family.now n) (names_of m))) (sym c.in-Two.is) c.first_not_live.ensures.none

pub returns-in-Three-clause-none : goal.returns-in-Three-clause-none
returns-in-Three-clause-none c =
    subst (λ (m : Merge). IfNone c.first_not_live-in-Three.result (All (λ n. IsLive c.args.family.now n) (names_of m))) (sym c.in-Three.is) c.first_not_live-in-Three.ensures.none
