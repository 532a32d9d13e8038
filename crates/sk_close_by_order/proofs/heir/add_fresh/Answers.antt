use Rattle.std.proofs.Common.{sym, subst}
use Rattle.std.specs.Prelude.{All}
use Rattle.sk_family.specs.Clusters.{IsLive}
use Rattle.sk_family.specs.declared.Merge.{Merge}
use Rattle.sk_family.specs.Merges.{names_of}
use Rattle.sk_close_by_order.proofs.heir.add_fresh.Goals as goal

pub returns-in-Two-clause-live : goal.returns-in-Two-clause-live
returns-in-Two-clause-live c is =
    subst (λ (m : Merge). All (λ n. IsLive c.args.family.now n) (names_of m)) (sym c.in-Two.is) (c.add_fresh_of_all.ensures.live is)

pub returns-in-Three-clause-live : goal.returns-in-Three-clause-live
returns-in-Three-clause-live c is =
    subst (λ (m : Merge). All (λ n. IsLive c.args.family.now n) (names_of m)) (sym c.in-Three.is) (c.add_fresh_of_all-in-Three.ensures.live is)
