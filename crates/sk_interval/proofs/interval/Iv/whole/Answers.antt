use Rattle.std.proofs.Common.{◌≡◌, to_z, of_z, rules, sym, subst}
use Rattle.std.specs.Int.{w128}
use Rattle.sk_interval.specs.Interval.{Interval, IsInterval}
use Rattle.sk_interval.specs.Operations.{whole}
use Rattle.sk_interval.proofs.AroundLemmas.{whole_is_interval}
use Rattle.sk_interval.specs.Nesting.{HoldsFiner}
use Rattle.sk_interval.proofs.FinerSums.{whole-IsInside}
use Rattle.sk_interval.proofs.interval.Iv.whole.Goals as goal

pub of_ends-requires : goal.of_ends-requires
of_ends-requires g c =
    let ends : Interval = record { lo = to_z w128 (of_z w128 c.scaled-end.result); hi = to_z w128 (of_z w128 c.scaled-end.result) } in
    let is : ends ≡ whole g.G.Grid.BITS c.args.n = search rules in
    subst (IsInterval g.G.Grid.BITS) (sym is) (whole_is_interval g.G.Grid.BITS c.args.n c.requires)

pub returns-clause-nested : goal.returns-clause-nested
returns-clause-nested g c =
    let value : c.of_ends.result ≡ whole g.G.Grid.BITS c.args.n = search rules in
    subst (HoldsFiner whole g.G.Grid.BITS c.args.n) (sym value) (λ k. whole-IsInside g.G.Grid.BITS k c.args.n)
