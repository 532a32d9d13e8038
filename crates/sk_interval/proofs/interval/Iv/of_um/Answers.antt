use Rattle.std.proofs.Common.{◌≡◌, to_z, of_z, rules, sym, subst}
use Rattle.std.specs.Int.{w128}
use Rattle.sk_interval.specs.Interval.{Interval, IsInterval}
use Rattle.sk_interval.specs.Operations.{of_micrometres}
use Rattle.sk_interval.proofs.AroundLemmas.{micrometres_are_interval}
use Rattle.sk_interval.specs.Around.{IsLeastAround, BelowLength, AboveLength}
use Rattle.sk_interval.specs.Nesting.{HoldsFiner}
use Rattle.sk_interval.proofs.LeastLemmas.{of_micrometres-least}
use Rattle.sk_interval.proofs.FinerSums.{micrometres-IsInside}
use Rattle.sk_interval.proofs.interval.Iv.of_um.Goals as goal

pub of_ends-requires : goal.of_ends-requires
of_ends-requires g c =
    let ends : Interval = record { lo = to_z w128 (of_z w128 c.floor.result); hi = to_z w128 (of_z w128 c.ceil.result) } in
    let is : ends ≡ of_micrometres g.G.Grid.BITS c.args.v.0 = search rules in
    subst (IsInterval g.G.Grid.BITS) (sym is) (micrometres_are_interval g.G.Grid.BITS c.args.v.0 g.G.Grid.enough c.requires)

pub returns-clause-least : goal.returns-clause-least
returns-clause-least g c =
    let value : c.of_ends.result ≡ of_micrometres g.G.Grid.BITS c.args.v.0 = search rules in
    subst (IsLeastAround (BelowLength g.G.Grid.BITS c.args.v.0) (AboveLength g.G.Grid.BITS c.args.v.0)) (sym value) (of_micrometres-least g.G.Grid.BITS c.args.v.0)

pub returns-clause-nested : goal.returns-clause-nested
returns-clause-nested g c =
    let value : c.of_ends.result ≡ of_micrometres g.G.Grid.BITS c.args.v.0 = search rules in
    subst (HoldsFiner of_micrometres g.G.Grid.BITS c.args.v.0) (sym value) (λ k. micrometres-IsInside g.G.Grid.BITS k c.args.v.0)
