use Rattle.std.proofs.Common.{FitsSigned, to_z-of_z}
use Rattle.std.specs.Int.{w128}
use Rattle.sk_interval.proofs.PowerLemmas.{scaled_within, within_fits}
use Rattle.sk_interval.proofs.interval.scaled.Goals as goal

pub overflow_mul-result : goal.overflow_mul-result
overflow_mul-result g c =
    let unit : FitsSigned w128 c.unit.result = record { sfits = c.unit.type_inv } in
    rw (to_z-of_z c.ranges.n, to_z-of_z unit, c.unit.ensures.value) (within_fits _ (scaled_within g.G.Grid.BITS c.args.n g.G.Grid.few c.requires))

pub returns-clause-value : goal.returns-clause-value
returns-clause-value g c =
    let unit : FitsSigned w128 c.unit.result = record { sfits = c.unit.type_inv } in
    rw (to_z-of_z c.ranges.n, to_z-of_z unit, c.unit.ensures.value) (to_z-of_z (within_fits _ (scaled_within g.G.Grid.BITS c.args.n g.G.Grid.few c.requires)))

pub returns-clause-within : goal.returns-clause-within
returns-clause-within g c =
    rw (returns-clause-value g c) (scaled_within g.G.Grid.BITS c.args.n g.G.Grid.few c.requires)
