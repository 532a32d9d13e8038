use Rattle.std.proofs.Common.{◌≤ℤ◌, FitsSigned, arith, to_z-of_z, sym, subst}
use Rattle.std.proofs.lemmas.Int.{ints}
use Rattle.std.specs.Int.{w128}
use Rattle.sk_interval.specs.Interval.{Interval}
use Rattle.sk_interval.proofs.PowerLemmas.{end_limit, end_fits, sum_fits}
use Rattle.sk_interval.proofs.MiddleLemmas.{middle-inside, middle_is_interval}
use Rattle.sk_interval.proofs.interval.Iv.middle.Goals as goal

pub overflow_add-self-inside : goal.overflow_add-self-inside
overflow_add-self-inside g c = omega (arith, ints, end_limit g.G.Grid.BITS g.G.Grid.few)

pub floor-midpoint-requires-clause-dividend : goal.floor-midpoint-requires-clause-dividend
floor-midpoint-requires-clause-dividend g c = omega (arith, ints, end_limit g.G.Grid.BITS g.G.Grid.few)

pub of_ends-requires : goal.of_ends-requires
of_ends-requires g c =
    let few = g.G.Grid.few in
    let lo_fits = end_fits g.G.Grid.BITS c.self.inside.lo few c.self.invariant.lo_within in
    let hi_fits = end_fits g.G.Grid.BITS c.self.inside.hi few c.self.invariant.hi_within in
    let both_fit = sum_fits g.G.Grid.BITS c.self.inside.lo c.self.inside.hi few c.self.invariant.lo_within c.self.invariant.hi_within in
    let result_fits : FitsSigned w128 c.floor-midpoint.result = record { sfits = c.floor-midpoint.type_inv } in
    rw (to_z-of_z result_fits, simp to_z-of_z at c.floor-midpoint.ensures.value)
    (middle_is_interval g.G.Grid.BITS (record { lo = c.self.inside.lo; hi = c.self.inside.hi }) c.self.invariant)

pub returns-clause-value : goal.returns-clause-value
returns-clause-value g c =
    let few = g.G.Grid.few in
    let lo_fits = end_fits g.G.Grid.BITS c.self.inside.lo few c.self.invariant.lo_within in
    let hi_fits = end_fits g.G.Grid.BITS c.self.inside.hi few c.self.invariant.hi_within in
    let both_fit = sum_fits g.G.Grid.BITS c.self.inside.lo c.self.inside.hi few c.self.invariant.lo_within c.self.invariant.hi_within in
    let result_fits : FitsSigned w128 c.floor-midpoint.result = record { sfits = c.floor-midpoint.type_inv } in
    let midpoint = simp to_z-of_z at c.floor-midpoint.ensures.value in
    rw (← c.self.view_is) (rw midpoint at (simp to_z-of_z at c.of_ends.ensures))

pub returns-clause-inside : goal.returns-clause-inside
returns-clause-inside g c =
    let ordered = subst (λ (v : Interval). v.lo ≤ℤ v.hi) c.self.view_is c.self.invariant.ordered in
    subst (λ (v : Interval). (c.args.self.lo ≤ℤ v.lo) × (v.hi ≤ℤ c.args.self.hi)) (sym (returns-clause-value g c)) (middle-inside c.args.self ordered)
