use Rattle.std.proofs.Common.{arith, to_z-of_z, ◌≤ℤ◌, subst}
use Rattle.std.proofs.lemmas.Int.{ints}
use Rattle.sk_interval.proofs.PowerLemmas.{end_limit, end_fits, sum_fits}
use Rattle.sk_interval.specs.Interval.{Interval}
use Rattle.sk_interval.proofs.LeastLemmas.{sum-least}
use Rattle.sk_interval.proofs.FinerSums.{sum-Refines}
use Rattle.sk_interval.proofs.interval.Iv.add.Goals as goal

pub overflow_add-self-inside : goal.overflow_add-self-inside
overflow_add-self-inside g c = omega (arith, ints, end_limit g.G.Grid.BITS g.G.Grid.few)

pub overflow_add-self-inside-2 : goal.overflow_add-self-inside-2
overflow_add-self-inside-2 g c = omega (arith, ints, end_limit g.G.Grid.BITS g.G.Grid.few)

pub bounded-requires-clause-bits : goal.bounded-requires-clause-bits
bounded-requires-clause-bits g c = omega arith

pub bounded-requires-clause-ordered : goal.bounded-requires-clause-ordered
bounded-requires-clause-ordered g c = omega (arith, ints, end_limit g.G.Grid.BITS g.G.Grid.few)

pub returns-clause-value : goal.returns-clause-value
returns-clause-value g c =
    let few = g.G.Grid.few in
    let a = end_fits g.G.Grid.BITS c.self.inside.lo few c.self.invariant.lo_within in
    let b = end_fits g.G.Grid.BITS c.self.inside.hi few c.self.invariant.hi_within in
    let p = end_fits g.G.Grid.BITS c.other.inside.lo few c.other.invariant.lo_within in
    let q = end_fits g.G.Grid.BITS c.other.inside.hi few c.other.invariant.hi_within in
    let low = sum_fits g.G.Grid.BITS c.self.inside.lo c.other.inside.lo few c.self.invariant.lo_within c.other.invariant.lo_within in
    let high = sum_fits g.G.Grid.BITS c.self.inside.hi c.other.inside.hi few c.self.invariant.hi_within c.other.invariant.hi_within in
    rw (← c.self.view_is, ← c.other.view_is) (simp to_z-of_z at c.bounded.ensures)

pub returns-clause-least : goal.returns-clause-least
returns-clause-least g c =
    let first = subst (λ (v : Interval). v.lo ≤ℤ v.hi) c.self.view_is c.self.invariant.ordered in
    let second = subst (λ (v : Interval). v.lo ≤ℤ v.hi) c.other.view_is c.other.invariant.ordered in
    rw (returns-clause-value g c) (sum-least g.G.Grid.BITS c.args.self c.args.other first second)

pub returns-clause-nested : goal.returns-clause-nested
returns-clause-nested g c = λ k x y p q. rw (returns-clause-value g c) (sum-Refines g.G.Grid.BITS k x y c.args.self c.args.other p q)
