use Rattle.std.proofs.Common.{◌≡◌, FitsSigned, sym, ap, ◌∙◌, arith, rules, to_z-of_z, false, ◌≤ℤ◌, subst}
use Rattle.std.specs.Int.{w128}
use Rattle.std.proofs.lemmas.Int.{ints}
use Rattle.sk_interval.specs.Interval.{Interval}
use Rattle.sk_interval.specs.Operations.{holds_zero}
use Rattle.sk_interval.proofs.PowerLemmas.{end_limit, end_fits}
use Rattle.sk_interval.proofs.RatioLemmas.{ends_nonzero, quotient-flat, quotient-bounded}
use Rattle.sk_interval.proofs.LeastLemmas.{quotient-least}
use Rattle.sk_interval.proofs.FinerQuotients.{quotient-Refines}
use Rattle.sk_interval.proofs.interval.Iv.div.Goals as goal

pub returns-then-holds_zero-clause-value : goal.returns-then-holds_zero-clause-value
returns-then-holds_zero-clause-value g c =
    rw c.flat.ensures (sym (quotient-flat g.G.Grid.BITS c.args.self c.args.other (sym c.if-holds_zero.ensures)))

pub scaled-lo-requires : goal.scaled-lo-requires
scaled-lo-requires g c = omega (arith, ints, end_limit g.G.Grid.BITS g.G.Grid.few)

pub scaled-hi-requires : goal.scaled-hi-requires
scaled-hi-requires g c = omega (arith, ints, end_limit g.G.Grid.BITS g.G.Grid.few)

pub extreme_quotients-least-requires-clause-c_within : goal.extreme_quotients-least-requires-clause-c_within
extreme_quotients-least-requires-clause-c_within g c = omega (arith, ints, end_limit g.G.Grid.BITS g.G.Grid.few)

pub extreme_quotients-least-requires-clause-d_within : goal.extreme_quotients-least-requires-clause-d_within
extreme_quotients-least-requires-clause-d_within g c = omega (arith, ints, end_limit g.G.Grid.BITS g.G.Grid.few)

pub extreme_quotients-least-requires-clause-a_within : goal.extreme_quotients-least-requires-clause-a_within
extreme_quotients-least-requires-clause-a_within g c = omega (arith, ints)

pub extreme_quotients-least-requires-clause-b_within : goal.extreme_quotients-least-requires-clause-b_within
extreme_quotients-least-requires-clause-b_within g c = omega (arith, ints)

pub bounded-requires-clause-ordered : goal.bounded-requires-clause-ordered
bounded-requires-clause-ordered g c = omega (arith, ints)

pub extreme_quotients-least-requires-clause-c_nonzero : goal.extreme_quotients-least-requires-clause-c_nonzero
extreme_quotients-least-requires-clause-c_nonzero g c =
    let other_lo = end_fits g.G.Grid.BITS c.other.inside.lo g.G.Grid.few c.other.invariant.lo_within in
    let other_hi = end_fits g.G.Grid.BITS c.other.inside.hi g.G.Grid.few c.other.invariant.hi_within in
    let divisor : Interval = record { lo = c.other.inside.lo; hi = c.other.inside.hi } in
    let zero_out : holds_zero divisor ≡ false = ap holds_zero c.other.view_is ∙ sym c.if-holds_zero.ensures in
    simp to_z-of_z (ends_nonzero divisor c.other.invariant.ordered zero_out).0

pub extreme_quotients-least-requires-clause-d_nonzero : goal.extreme_quotients-least-requires-clause-d_nonzero
extreme_quotients-least-requires-clause-d_nonzero g c =
    let other_lo = end_fits g.G.Grid.BITS c.other.inside.lo g.G.Grid.few c.other.invariant.lo_within in
    let other_hi = end_fits g.G.Grid.BITS c.other.inside.hi g.G.Grid.few c.other.invariant.hi_within in
    let divisor : Interval = record { lo = c.other.inside.lo; hi = c.other.inside.hi } in
    let zero_out : holds_zero divisor ≡ false = ap holds_zero c.other.view_is ∙ sym c.if-holds_zero.ensures in
    simp to_z-of_z (ends_nonzero divisor c.other.invariant.ordered zero_out).1

pub returns-else-holds_zero-clause-value : goal.returns-else-holds_zero-clause-value
returns-else-holds_zero-clause-value g c =
    let other_lo = end_fits g.G.Grid.BITS c.other.inside.lo g.G.Grid.few c.other.invariant.lo_within in
    let other_hi = end_fits g.G.Grid.BITS c.other.inside.hi g.G.Grid.few c.other.invariant.hi_within in
    let self_lo = end_fits g.G.Grid.BITS c.self.inside.lo g.G.Grid.few c.self.invariant.lo_within in
    let self_hi = end_fits g.G.Grid.BITS c.self.inside.hi g.G.Grid.few c.self.invariant.hi_within in
    let least_fits : FitsSigned w128 c.extreme_quotients-least.result.0 = search rules in
    let greatest_fits : FitsSigned w128 c.extreme_quotients-least.result.1 = search rules in
    let first_fits : FitsSigned w128 c.scaled-lo.result = record { sfits = c.scaled-lo.type_inv } in
    let second_fits : FitsSigned w128 c.scaled-hi.result = record { sfits = c.scaled-hi.type_inv } in
    let divisor : Interval = record { lo = c.other.inside.lo; hi = c.other.inside.hi } in
    let zero_out : holds_zero divisor ≡ false = ap holds_zero c.other.view_is ∙ sym c.if-holds_zero.ensures in
    let dividend : Interval = record { lo = c.self.inside.lo; hi = c.self.inside.hi } in
    let first = simp to_z-of_z at c.scaled-lo.ensures.value in
    let second = simp to_z-of_z at c.scaled-hi.ensures.value in
    let least = rw (first, second) at (simp to_z-of_z at c.extreme_quotients-least.ensures.least) in
    let greatest = rw (first, second) at (simp to_z-of_z at c.extreme_quotients-least.ensures.greatest) in
    let bounded_is = rw (least, greatest) at (simp to_z-of_z at c.bounded.ensures) in
    rw (← c.self.view_is, ← c.other.view_is) (bounded_is ∙ quotient-bounded g.G.Grid.BITS dividend divisor zero_out)

pub returns-else-holds_zero-clause-least : goal.returns-else-holds_zero-clause-least
returns-else-holds_zero-clause-least g c =
    let ordered = subst (λ (v : Interval). v.lo ≤ℤ v.hi) c.other.view_is c.other.invariant.ordered in
    λ zero_out. rw (returns-else-holds_zero-clause-value g c) (quotient-least g.G.Grid.BITS c.args.self c.args.other ordered zero_out)

pub returns-else-holds_zero-clause-nested : goal.returns-else-holds_zero-clause-nested
returns-else-holds_zero-clause-nested g c = λ k x y p q. rw (returns-else-holds_zero-clause-value g c) (quotient-Refines g.G.Grid.BITS k x y c.args.self c.args.other p q)

pub returns-then-holds_zero-clause-least : goal.returns-then-holds_zero-clause-least
returns-then-holds_zero-clause-least g c zero_out = let zero_in = sym c.if-holds_zero.ensures in absurd (cc)
