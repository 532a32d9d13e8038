use Rattle.std.proofs.Common.{neg_ℤ, FitsSigned, arith, to_z-of_z}
use Rattle.std.proofs.lemmas.Int.{ints}
use Rattle.std.specs.Int.{w128}
use Rattle.sk_interval.proofs.PowerLemmas.{end_limit}
use lib.IntN.{+ℤ_idl}
use Rattle.sk_interval.proofs.FinerSums.{negative-IsInside}
use Rattle.sk_interval.proofs.interval.Iv.neg.Goals as goal

pub invariant_of-result : goal.invariant_of-result
invariant_of-result g c =
    let limit = end_limit g.G.Grid.BITS g.G.Grid.few in
    record { ordered = omega (arith, ints); lo_within = omega (arith, ints); hi_within = omega (arith, ints) }

pub returns-clause-value : goal.returns-clause-value
returns-clause-value g c =
    let limit = end_limit g.G.Grid.BITS g.G.Grid.few in
    let a : FitsSigned w128 c.self.inside.lo = omega (arith, ints) in
    let b : FitsSigned w128 c.self.inside.hi = omega (arith, ints) in
    let low : FitsSigned w128 (neg_ℤ c.self.inside.hi) = omega (arith, ints) in
    let high : FitsSigned w128 (neg_ℤ c.self.inside.lo) = omega (arith, ints) in
    rw (← c.self.view_is) (simp (to_z-of_z, +ℤ_idl))

pub returns-clause-nested : goal.returns-clause-nested
returns-clause-nested g c = λ k x p. rw (returns-clause-value g c) (negative-IsInside k x c.args.self p)
