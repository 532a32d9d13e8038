use Rattle.std.proofs.Common.{◌≡◌, ◌*◌, pos, ◌<ℤ◌, ◌≤ℤ◌, unsigned_abs, FitsSigned, sym, ap, ◌∙◌, subst, arith, to_z-of_z}
use Rattle.std.specs.Int.{w128}
use Rattle.std.proofs.lemmas.Int.{ints}
use Rattle.sk_root.specs.Roots.{floor_root, ceil_root}
use Rattle.sk_interval.specs.Interval.{Interval, one}
use Rattle.sk_interval.proofs.PowerLemmas.{end_limit, end_fits, scaled_size}
use Rattle.sk_interval.proofs.RatioLemmas.{root-real, root-gap, root-flat}
use Rattle.sk_interval.proofs.SquareLemmas.{roots_are_interval}
use Rattle.std.specs.Prelude.{IfOk, Result, ◌+◌}
use Rattle.sk_interval.specs.declared.interval.Cause.{Cause}
use Rattle.sk_interval.specs.Operations.{root}
use Rattle.sk_interval.specs.Nesting.{Refines}
use Rattle.sk_interval.specs.Around.{IsLeastAround, BelowRoots, AboveRoots}
use Rattle.sk_interval.proofs.LeastLemmas.{root-least}
use Rattle.sk_interval.proofs.FinerRoots.{root-Refines}
use Rattle.sk_interval.proofs.interval.Iv.sqrt.Goals as goal

pub scaled-requires : goal.scaled-requires
scaled-requires g c = omega (arith, ints, end_limit g.G.Grid.BITS g.G.Grid.few)

pub scaled-requires-then-lo-gt0 : goal.scaled-requires-then-lo-gt0
scaled-requires-then-lo-gt0 g c = omega (arith, ints, end_limit g.G.Grid.BITS g.G.Grid.few)

pub root_floor-least-requires : goal.root_floor-least-requires
root_floor-least-requires g c = omega (arith, ints)

pub root_ceil-greatest-requires : goal.root_ceil-greatest-requires
root_ceil-greatest-requires g c = omega (arith, ints)

pub of_ends-requires : goal.of_ends-requires
of_ends-requires g c =
    let lo_fits = end_fits g.G.Grid.BITS c.self.inside.lo g.G.Grid.few c.self.invariant.lo_within in
    let hi_fits = end_fits g.G.Grid.BITS c.self.inside.hi g.G.Grid.few c.self.invariant.hi_within in
    let radicand : Interval = record { lo = c.self.inside.lo; hi = c.self.inside.hi } in
    let first_fits : FitsSigned w128 c.scaled.result = record { sfits = c.scaled.type_inv } in
    let second_fits : FitsSigned w128 c.scaled-then-lo-gt0.result = record { sfits = c.scaled-then-lo-gt0.type_inv } in
    let first = scaled_size g.G.Grid.BITS c.self.inside.lo _ _ (simp to_z-of_z at c.scaled.ensures.value) (simp to_z-of_z at c.unsigned_abs.ensures.value) in
    let second = scaled_size g.G.Grid.BITS c.self.inside.hi _ _ (simp to_z-of_z at c.scaled-then-lo-gt0.ensures.value) (simp to_z-of_z at c.unsigned_abs-then-lo-gt0.ensures.value) in
    let low : c.from.result ≡ pos (floor_root (unsigned_abs c.self.inside.lo * one g.G.Grid.BITS)) = c.from.ensures ∙ ap pos (rw first at c.root_floor-least.ensures.value) in
    let high : c.from-then-lo-gt0.result ≡ pos (ceil_root (unsigned_abs c.self.inside.hi * one g.G.Grid.BITS)) = c.from-then-lo-gt0.ensures ∙ ap pos (rw second at c.root_ceil-greatest.ensures.value) in
    let low_fits : FitsSigned w128 c.from.result = record { sfits = c.from.type_inv } in
    let high_fits : FitsSigned w128 c.from-then-lo-gt0.result = record { sfits = c.from-then-lo-gt0.type_inv } in
    let positive : pos 0 <ℤ radicand.lo = omega (arith, ints) in
    rw (to_z-of_z low_fits, to_z-of_z high_fits, low, high) (roots_are_interval g.G.Grid.BITS radicand c.self.invariant positive)

pub returns-then-lo-gt0-clause-value : goal.returns-then-lo-gt0-clause-value
returns-then-lo-gt0-clause-value g c =
    let lo_fits = end_fits g.G.Grid.BITS c.self.inside.lo g.G.Grid.few c.self.invariant.lo_within in
    let hi_fits = end_fits g.G.Grid.BITS c.self.inside.hi g.G.Grid.few c.self.invariant.hi_within in
    let radicand : Interval = record { lo = c.self.inside.lo; hi = c.self.inside.hi } in
    let first_fits : FitsSigned w128 c.scaled.result = record { sfits = c.scaled.type_inv } in
    let second_fits : FitsSigned w128 c.scaled-then-lo-gt0.result = record { sfits = c.scaled-then-lo-gt0.type_inv } in
    let first = scaled_size g.G.Grid.BITS c.self.inside.lo _ _ (simp to_z-of_z at c.scaled.ensures.value) (simp to_z-of_z at c.unsigned_abs.ensures.value) in
    let second = scaled_size g.G.Grid.BITS c.self.inside.hi _ _ (simp to_z-of_z at c.scaled-then-lo-gt0.ensures.value) (simp to_z-of_z at c.unsigned_abs-then-lo-gt0.ensures.value) in
    let low : c.from.result ≡ pos (floor_root (unsigned_abs c.self.inside.lo * one g.G.Grid.BITS)) = c.from.ensures ∙ ap pos (rw first at c.root_floor-least.ensures.value) in
    let high : c.from-then-lo-gt0.result ≡ pos (ceil_root (unsigned_abs c.self.inside.hi * one g.G.Grid.BITS)) = c.from-then-lo-gt0.ensures ∙ ap pos (rw second at c.root_ceil-greatest.ensures.value) in
    let low_fits : FitsSigned w128 c.from.result = record { sfits = c.from.type_inv } in
    let high_fits : FitsSigned w128 c.from-then-lo-gt0.result = record { sfits = c.from-then-lo-gt0.type_inv } in
    let positive : pos 0 <ℤ radicand.lo = omega (arith, ints) in
    rw (← c.self.view_is) (rw (rw (low, high) at (simp to_z-of_z at c.of_ends.ensures)) (root-real g.G.Grid.BITS radicand positive))

pub returns-then-hi-lt0-clause-value : goal.returns-then-hi-lt0-clause-value
returns-then-hi-lt0-clause-value g c =
    let lo_fits = end_fits g.G.Grid.BITS c.self.inside.lo g.G.Grid.few c.self.invariant.lo_within in
    let hi_fits = end_fits g.G.Grid.BITS c.self.inside.hi g.G.Grid.few c.self.invariant.hi_within in
    let radicand : Interval = record { lo = c.self.inside.lo; hi = c.self.inside.hi } in
    rw (← c.self.view_is) (simp to_z-of_z (root-gap g.G.Grid.BITS radicand (omega (arith, ints)) (omega (arith, ints))))

pub returns-else-hi-lt0-clause-value : goal.returns-else-hi-lt0-clause-value
returns-else-hi-lt0-clause-value g c =
    let radicand : Interval = record { lo = c.self.inside.lo; hi = c.self.inside.hi } in
    rw (c.flat.ensures, ← c.self.view_is) (root-flat g.G.Grid.BITS radicand (omega (arith, ints)) (omega (arith, ints)))

pub returns-then-lo-gt0-clause-least : goal.returns-then-lo-gt0-clause-least
returns-then-lo-gt0-clause-least g c =
    let ordered = subst (λ (v : Interval). v.lo ≤ℤ v.hi) c.self.view_is c.self.invariant.ordered in
    subst (λ (r : Result Interval Cause). IfOk r (IsLeastAround (BelowRoots g.G.Grid.BITS c.args.self) (AboveRoots g.G.Grid.BITS c.args.self))) (sym (returns-then-lo-gt0-clause-value g c)) (root-least g.G.Grid.BITS c.args.self ordered)

pub returns-then-lo-gt0-clause-nested : goal.returns-then-lo-gt0-clause-nested
returns-then-lo-gt0-clause-nested g c = λ k x p. subst (λ (r : Result Interval Cause). Refines k (root (g.G.Grid.BITS + k) x) r) (sym (returns-then-lo-gt0-clause-value g c)) (root-Refines g.G.Grid.BITS k x c.args.self p)

pub returns-then-hi-lt0-clause-nested : goal.returns-then-hi-lt0-clause-nested
returns-then-hi-lt0-clause-nested g c = λ k x p. subst (λ (r : Result Interval Cause). Refines k (root (g.G.Grid.BITS + k) x) r) (sym (returns-then-hi-lt0-clause-value g c)) (root-Refines g.G.Grid.BITS k x c.args.self p)
