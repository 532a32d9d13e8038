use Rattle.std.proofs.Common.{◌≡◌, ◌-ℤ◌, ◌*ℤ◌, FitsSigned, arith, to_z-of_z, refl}
use Rattle.std.proofs.lemmas.Int.{ints}
use Rattle.std.specs.Int.{w128}
use Rattle.sk_measure.specs.Offsets.{cross, dot, angle_excess}
use Rattle.sk_measure.proofs.Bounds.{abs_within, size_from_to, tangent_fits, difference_fits, angle_bound}
use Rattle.sk_measure.proofs.measured.angle_excess.Goals as goal

pub cross-requires : goal.cross-requires
cross-requires c =
    let a64 = c.ranges.a in
    let b64 = c.ranges.b in
    let d64 = c.ranges.d in
    let e64 = c.ranges.e in
    simp to_z-of_z (record { a = c.requires.a; b = c.requires.b; d = c.requires.d; e = c.requires.e })

pub dot-requires : goal.dot-requires
dot-requires c =
    let a64 = c.ranges.a in
    let b64 = c.ranges.b in
    let d64 = c.ranges.d in
    let e64 = c.ranges.e in
    simp to_z-of_z (record { a = c.requires.a; b = c.requires.b; d = c.requires.d; e = c.requires.e })

pub scaled-along-requires-clause-factor : goal.scaled-along-requires-clause-factor
scaled-along-requires-clause-factor c = omega (arith, ints, c.requires.ratio.2)

pub scaled-along-requires-clause-number : goal.scaled-along-requires-clause-number
scaled-along-requires-clause-number c = omega (arith, ints)

pub scaled-across-requires-clause-factor : goal.scaled-across-requires-clause-factor
scaled-across-requires-clause-factor c = omega (arith, ints, c.requires.ratio.1)

pub scaled-across-requires-clause-number : goal.scaled-across-requires-clause-number
scaled-across-requires-clause-number c = omega (arith, ints)

pub overflow_sub-result : goal.overflow_sub-result
overflow_sub-result c =
    let one : FitsSigned w128 c.scaled-along.result = record { sfits = c.scaled-along.type_inv } in
    let two : FitsSigned w128 c.scaled-across.result = record { sfits = c.scaled-across.type_inv } in
    let all = difference_fits c.scaled-along.result c.scaled-across.result c.scaled-along.ensures.within c.scaled-across.ensures.within in
    simp to_z-of_z all

pub returns-clause-value : goal.returns-clause-value
returns-clause-value c =
    let a64 = c.ranges.a in
    let b64 = c.ranges.b in
    let d64 = c.ranges.d in
    let e64 = c.ranges.e in
    let few_p = abs_within 10000 c.args.ratio.p c.requires.ratio.1 in
    let few_q = size_from_to 10000 c.args.ratio.q c.requires.ratio.2 in
    let p32 = (tangent_fits c.args.ratio.p few_p).0 in
    let q32 = (tangent_fits c.args.ratio.q few_q).0 in
    let p64 = (tangent_fits c.args.ratio.p few_p).1 in
    let q64 = (tangent_fits c.args.ratio.q few_q).1 in
    let crosses : FitsSigned w128 c.cross.result = record { sfits = c.cross.type_inv } in
    let dots : FitsSigned w128 c.dot.result = record { sfits = c.dot.type_inv } in
    let one : FitsSigned w128 c.scaled-along.result = record { sfits = c.scaled-along.type_inv } in
    let two : FitsSigned w128 c.scaled-across.result = record { sfits = c.scaled-across.type_inv } in
    let all = difference_fits c.scaled-along.result c.scaled-across.result c.scaled-along.ensures.within c.scaled-across.ensures.within in
    let cross_is : c.cross.result ≡ cross c.args.a c.args.b c.args.d c.args.e = simp to_z-of_z at c.cross.ensures.value in
    let dot_is : c.dot.result ≡ dot c.args.a c.args.b c.args.d c.args.e = simp to_z-of_z at c.dot.ensures.value in
    let along : c.scaled-along.result ≡ c.args.ratio.q *ℤ c.cross.result = simp to_z-of_z at (rw c.from.ensures at c.scaled-along.ensures.value) in
    let across : c.scaled-across.result ≡ c.args.ratio.p *ℤ c.dot.result = simp to_z-of_z at (rw c.from-2.ensures at c.scaled-across.ensures.value) in
    let told : c.scaled-along.result -ℤ c.scaled-across.result ≡ angle_excess c.args.ratio c.args.a c.args.b c.args.d c.args.e = rw (along, across, cross_is, dot_is) refl in
    simp to_z-of_z told

pub returns-clause-within : goal.returns-clause-within
returns-clause-within c =
    let a64 = c.ranges.a in
    let b64 = c.ranges.b in
    let d64 = c.ranges.d in
    let e64 = c.ranges.e in
    let few_p = abs_within 10000 c.args.ratio.p c.requires.ratio.1 in
    let few_q = size_from_to 10000 c.args.ratio.q c.requires.ratio.2 in
    let cross_is : c.cross.result ≡ cross c.args.a c.args.b c.args.d c.args.e = simp to_z-of_z at c.cross.ensures.value in
    let dot_is : c.dot.result ≡ dot c.args.a c.args.b c.args.d c.args.e = simp to_z-of_z at c.dot.ensures.value in
    rw (returns-clause-value c)
    (angle_bound c.args.ratio.p c.args.ratio.q (cross c.args.a c.args.b c.args.d c.args.e) (dot c.args.a c.args.b c.args.d c.args.e) few_p few_q (rw cross_is at c.cross.ensures.within) (rw dot_is at c.dot.ensures.within))
