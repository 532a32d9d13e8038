use Rattle.std.proofs.Common.{◌*ℤ◌, max, unsigned_abs, FitsSigned, rules, arith, to_z-of_z}
use Rattle.std.specs.Int.{w128}
use Rattle.sk_interval.proofs.PowerLemmas.{product_fits, product_within}
use Rattle.sk_interval.proofs.CornerLemmas.{least_within, greatest_within, least_below_greatest}
use Rattle.sk_interval.proofs.quotient.extreme_products.Goals as goal

pub overflow_mul-ac : goal.overflow_mul-ac
overflow_mul-ac c =
    let in_a = c.ranges.a in
    let in_b = c.ranges.b in
    let in_c = c.ranges.c in
    let in_d = c.ranges.d in
    simp to_z-of_z (product_fits c.args.a c.args.c (max (unsigned_abs c.args.a) (unsigned_abs c.args.b)) (max (unsigned_abs c.args.c) (unsigned_abs c.args.d)) (omega arith) (omega arith) c.requires)

pub overflow_mul-ad : goal.overflow_mul-ad
overflow_mul-ad c =
    let in_a = c.ranges.a in
    let in_b = c.ranges.b in
    let in_c = c.ranges.c in
    let in_d = c.ranges.d in
    simp to_z-of_z (product_fits c.args.a c.args.d (max (unsigned_abs c.args.a) (unsigned_abs c.args.b)) (max (unsigned_abs c.args.c) (unsigned_abs c.args.d)) (omega arith) (omega arith) c.requires)

pub overflow_mul-bc : goal.overflow_mul-bc
overflow_mul-bc c =
    let in_a = c.ranges.a in
    let in_b = c.ranges.b in
    let in_c = c.ranges.c in
    let in_d = c.ranges.d in
    simp to_z-of_z (product_fits c.args.b c.args.c (max (unsigned_abs c.args.a) (unsigned_abs c.args.b)) (max (unsigned_abs c.args.c) (unsigned_abs c.args.d)) (omega arith) (omega arith) c.requires)

pub overflow_mul-bd : goal.overflow_mul-bd
overflow_mul-bd c =
    let in_a = c.ranges.a in
    let in_b = c.ranges.b in
    let in_c = c.ranges.c in
    let in_d = c.ranges.d in
    simp to_z-of_z (product_fits c.args.b c.args.d (max (unsigned_abs c.args.a) (unsigned_abs c.args.b)) (max (unsigned_abs c.args.c) (unsigned_abs c.args.d)) (omega arith) (omega arith) c.requires)

pub returns-clause-least : goal.returns-clause-least
returns-clause-least c =
    let in_a = c.ranges.a in
    let in_b = c.ranges.b in
    let in_c = c.ranges.c in
    let in_d = c.ranges.d in
    let ac : FitsSigned w128 (c.args.a *ℤ c.args.c) = product_fits c.args.a c.args.c (max (unsigned_abs c.args.a) (unsigned_abs c.args.b)) (max (unsigned_abs c.args.c) (unsigned_abs c.args.d)) (omega arith) (omega arith) c.requires in
    let ad : FitsSigned w128 (c.args.a *ℤ c.args.d) = product_fits c.args.a c.args.d (max (unsigned_abs c.args.a) (unsigned_abs c.args.b)) (max (unsigned_abs c.args.c) (unsigned_abs c.args.d)) (omega arith) (omega arith) c.requires in
    let bc : FitsSigned w128 (c.args.b *ℤ c.args.c) = product_fits c.args.b c.args.c (max (unsigned_abs c.args.a) (unsigned_abs c.args.b)) (max (unsigned_abs c.args.c) (unsigned_abs c.args.d)) (omega arith) (omega arith) c.requires in
    let bd : FitsSigned w128 (c.args.b *ℤ c.args.d) = product_fits c.args.b c.args.d (max (unsigned_abs c.args.a) (unsigned_abs c.args.b)) (max (unsigned_abs c.args.c) (unsigned_abs c.args.d)) (omega arith) (omega arith) c.requires in
    let fits : FitsSigned w128 c.least.result = search rules in
    simp to_z-of_z (simp to_z-of_z at c.least.ensures)

pub returns-clause-greatest : goal.returns-clause-greatest
returns-clause-greatest c =
    let in_a = c.ranges.a in
    let in_b = c.ranges.b in
    let in_c = c.ranges.c in
    let in_d = c.ranges.d in
    let ac : FitsSigned w128 (c.args.a *ℤ c.args.c) = product_fits c.args.a c.args.c (max (unsigned_abs c.args.a) (unsigned_abs c.args.b)) (max (unsigned_abs c.args.c) (unsigned_abs c.args.d)) (omega arith) (omega arith) c.requires in
    let ad : FitsSigned w128 (c.args.a *ℤ c.args.d) = product_fits c.args.a c.args.d (max (unsigned_abs c.args.a) (unsigned_abs c.args.b)) (max (unsigned_abs c.args.c) (unsigned_abs c.args.d)) (omega arith) (omega arith) c.requires in
    let bc : FitsSigned w128 (c.args.b *ℤ c.args.c) = product_fits c.args.b c.args.c (max (unsigned_abs c.args.a) (unsigned_abs c.args.b)) (max (unsigned_abs c.args.c) (unsigned_abs c.args.d)) (omega arith) (omega arith) c.requires in
    let bd : FitsSigned w128 (c.args.b *ℤ c.args.d) = product_fits c.args.b c.args.d (max (unsigned_abs c.args.a) (unsigned_abs c.args.b)) (max (unsigned_abs c.args.c) (unsigned_abs c.args.d)) (omega arith) (omega arith) c.requires in
    let fits : FitsSigned w128 c.greatest.result = search rules in
    simp to_z-of_z (simp to_z-of_z at c.greatest.ensures)

pub returns-clause-least_within : goal.returns-clause-least_within
returns-clause-least_within c =
    let in_a = c.ranges.a in
    let in_b = c.ranges.b in
    let in_c = c.ranges.c in
    let in_d = c.ranges.d in
    let ac : FitsSigned w128 (c.args.a *ℤ c.args.c) = product_fits c.args.a c.args.c (max (unsigned_abs c.args.a) (unsigned_abs c.args.b)) (max (unsigned_abs c.args.c) (unsigned_abs c.args.d)) (omega arith) (omega arith) c.requires in
    let ad : FitsSigned w128 (c.args.a *ℤ c.args.d) = product_fits c.args.a c.args.d (max (unsigned_abs c.args.a) (unsigned_abs c.args.b)) (max (unsigned_abs c.args.c) (unsigned_abs c.args.d)) (omega arith) (omega arith) c.requires in
    let bc : FitsSigned w128 (c.args.b *ℤ c.args.c) = product_fits c.args.b c.args.c (max (unsigned_abs c.args.a) (unsigned_abs c.args.b)) (max (unsigned_abs c.args.c) (unsigned_abs c.args.d)) (omega arith) (omega arith) c.requires in
    let bd : FitsSigned w128 (c.args.b *ℤ c.args.d) = product_fits c.args.b c.args.d (max (unsigned_abs c.args.a) (unsigned_abs c.args.b)) (max (unsigned_abs c.args.c) (unsigned_abs c.args.d)) (omega arith) (omega arith) c.requires in
    let fits : FitsSigned w128 c.least.result = search rules in
    rw (to_z-of_z fits, simp to_z-of_z at c.least.ensures) (least_within (c.args.a *ℤ c.args.c) (c.args.a *ℤ c.args.d) (c.args.b *ℤ c.args.c) (c.args.b *ℤ c.args.d) _ (product_within c.args.a c.args.c (max (unsigned_abs c.args.a) (unsigned_abs c.args.b)) (max (unsigned_abs c.args.c) (unsigned_abs c.args.d)) _ (omega arith) (omega arith) c.requires) (product_within c.args.a c.args.d (max (unsigned_abs c.args.a) (unsigned_abs c.args.b)) (max (unsigned_abs c.args.c) (unsigned_abs c.args.d)) _ (omega arith) (omega arith) c.requires) (product_within c.args.b c.args.c (max (unsigned_abs c.args.a) (unsigned_abs c.args.b)) (max (unsigned_abs c.args.c) (unsigned_abs c.args.d)) _ (omega arith) (omega arith) c.requires) (product_within c.args.b c.args.d (max (unsigned_abs c.args.a) (unsigned_abs c.args.b)) (max (unsigned_abs c.args.c) (unsigned_abs c.args.d)) _ (omega arith) (omega arith) c.requires))

pub returns-clause-greatest_within : goal.returns-clause-greatest_within
returns-clause-greatest_within c =
    let in_a = c.ranges.a in
    let in_b = c.ranges.b in
    let in_c = c.ranges.c in
    let in_d = c.ranges.d in
    let ac : FitsSigned w128 (c.args.a *ℤ c.args.c) = product_fits c.args.a c.args.c (max (unsigned_abs c.args.a) (unsigned_abs c.args.b)) (max (unsigned_abs c.args.c) (unsigned_abs c.args.d)) (omega arith) (omega arith) c.requires in
    let ad : FitsSigned w128 (c.args.a *ℤ c.args.d) = product_fits c.args.a c.args.d (max (unsigned_abs c.args.a) (unsigned_abs c.args.b)) (max (unsigned_abs c.args.c) (unsigned_abs c.args.d)) (omega arith) (omega arith) c.requires in
    let bc : FitsSigned w128 (c.args.b *ℤ c.args.c) = product_fits c.args.b c.args.c (max (unsigned_abs c.args.a) (unsigned_abs c.args.b)) (max (unsigned_abs c.args.c) (unsigned_abs c.args.d)) (omega arith) (omega arith) c.requires in
    let bd : FitsSigned w128 (c.args.b *ℤ c.args.d) = product_fits c.args.b c.args.d (max (unsigned_abs c.args.a) (unsigned_abs c.args.b)) (max (unsigned_abs c.args.c) (unsigned_abs c.args.d)) (omega arith) (omega arith) c.requires in
    let fits : FitsSigned w128 c.greatest.result = search rules in
    rw (to_z-of_z fits, simp to_z-of_z at c.greatest.ensures) (greatest_within (c.args.a *ℤ c.args.c) (c.args.a *ℤ c.args.d) (c.args.b *ℤ c.args.c) (c.args.b *ℤ c.args.d) _ (product_within c.args.a c.args.c (max (unsigned_abs c.args.a) (unsigned_abs c.args.b)) (max (unsigned_abs c.args.c) (unsigned_abs c.args.d)) _ (omega arith) (omega arith) c.requires) (product_within c.args.a c.args.d (max (unsigned_abs c.args.a) (unsigned_abs c.args.b)) (max (unsigned_abs c.args.c) (unsigned_abs c.args.d)) _ (omega arith) (omega arith) c.requires) (product_within c.args.b c.args.c (max (unsigned_abs c.args.a) (unsigned_abs c.args.b)) (max (unsigned_abs c.args.c) (unsigned_abs c.args.d)) _ (omega arith) (omega arith) c.requires) (product_within c.args.b c.args.d (max (unsigned_abs c.args.a) (unsigned_abs c.args.b)) (max (unsigned_abs c.args.c) (unsigned_abs c.args.d)) _ (omega arith) (omega arith) c.requires))

pub returns-clause-ordered : goal.returns-clause-ordered
returns-clause-ordered c =
    let in_a = c.ranges.a in
    let in_b = c.ranges.b in
    let in_c = c.ranges.c in
    let in_d = c.ranges.d in
    let ac : FitsSigned w128 (c.args.a *ℤ c.args.c) = product_fits c.args.a c.args.c (max (unsigned_abs c.args.a) (unsigned_abs c.args.b)) (max (unsigned_abs c.args.c) (unsigned_abs c.args.d)) (omega arith) (omega arith) c.requires in
    let ad : FitsSigned w128 (c.args.a *ℤ c.args.d) = product_fits c.args.a c.args.d (max (unsigned_abs c.args.a) (unsigned_abs c.args.b)) (max (unsigned_abs c.args.c) (unsigned_abs c.args.d)) (omega arith) (omega arith) c.requires in
    let bc : FitsSigned w128 (c.args.b *ℤ c.args.c) = product_fits c.args.b c.args.c (max (unsigned_abs c.args.a) (unsigned_abs c.args.b)) (max (unsigned_abs c.args.c) (unsigned_abs c.args.d)) (omega arith) (omega arith) c.requires in
    let bd : FitsSigned w128 (c.args.b *ℤ c.args.d) = product_fits c.args.b c.args.d (max (unsigned_abs c.args.a) (unsigned_abs c.args.b)) (max (unsigned_abs c.args.c) (unsigned_abs c.args.d)) (omega arith) (omega arith) c.requires in
    let low_fits : FitsSigned w128 c.least.result = search rules in
    let high_fits : FitsSigned w128 c.greatest.result = search rules in
    rw (to_z-of_z low_fits, to_z-of_z high_fits, simp to_z-of_z at c.least.ensures, simp to_z-of_z at c.greatest.ensures) (least_below_greatest (c.args.a *ℤ c.args.c) (c.args.a *ℤ c.args.d) (c.args.b *ℤ c.args.c) (c.args.b *ℤ c.args.d))
