use Rattle.std.proofs.Common.{refl, sym, unsigned_abs, FitsSigned, to_z-of_z, arith}
use Rattle.std.specs.Int.{w64}
use Rattle.std.specs.Prelude.{true}
use Rattle.std.proofs.lemmas.Int.{ints}
use Rattle.sk_measure.proofs.Placings.{measurable, block_measurable}
use Rattle.sk_measure.proofs.Reach.{own_reach, block_reach}
use Rattle.sk_tolerance.proofs.Numbered.{edge_there, block_there, no_edge, some_found}
use Rattle.sk_tolerance.proofs.Nearness.{edge_off, block_off, edge_near, block_near, edge_bounded, block_bounded}
use Rattle.sk_tolerance.proofs.single.off_with.Goals as goal

pub own_off-requires : goal.own_off-requires
own_off-requires c =
    let there = edge_there c.args.g.now c.requires.graph c.args.number c.in-Some.edge.now (sym c.in-Some.ensures) in
    measurable c.args.g.now c.args.p.now c.requires.graph c.requires.placed c.in-Some.edge.now there.0

pub own_off_of_block-requires : goal.own_off_of_block-requires
own_off_of_block-requires c =
    let there = block_there c.args.g.now c.requires.graph c.args.number c.in-Some-block.block.now (sym c.in-Some-block.ensures) in
    block_measurable c.args.g.now c.args.p.now c.requires.graph c.requires.placed c.in-Some-block.block.now there.0

pub unreachable-requires : goal.unreachable-requires
unreachable-requires c = some_found c.args.g.now c.requires.graph c.args.number c.requires.there (sym c.in-None.ensures) (sym c.in-None-block.ensures)

pub returns-in-Some-clause-off : goal.returns-in-Some-clause-off
returns-in-Some-clause-off c =
    let there = edge_there c.args.g.now c.requires.graph c.args.number c.in-Some.edge.now (sym c.in-Some.ensures) in
    let can = measurable c.args.g.now c.args.p.now c.requires.graph c.requires.placed c.in-Some.edge.now there.0 in
    let few = own_reach c.args.p.now c.in-Some.edge.now can (unsigned_abs c.own_off.result) c.own_off.ensures.size in
    let fits : FitsSigned w64 c.own_off.result = omega (arith, ints, few) in
    simp to_z-of_z
    (edge_off c.args.g.now c.requires.graph c.args.p.now c.requires.placed c.args.number (record { length = c.is_length.result; off = c.own_off.result; turned = c.args.turned }) c.in-Some.edge.now (sym c.in-Some.ensures) c.is_length.ensures c.own_off.ensures)

pub returns-in-Some-clause-near : goal.returns-in-Some-clause-near
returns-in-Some-clause-near c = λ straight.
    let there = edge_there c.args.g.now c.requires.graph c.args.number c.in-Some.edge.now (sym c.in-Some.ensures) in
    let can = measurable c.args.g.now c.args.p.now c.requires.graph c.requires.placed c.in-Some.edge.now there.0 in
    let few = own_reach c.args.p.now c.in-Some.edge.now can (unsigned_abs c.own_off.result) c.own_off.ensures.size in
    let fits : FitsSigned w64 c.own_off.result = omega (arith, ints, few) in
    simp to_z-of_z
    (edge_near c.args.g.now c.requires.graph c.args.p.now c.requires.placed c.args.number (record { length = c.is_length.result; off = c.own_off.result; turned = c.args.turned }) straight c.in-Some.edge.now there.0 c.is_length.ensures c.own_off.ensures)

pub returns-in-Some-block-clause-off : goal.returns-in-Some-block-clause-off
returns-in-Some-block-clause-off c =
    let there = block_there c.args.g.now c.requires.graph c.args.number c.in-Some-block.block.now (sym c.in-Some-block.ensures) in
    let can = block_measurable c.args.g.now c.args.p.now c.requires.graph c.requires.placed c.in-Some-block.block.now there.0 in
    let few = block_reach c.args.p.now c.in-Some-block.block.now can (unsigned_abs c.own_off_of_block.result) c.own_off_of_block.ensures.size in
    let fits : FitsSigned w64 c.own_off_of_block.result = omega (arith, ints, few) in
    simp to_z-of_z
    (block_off c.args.g.now c.requires.graph c.args.p.now c.requires.placed c.args.number (record { length = true; off = c.own_off_of_block.result; turned = c.args.turned }) c.in-Some-block.block.now (no_edge c.args.g.now c.requires.graph c.args.number (sym c.in-None.ensures)) (sym c.in-Some-block.ensures) refl c.own_off_of_block.ensures)

pub returns-in-Some-block-clause-near : goal.returns-in-Some-block-clause-near
returns-in-Some-block-clause-near c = λ straight.
    let there = block_there c.args.g.now c.requires.graph c.args.number c.in-Some-block.block.now (sym c.in-Some-block.ensures) in
    let can = block_measurable c.args.g.now c.args.p.now c.requires.graph c.requires.placed c.in-Some-block.block.now there.0 in
    let few = block_reach c.args.p.now c.in-Some-block.block.now can (unsigned_abs c.own_off_of_block.result) c.own_off_of_block.ensures.size in
    let fits : FitsSigned w64 c.own_off_of_block.result = omega (arith, ints, few) in
    simp to_z-of_z
    (block_near c.args.g.now c.requires.graph c.args.p.now c.requires.placed c.args.number (record { length = true; off = c.own_off_of_block.result; turned = c.args.turned }) c.in-Some-block.block.now there.0 refl c.own_off_of_block.ensures)

pub returns-in-Some-clause-bounded : goal.returns-in-Some-clause-bounded
returns-in-Some-clause-bounded c =
    let there = edge_there c.args.g.now c.requires.graph c.args.number c.in-Some.edge.now (sym c.in-Some.ensures) in
    let can = measurable c.args.g.now c.args.p.now c.requires.graph c.requires.placed c.in-Some.edge.now there.0 in
    let few = own_reach c.args.p.now c.in-Some.edge.now can (unsigned_abs c.own_off.result) c.own_off.ensures.size in
    let fits : FitsSigned w64 c.own_off.result = omega (arith, ints, few) in
    simp to_z-of_z
    (edge_bounded c.args.g.now c.requires.graph c.args.p.now c.requires.placed c.args.number (record { length = c.is_length.result; off = c.own_off.result; turned = c.args.turned }) c.in-Some.edge.now there.0 c.is_length.ensures c.own_off.ensures)

pub returns-in-Some-block-clause-bounded : goal.returns-in-Some-block-clause-bounded
returns-in-Some-block-clause-bounded c =
    let there = block_there c.args.g.now c.requires.graph c.args.number c.in-Some-block.block.now (sym c.in-Some-block.ensures) in
    let can = block_measurable c.args.g.now c.args.p.now c.requires.graph c.requires.placed c.in-Some-block.block.now there.0 in
    let few = block_reach c.args.p.now c.in-Some-block.block.now can (unsigned_abs c.own_off_of_block.result) c.own_off_of_block.ensures.size in
    let fits : FitsSigned w64 c.own_off_of_block.result = omega (arith, ints, few) in
    simp to_z-of_z
    (block_bounded c.args.g.now c.requires.graph c.args.p.now c.requires.placed c.args.number (record { length = true; off = c.own_off_of_block.result; turned = c.args.turned }) c.in-Some-block.block.now there.0 refl c.own_off_of_block.ensures)
