use Rattle.std.proofs.Common.{List, subst}
use Rattle.std.specs.Prelude.{Contains}
use Rattle.sk_base.specs.declared.Block.{Block}
use Rattle.sk_base.specs.declared.Edge.{Edge}
use Rattle.sk_base.specs.declared.Node.{Node}
use Rattle.sk_tolerance.proofs.Merging.{merged_lengthwise, has_blocks}
use Rattle.sk_measure.proofs.Placings.{measurable, block_measurable}
use Rattle.sk_tolerance.proofs.Worsts.{worst_lengthwise_named, all_hold_within, told_missed}
use Rattle.sk_tolerance.specs.Telling.{IsTold}
use Rattle.sk_tolerance.specs.Tolerances.{normals, rigid, distances, lengthwise}
use Rattle.sk_tolerance.proofs.tolerance.least.Goals as goal
use Rattle.sk_tolerance.proofs.tolerance.least.Goals.{After-or-lengthwise}

pub worst_block-requires : goal.worst_block-requires
worst_block-requires c = λ b h. block_measurable c.args.g.now c.args.p.now c.requires.graph c.requires.placed b (subst (λ (xs : List Block). Contains xs b) c.as_slice.ensures h)

pub worst_distance-requires : goal.worst_distance-requires
worst_distance-requires c = λ e h. measurable c.args.g.now c.args.p.now c.requires.graph c.requires.placed e (subst (λ (xs : List Edge). Contains xs e) c.as_slice-2.ensures h)

pub worst_normal-requires : goal.worst_normal-requires
worst_normal-requires c = λ n h. c.requires.placed.nodes n (subst (λ (xs : List Node). Contains xs n) c.as_slice-4.ensures h)

pub worst_angle-anglewise-requires : goal.worst_angle-anglewise-requires
worst_angle-anglewise-requires c = λ e h. measurable c.args.g.now c.args.p.now c.requires.graph c.requires.placed e (subst (λ (xs : List Edge). Contains xs e) c.as_slice-3.ensures h)

-- what is told of the blocks and the distances
lengths : (c : After-or-lengthwise) → IsTold c.args.p.now (lengthwise c.args.g.now) c.or-lengthwise.result
lengths c =
    let g = c.args.g.now in
    c.or-lengthwise.ensures c.args.p.now (rigid g.blocks) (distances g.edges) (lengthwise g) (merged_lengthwise g c.requires.graph) (rw c.as_slice.ensures at c.worst_block.ensures) (rw c.as_slice-2.ensures at c.worst_distance.ensures)

pub returns-clause-t : goal.returns-clause-t
returns-clause-t c = (lengths (goal.at.returns-clause-t c).After-or-lengthwise).least

pub returns-clause-worst_t : goal.returns-clause-worst_t
returns-clause-worst_t c =
    rw c.spotted_constraint.ensures (worst_lengthwise_named c.args.p.now c.args.g.now c.or-lengthwise.result.least c.or-lengthwise.result.at (lengths (goal.at.returns-clause-worst_t c).After-or-lengthwise).at)

pub returns-clause-holds : goal.returns-clause-holds
returns-clause-holds c =
    let rest = rw (c.as_slice-3.ensures, c.as_slice-4.ensures) at (c.worst_angle-anglewise.ensures (normals c.as_slice-4.result.now) c.worst_normal.ensures) in
    all_hold_within c.args.p.now c.args.g.now c.or-lengthwise.result.least c.worst_angle-anglewise.result.least (has_blocks c.args.g.now c.requires.graph) (lengths (goal.at.returns-clause-holds c).After-or-lengthwise).least.holds rest.least.holds

pub returns-clause-smaller_t : goal.returns-clause-smaller_t
returns-clause-smaller_t c m lt =
    told_missed c.args.p.now _ c.or-lengthwise.result.least c.or-lengthwise.result.at (lengths (goal.at.returns-clause-smaller_t c).After-or-lengthwise) m lt

pub returns-clause-smaller_w : goal.returns-clause-smaller_w
returns-clause-smaller_w c m lt =
    told_missed c.args.p.now _ c.worst_angle-anglewise.result.least c.worst_angle-anglewise.result.at
    (rw (c.as_slice-3.ensures, c.as_slice-4.ensures) at (c.worst_angle-anglewise.ensures (normals c.as_slice-4.result.now) c.worst_normal.ensures)) m lt
