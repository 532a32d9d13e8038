use Rattle.std.proofs.Common.{List, subst}
use Rattle.std.specs.Prelude.{Contains}
use Rattle.sk_base.specs.declared.Block.{Block}
use Rattle.sk_base.specs.declared.Edge.{Edge}
use Rattle.sk_tolerance.specs.Tolerances.{rigid, between, constraints}
use Rattle.sk_tolerance.proofs.Merging.{merged_constraints, searched_merged}
use Rattle.sk_measure.proofs.Placings.{measurable, block_measurable}
use Rattle.sk_tolerance.proofs.beyond.constraint_beyond.Goals as goal

pub block_beyond-requires : goal.block_beyond-requires
block_beyond-requires c = λ b h. block_measurable c.args.g.now c.args.p.now c.requires.graph c.requires.placed b (subst (λ (xs : List Block). Contains xs b) c.as_slice.ensures h)

pub edge_beyond-requires : goal.edge_beyond-requires
edge_beyond-requires c = λ e h. measurable c.args.g.now c.args.p.now c.requires.graph c.requires.placed e (subst (λ (xs : List Edge). Contains xs e) c.as_slice-2.ensures h)

pub returns : goal.returns
returns c =
    let g = c.args.g.now in
    rw c.earlier.ensures
    (searched_merged c.args.p.now (rigid g.blocks) (between g.edges) (constraints g) (merged_constraints g c.requires.graph) c.args.limit c.block_beyond.result c.edge_beyond.result
    (rw c.as_slice.ensures at c.block_beyond.ensures) (rw c.as_slice-2.ensures at c.edge_beyond.ensures))
