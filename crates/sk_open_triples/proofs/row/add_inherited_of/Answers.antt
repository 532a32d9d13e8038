use Rattle.std.proofs.Common.{subst}
use Rattle.sk_family.specs.declared.Merge.{Merge}
use Rattle.sk_triangles.specs.Growing.{GrowsBy}
use Rattle.sk_triangles.proofs.Growing.{grows_start, grows_step, grows_end}
use Rattle.sk_open_triples.specs.Inherited.{Inherits}
use Rattle.sk_open_triples.specs.OpenRows.{InheritsFrom}
use Rattle.sk_open_triples.proofs.row.add_inherited_of.Goals as goal

pub loop-pair-init : goal.loop-pair-init
loop-pair-init c = grows_start (InheritsFrom c.args.heir c.args.gone.now c.args.greatest) c.args.rest.now c.args.all.now

pub loop-pair-preserved : goal.loop-pair-preserved
loop-pair-preserved c =
    grows_step (InheritsFrom c.args.heir c.args.gone.now c.args.greatest) c.args.rest.now c.args.all.now c.loop-pair.all c.add_if_inherited.new.all c.loop-pair.pair-index _ c.loop-pair-test.true
    c.loop-pair.invariant
    (subst (λ (t : Merge). GrowsBy (Inherits c.args.heir c.args.gone.now t) c.loop-pair.all c.add_if_inherited.new.all) c.below.ensures c.in_ok-add_if_inherited.ensures)

pub returns : goal.returns
returns c =
    grows_end (InheritsFrom c.args.heir c.args.gone.now c.args.greatest) c.args.rest.now c.args.all.now c.loop-pair.all c.loop-pair.pair-index c.loop-pair-test.false c.loop-pair.invariant
