use Rattle.std.proofs.Common.{get_or}
use Rattle.std.proofs.lemmas.List.Elements.{Contains-get_or}
use Rattle.sk_open_triples.specs.OpenRows.{InheritsElse}
use Rattle.sk_triangles.proofs.Growing.{grows_start, grows_step, grows_end}
use Rattle.sk_open_triples.proofs.rows.add_inherited_from.Goals as goal

pub loop-key-init : goal.loop-key-init
loop-key-init c = grows_start (InheritsElse c.args.rows.now c.args.but c.args.heir c.args.gone.now) c.args.keys.now c.args.all.now

pub add_inherited_at-requires-clause-within : goal.add_inherited_at-requires-clause-within
add_inherited_at-requires-clause-within c = c.requires.within (get_or c.args.keys.now c.loop-key.key-index 0) (Contains-get_or c.args.keys.now c.loop-key.key-index 0 c.loop-key-test.true)

pub loop-key-preserved : goal.loop-key-preserved
loop-key-preserved c =
    grows_step (InheritsElse c.args.rows.now c.args.but c.args.heir c.args.gone.now) c.args.keys.now c.args.all.now c.loop-key.all c.add_inherited_at.new.all c.loop-key.key-index 0 c.loop-key-test.true c.loop-key.invariant
    c.in_ok-add_inherited_at.ensures

pub returns : goal.returns
returns c = grows_end (InheritsElse c.args.rows.now c.args.but c.args.heir c.args.gone.now) c.args.keys.now c.args.all.now c.loop-key.all c.loop-key.key-index c.loop-key-test.false c.loop-key.invariant
