use Rattle.std.proofs.Common.{◌<◌, get_or, subst, sym}
use Rattle.std.proofs.lemmas.List.Elements.{Contains-get_or}
use Rattle.sk_open_triples.proofs.Dropping.{dropped_none, dropped_more, dropped_all}
use Rattle.sk_open_triples.proofs.rows.drop_at_all.Goals as goal

pub loop-key-init : goal.loop-key-init
loop-key-init c = dropped_none c.args.names.now c.args.keys.now c.args.rows.now

pub drop_at-requires-clause-within : goal.drop_at-requires-clause-within
drop_at-requires-clause-within c =
    subst (λ n. get_or c.args.keys.now c.loop-key.key-index 0 < n) (sym c.loop-key.invariant.as_many)
    (c.requires.within (get_or c.args.keys.now c.loop-key.key-index 0) (Contains-get_or c.args.keys.now c.loop-key.key-index 0 c.loop-key-test.true))

pub loop-key-preserved : goal.loop-key-preserved
loop-key-preserved c =
    dropped_more c.args.names.now c.args.keys.now c.args.rows.now c.loop-key.rows c.drop_at.new.rows c.loop-key.key-index 0 c.loop-key-test.true c.drop_at.ensures c.loop-key.invariant

pub returns : goal.returns
returns c = dropped_all c.args.names.now c.args.keys.now c.args.rows.now c.loop-key.rows c.loop-key.key-index c.loop-key-test.false c.loop-key.invariant
