use Rattle.sk_base.proofs.Searches.{none_more, none_at_all, refused}
use Rattle.sk_neighbours.specs.Indexed.{IsNamedAt}
use Rattle.sk_neighbours.proofs.index.Index.key_named.Goals as goal

pub loop-key-preserved : goal.loop-key-preserved
loop-key-preserved c =
    none_more (IsNamedAt c.args.self.now c.args.name) c.args.keys.now c.loop-key.key-index c.loop-key.invariant 0 c.loop-key-test.true (refused c.if-is_named_at.ensures.1)

pub returns-clause-none : goal.returns-clause-none
returns-clause-none c = none_at_all (IsNamedAt c.args.self.now c.args.name) c.args.keys.now c.loop-key.key-index c.loop-key.invariant c.loop-key-test.false
