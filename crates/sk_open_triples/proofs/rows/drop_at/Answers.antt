use Rattle.sk_open_triples.proofs.Dropping.{dropped_at}
use Rattle.sk_open_triples.proofs.rows.drop_at.Goals as goal

pub returns : goal.returns
returns c = dropped_at c.args.rows.now c.args.key c.index-rows-key.result c.drop_naming.new.self c.requires.within c.args.names.now c.drop_naming.ensures
