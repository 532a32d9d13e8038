use Rattle.sk_io.proofs.Reading.{unread}
use Rattle.sk_cli.proofs.top.input.Goals as goal

pub returns-then-makes-clause-reads : goal.returns-then-makes-clause-reads
returns-then-makes-clause-reads g c = unread g.S.Source.is_read_on g.S.Source.is_read_last c.args.source.now
