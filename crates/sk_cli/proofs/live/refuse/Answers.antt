use Rattle.sk_cli.proofs.LiveEnds.{nothing_gained}
use Rattle.sk_cli.proofs.live.refuse.Goals as goal

pub returns-in_default-clause-told : goal.returns-in_default-clause-told
returns-in_default-clause-told g c = nothing_gained (g.K.Sink.written c.args.sink.now)
