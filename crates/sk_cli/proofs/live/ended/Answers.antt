use Rattle.std.proofs.Common.{refl}
use Rattle.sk_cli.proofs.LiveEnds.{nothing_gained}
use Rattle.sk_cli.proofs.live.ended.Goals as goal

pub returns-in-Done-clause-told : goal.returns-in-Done-clause-told
returns-in-Done-clause-told g c = rw c.in-Done.is (refl, nothing_gained (g.K.Sink.written c.args.sink.now))

pub returns-in-ReadFault-clause-told : goal.returns-in-ReadFault-clause-told
returns-in-ReadFault-clause-told g c = rw c.in-ReadFault.is (refl, nothing_gained (g.K.Sink.written c.args.sink.now))

pub returns-in-WriteFault-clause-told : goal.returns-in-WriteFault-clause-told
returns-in-WriteFault-clause-told g c = rw c.in-WriteFault.is (refl, nothing_gained (g.K.Sink.written c.args.sink.now))

pub returns-in-NoMemory-clause-told : goal.returns-in-NoMemory-clause-told
returns-in-NoMemory-clause-told g c = rw c.in-NoMemory.is (refl, nothing_gained (g.K.Sink.written c.args.sink.now))

pub returns-in-TooLong-clause-told : goal.returns-in-TooLong-clause-told
returns-in-TooLong-clause-told g c = rw c.in-TooLong.is c.refuse.ensures.told

pub returns-in-TooLong-clause-same : goal.returns-in-TooLong-clause-same
returns-in-TooLong-clause-same g c other = absurd (other c.in-TooLong.is)
