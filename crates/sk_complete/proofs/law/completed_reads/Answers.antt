use Rattle.sk_complete.proofs.CountingOn.{completion_reads}
use Rattle.sk_complete.proofs.law.completed_reads.Goals as goal

pub returns : goal.returns
returns c = completion_reads
