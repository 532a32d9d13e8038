use Rattle.sk_lang.proofs.WrittenBack.{reads_canonical, reads_canonical_2}
use Rattle.sk_lang.proofs.law.written_reads_back.Goals as goal

pub returns-clause-canonical : goal.returns-clause-canonical
returns-clause-canonical c = reads_canonical

pub returns-clause-canonical_2 : goal.returns-clause-canonical_2
returns-clause-canonical_2 c = reads_canonical_2
