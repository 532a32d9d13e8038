use Rattle.sk_claims.proofs.WrittenClaims.{reads_written}
use Rattle.sk_claims.proofs.law.written_claims_read_back.Goals as goal

pub returns : goal.returns
returns c = λ s claim sound fits can radii. reads_written s sound claim fits can radii
