use Rattle.sk_text.proofs.ReadBack.{mm_of-mm_text}
use Rattle.sk_text.proofs.law.coordinates_read_back.Goals as goal

pub returns : goal.returns
returns c = mm_of-mm_text
