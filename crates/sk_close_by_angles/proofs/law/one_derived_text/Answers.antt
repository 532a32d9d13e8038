use Rattle.sk_close_by_angles.proofs.OneText.{one_text}
use Rattle.sk_close_by_angles.proofs.law.one_derived_text.Goals as goal

pub returns : goal.returns
returns c g s one other sound = one_text g sound s one other
