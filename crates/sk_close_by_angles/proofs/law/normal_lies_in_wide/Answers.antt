use Rattle.sk_close_by_angles.proofs.WideForm.{normal_lies_in}
use Rattle.sk_close_by_angles.proofs.law.normal_lies_in_wide.Goals as goal

pub returns : goal.returns
returns c = normal_lies_in
