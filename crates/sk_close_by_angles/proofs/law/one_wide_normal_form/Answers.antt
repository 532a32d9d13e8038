use Rattle.sk_close_by_angles.proofs.WideForm.{wide_same}
use Rattle.sk_close_by_angles.proofs.law.one_wide_normal_form.Goals as goal

pub returns : goal.returns
returns c = wide_same
