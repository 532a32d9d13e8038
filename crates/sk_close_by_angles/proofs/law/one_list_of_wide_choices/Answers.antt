use Rattle.sk_close_by_angles.proofs.OneWideRun.{wide_choices_are_one}
use Rattle.sk_close_by_angles.proofs.law.one_list_of_wide_choices.Goals as goal

pub returns : goal.returns
returns c = wide_choices_are_one
