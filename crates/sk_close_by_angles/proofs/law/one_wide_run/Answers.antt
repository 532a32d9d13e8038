use Rattle.sk_close_by_order.proofs.OneRun.{runs_are_one}
use Rattle.sk_close_by_angles.specs.WideChoices.{AreWideChoices}
use Rattle.sk_close_by_angles.proofs.OneWideRun.{wide_choices_are_one}
use Rattle.sk_close_by_angles.proofs.law.one_wide_run.Goals as goal

pub returns : goal.returns
returns g c h f p ms ns one other last end ours theirs =
    runs_are_one (AreWideChoices h) (wide_choices_are_one h) g.P.Picker.answer g.P.Picker.after f p ms ns one other last end ours.leads ours.ends theirs.leads theirs.ends
