use Rattle.sk_close_by_order.specs.Choices.{AreChoices}
use Rattle.sk_close_by_order.proofs.OneRun.{choices_are_one, runs_are_one}
use Rattle.sk_close_by_order.proofs.law.one_run.Goals as goal

pub returns : goal.returns
returns g c h f p ms ns one other last end ours theirs =
    runs_are_one (AreChoices h) (choices_are_one h) g.P.Picker.answer g.P.Picker.after f p ms ns one other last end ours.leads ours.ends theirs.leads theirs.ends
