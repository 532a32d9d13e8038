use Rattle.sk_close_by_order.proofs.OneRun.{choices_are_one}
use Rattle.sk_close_by_order.proofs.law.one_list_of_choices.Goals as goal

pub returns : goal.returns
returns c = choices_are_one
