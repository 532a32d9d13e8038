use Rattle.sk_close_by_angles.proofs.OneText.{lists_rise, just_lists}
use Rattle.sk_close_by_angles.proofs.law.derived_lists_rise.Goals as goal

pub returns-clause-rise : goal.returns-clause-rise
returns-clause-rise c g f sound = lists_rise g sound f

pub returns-clause-just : goal.returns-clause-just
returns-clause-just c g f sound = just_lists g sound f
