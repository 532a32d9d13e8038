use Rattle.sk_excess.proofs.Choosing.{kept_one, none_more, left_has, left_weighs, kept_well}
use Rattle.sk_excess.proofs.law.minimal_choice.Goals as goal

pub returns-clause-one : goal.returns-clause-one
returns-clause-one c g left sound one are = kept_one g sound left are one

pub returns-clause-minimal : goal.returns-clause-minimal
returns-clause-minimal c g left k sound one are = none_more g sound left are one k

pub returns-clause-constraints : goal.returns-clause-constraints
returns-clause-constraints c g left k sound are = left_has g sound left are k

pub returns-clause-weighs : goal.returns-clause-weighs
returns-clause-weighs c g left sound = left_weighs g sound left

pub returns-clause-well : goal.returns-clause-well
returns-clause-well c g left sound one are = kept_well g sound left are one
