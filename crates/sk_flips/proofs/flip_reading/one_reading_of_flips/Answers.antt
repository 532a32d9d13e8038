use Rattle.sk_flips.proofs.FlipsSoFar.{some_reading, same_flips, same_refusal, read_or_refused}
use Rattle.sk_flips.proofs.flip_reading.one_reading_of_flips.Goals as goal

pub returns-clause-some : goal.returns-clause-some
returns-clause-some c = some_reading

pub returns-clause-one_list : goal.returns-clause-one_list
returns-clause-one_list c = same_flips

pub returns-clause-one_refusal : goal.returns-clause-one_refusal
returns-clause-one_refusal c = same_refusal

pub returns-clause-not_both : goal.returns-clause-not_both
returns-clause-not_both c = read_or_refused
