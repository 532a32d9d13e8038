use Rattle.sk_offers.proofs.OfferAnswers.{some_answer, one_list as one_list_lem, one_refusal as one_refusal_lem, not_both as not_both_lem}
use Rattle.sk_offers.proofs.offer_reading.one_reading_of_offers.Goals as goal

pub returns-clause-some : goal.returns-clause-some
returns-clause-some c = some_answer

pub returns-clause-one_list : goal.returns-clause-one_list
returns-clause-one_list c = one_list_lem

pub returns-clause-one_refusal : goal.returns-clause-one_refusal
returns-clause-one_refusal c = one_refusal_lem

pub returns-clause-not_both : goal.returns-clause-not_both
returns-clause-not_both c = not_both_lem
