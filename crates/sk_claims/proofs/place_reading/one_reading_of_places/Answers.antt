use Rattle.sk_claims.proofs.ReadPlaces.{some_answer, one_claim as one_claim_lem, one_refusal as one_refusal_lem, not_both as not_both_lem}
use Rattle.sk_claims.proofs.place_reading.one_reading_of_places.Goals as goal

pub returns-clause-some : goal.returns-clause-some
returns-clause-some c = some_answer

pub returns-clause-one_claim : goal.returns-clause-one_claim
returns-clause-one_claim c = one_claim_lem

pub returns-clause-one_refusal : goal.returns-clause-one_refusal
returns-clause-one_refusal c = one_refusal_lem

pub returns-clause-not_both : goal.returns-clause-not_both
returns-clause-not_both c = not_both_lem
