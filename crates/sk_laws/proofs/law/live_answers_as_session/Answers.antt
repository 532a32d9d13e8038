use Rattle.sk_laws.proofs.LiveAsSession.{as_session, as_live, outcome_there, outcome_back}
use Rattle.sk_laws.proofs.law.live_answers_as_session.Goals as goal

pub returns-clause-answer : goal.returns-clause-answer
returns-clause-answer c request bytes text status few = (as_session request bytes text few status, as_live request bytes text few status)

pub returns-clause-outcome : goal.returns-clause-outcome
returns-clause-outcome c words other request bytes text status asks is others few =
    (outcome_there words other request bytes text status asks is others few, outcome_back words other request bytes text status asks is others few)
