use Rattle.sk_lang.proofs.Answered.{one_refusal as one_refusal_lem}
use Rattle.sk_lang.proofs.OneFront.{one_front as one_front_lem, front_not_both}
use Rattle.sk_lang.proofs.SomeFronts.{some_front}
use Rattle.sk_lang.proofs.law.one_front.Goals as goal

pub returns-clause-some : goal.returns-clause-some
returns-clause-some c = some_front

pub returns-clause-one_front : goal.returns-clause-one_front
returns-clause-one_front c = one_front_lem

pub returns-clause-one_refusal : goal.returns-clause-one_refusal
returns-clause-one_refusal c bytes n m a b left right = one_refusal_lem bytes n m a b left.refuses right.refuses

pub returns-clause-not_both : goal.returns-clause-not_both
returns-clause-not_both c = front_not_both
