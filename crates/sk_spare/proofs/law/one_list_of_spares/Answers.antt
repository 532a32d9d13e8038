use Rattle.sk_base.specs.Numbering.{con_number}
use Rattle.sk_base.proofs.Unions.{rising_same}
use Rattle.sk_spare.proofs.law.one_list_of_spares.Goals as goal

pub returns : goal.returns
returns c g one other p q =
    rising_same con_number one other p.rise q.rise
    (λ k h. (q.exactly k).1 ((p.exactly k).0 h))
    (λ k h. (p.exactly k).1 ((q.exactly k).0 h))
