use Rattle.sk_open_triples.proofs.Outcomes.{both_ok}
use Rattle.sk_open_triples.proofs.rows.key_of_row.Goals as goal

pub returns-in-None-clause-row : goal.returns-in-None-clause-row
returns-in-None-clause-row c = both_ok _ _ _ c.add_row.result c.add_row.ensures.last c.add_row.ensures.last (λ key last again. last.is_row)
