use Rattle.sk_claims.proofs.PrintedWords.{whole_back, tolerance_back, cluster_back}
use Rattle.sk_claims.proofs.law.printed_words_read_back.Goals as goal

pub returns-clause-numbers : goal.returns-clause-numbers
returns-clause-numbers c = whole_back

pub returns-clause-tolerances : goal.returns-clause-tolerances
returns-clause-tolerances c = tolerance_back

pub returns-clause-clusters : goal.returns-clause-clusters
returns-clause-clusters c = cluster_back
