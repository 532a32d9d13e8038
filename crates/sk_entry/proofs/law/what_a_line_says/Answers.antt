use Rattle.sk_entry.proofs.Said.{stands_on, is_numbered}
use Rattle.sk_entry.proofs.law.what_a_line_says.Goals as goal

pub returns-clause-stands_on : goal.returns-clause-stands_on
returns-clause-stands_on c = stands_on

pub returns-clause-numbered : goal.returns-clause-numbered
returns-clause-numbered c = is_numbered
