use Rattle.sk_lines.specs.Comments.{words_under}
use Rattle.sk_entry.proofs.SameEntries.{same_entry}
use Rattle.sk_entry.proofs.SomeEntries.{some_entry}
use Rattle.sk_entry.proofs.law.one_entry.Goals as goal

pub returns-clause-some : goal.returns-clause-some
returns-clause-some c = some_entry

pub returns-clause-one : goal.returns-clause-one
returns-clause-one c v s line elem con x y is other = same_entry v s line (words_under v line) elem con x y is other
