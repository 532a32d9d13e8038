use Rattle.std.proofs.Common.{length}
use Rattle.sk_lines.proofs.Splitting.{StandInOrder-wider}
use Rattle.sk_lines.proofs.lines.words_under.Goals as goal

pub returns-in-Ok-clause-order : goal.returns-in-Ok-clause-order
returns-in-Ok-clause-order c = StandInOrder-wider 0 c.in-Ok.words.items c.len_before_comment.result (length c.args.line.now) c.in-Ok.ensures.order c.len_before_comment.ensures.within
