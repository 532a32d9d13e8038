use Rattle.std.proofs.Common.{◌≡◌, ◌<◌, ◌∙◌, [], ap, length, arith}
use Rattle.std.proofs.lemmas.Bool.Decides.{nat_tests}
use Rattle.sk_live_lines.proofs.Rooms.{last_fits}
use Rattle.sk_live_lines.proofs.TurnEnds.{nothing_gained, no_line, finished_whole, finished_answered, finished_stopped}
use Rattle.sk_live_lines.proofs.hearing.Hearing.finish.Goals as goal

pub returns-then-len-eq0-clause-ended : goal.returns-then-len-eq0-clause-ended
returns-then-len-eq0-clause-ended g c first taken text at fits =
    let size = ap length c.take_out-line.ensures.text in
    let none : length c.args.self.now.kept ≡ 0 = grind (arith, nat_tests, c.if-len-eq0.true, c.len.ensures, size) in (
      [],
      nothing_gained (g.K.Sink.written c.args.sink.now),
      finished_whole g.R.Replier.replies g.R.Replier.ends first taken c.args.self.now.kept c.args.replier.now text at fits
          (no_line g.R.Replier.replies g.R.Replier.ends first taken c.args.self.now.kept c.args.replier.now text at none),
    )

pub returns-in-Ok-clause-ended : goal.returns-in-Ok-clause-ended
returns-in-Ok-clause-ended g c first taken text at fits =
    let size = ap length c.take_out-line.ensures.text in
    let some : 0 < length c.args.self.now.kept = grind (arith, nat_tests, c.if-len-eq0.false, c.len.ensures, size) in
    let said = c.in-Ok.ensures.ok in (
      said.1,
      said.5,
      finished_answered g.R.Replier.replies g.R.Replier.ends first taken c.args.self.now.kept c.args.replier.now text at g.R.Replier.long_alike fits
          c.as_bytes.result.now said.0 said.1 said.2 c.answer.new.replier (c.as_bytes.ensures ∙ c.take_out-line.ensures.text) some said.3 said.4,
    )

pub returns-clause-ended : goal.returns-clause-ended
returns-clause-ended g c first taken text at fits =
    let size = ap length c.take_out-line.ensures.text in
    let some : 0 < length c.args.self.now.kept = grind (arith, nat_tests, c.if-len-eq0.false, c.len.ensures, size) in
    let stopped = c.in-Err.ensures.err in
    finished_stopped g.R.Replier.replies g.R.Replier.ends first taken c.args.self.now.kept c.args.replier.now text at g.R.Replier.long_alike g.R.Replier.long_goes_on fits
    c.as_bytes.result.now stopped.0 stopped.1 (c.as_bytes.ensures ∙ c.take_out-line.ensures.text) some stopped.2 (g.K.Sink.written c.args.sink.now) (g.K.Sink.written c.answer.new.sink) c.in-Err.end stopped.3

pub returns-clause-sure : goal.returns-clause-sure
returns-clause-sure g c steady first taken most fits within has failed =
    let size = ap length c.take_out-line.ensures.text in
    let some : 0 < length c.args.self.now.kept = grind (arith, nat_tests, c.if-len-eq0.false, c.len.ensures, size) in
    c.in-Err.ensures.sure steady
    (λ said more others new lines_are replied.
    last_fits g.R.Replier.replies g.R.Replier.ends g.R.Replier.long_alike c.args.self.now.kept c.args.replier.now new (g.K.Sink.sure_room c.args.sink.now) c.as_bytes.result.now said more others (c.as_bytes.ensures ∙ c.take_out-line.ensures.text) some lines_are replied
    first taken most fits within has)
    (cc)

pub returns-then-len-eq0-clause-sure : goal.returns-then-len-eq0-clause-sure
returns-then-len-eq0-clause-sure g c steady first taken most fits within has failed = cc

pub returns-in-Ok-clause-sure : goal.returns-in-Ok-clause-sure
returns-in-Ok-clause-sure g c steady first taken most fits within has failed = cc
