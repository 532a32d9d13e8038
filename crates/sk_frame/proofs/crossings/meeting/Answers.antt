use Rattle.std.proofs.Common.{sym, ◌∙◌}
use Rattle.sk_frame.proofs.Meetings.{isnt_zero}
use Rattle.sk_frame.proofs.crossings.meeting.Goals as goal

pub crossing-requires-clause-crosses : goal.crossing-requires-clause-crosses
crossing-requires-clause-crosses c = isnt_zero _ (sym c.are_parallel.ensures ∙ c.if-are_parallel.false)
