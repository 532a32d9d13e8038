-- What a session writes in reply to a line.
use Rattle.std.specs.Prelude.{ℕ, List, []}
use Rattle.sk_base.specs.declared.Sketch.{Sketch}
use Rattle.sk_lang.specs.Canonical.{canonical}
use Rattle.sk_report.specs.CheckReport.{check_report}
use Rattle.sk_report.specs.PlanReport.{plan_report}
use Rattle.sk_report.specs.ReplyLines.{done_line, declared_line, constrained_line, refused_line}
use Rattle.sk_session.specs.declared.Reply.{Reply}
use Rattle.sk_session.specs.declared.Reply.TheVariants.{Blank, Done, Declared, Constrained, Refused, Checked, Planned, NotWell, Solve, Write, End}

-- the text of a reply; that to `solve` is the text of the command and isn't told here
abbrev pub told : Sketch → Reply → List ℕ
told s Blank = []
told s Done = done_line
told s (Declared e) = declared_line s e
told s (Constrained k) = constrained_line k
told s (Refused code) = refused_line code
told s (Checked judgement) = check_report s judgement
told s (Planned plan) = plan_report s plan
told s (NotWell judgement) = check_report s judgement
told s Solve = []
told s Write = canonical s
told s End = []
