-- The text of a completion.
use Rattle.std.specs.Prelude.{ℕ, List, ◌++◌, codes}
use Rattle.sk_base.specs.declared.Sketch.{Sketch}
use Rattle.sk_lang.specs.Canonical.{canonical}
use Rattle.sk_report.specs.CheckReport.{check_report}
use Rattle.sk_verdict.specs.declared.Judgement.{Judgement}
use Rattle.sk_complete.specs.declared.completion.Completion.{Completion}
use Rattle.sk_complete.specs.declared.completion.Completion.TheVariants.{Done, Without}
use Rattle.sk_complete.specs.declared.completion.Reason.{Reason}
use Rattle.sk_complete.specs.declared.completion.Reason.TheVariants.{Over, Lines, Angles, Enough, Stuck}

abbrev pub reason_word : Reason → List ℕ
reason_word Over = codes "over"
reason_word Lines = codes "lines"
reason_word Angles = codes "angles"
reason_word Enough = codes "enough"
reason_word Stuck = codes "stuck"

-- why there is no completion
abbrev pub no_completion : Reason → List ℕ
no_completion why = codes "no completion " ++ (reason_word why ++ codes "\n")

-- the canonical text of the completion; where there is none, why, and behind that the check report of the sketch
abbrev pub completion_text : Sketch → Judgement → Completion → List ℕ
completion_text s j (Done t) = canonical t
completion_text s j (Without why) = no_completion why ++ check_report s j
