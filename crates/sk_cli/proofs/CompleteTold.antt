-- What `complete` answers, by its cases.
use Rattle.std.proofs.Common.{◌≡◌, ◌≢◌, ◌⊎◌, inl, inr, refl, ℕ, List}
use Rattle.sk_base.specs.declared.Sketch.{Sketch}
use Rattle.sk_lang.specs.Reading.{Reads}
use Rattle.sk_complete.specs.declared.Completion.{Completion}
use Rattle.sk_complete.specs.declared.Completion.TheVariants as completion
use Rattle.sk_answers.specs.declared.Status.{Status}
use Rattle.sk_answers.specs.declared.Status.TheVariants.{Done, Refused, NotWell}
use Rattle.sk_cli.specs.CompleteAnswer.{IsCompletedOrNot, IsCompleteAnswer, completion_status}
use Rattle.sk_cli.specs.Outcome.{IsRefusalText}

-- a refusal, or what is told of a sketch
pub told_complete : (bytes : List ℕ) (status : Status) (text : List ℕ) → IsCompleteAnswer bytes status text
    → ((status ≡ Refused) × IsRefusalText bytes text) ⊎ ((s : Sketch) × Reads bytes s × IsCompletedOrNot s status text)
told_complete bytes Refused text answer = inl (refl, answer)
told_complete bytes status text answer = inr answer

never_refused : (c : Completion) → Refused ≢ completion_status c
never_refused (completion.Done t) is = cc
never_refused (completion.Without why) is = cc

-- what is told of a sketch is an answer
pub as_answer : (bytes : List ℕ) (status : Status) (text : List ℕ) (s : Sketch) → Reads bytes s → IsCompletedOrNot s status text → IsCompleteAnswer bytes status text
as_answer bytes Refused text s reads told = absurd (never_refused told.0 told.2)
as_answer bytes status text s reads told = (s, reads, told)

-- what is told comes with one of two statuses
pub other_completed : (status : Status) (c : Completion) → status ≡ completion_status c → status ≢ Done → status ≢ NotWell → ⊥
other_completed status (completion.Done t) is done short = done is
other_completed status (completion.Without why) is done short = short is
