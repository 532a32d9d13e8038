-- The numbers of statuses.
use Rattle.std.specs.Prelude.{ℕ}
use Rattle.sk_answers.specs.declared.status.Status.{Status}
use Rattle.sk_answers.specs.declared.status.Status.TheVariants.{Done, Refused, Usage, ReadFault, WriteFault, NoMemory, NotWell, StepFault, Tolerance, NotVerified}

abbrev pub status_code : Status → ℕ
status_code Done = 0
status_code Refused = 1
status_code Usage = 2
status_code ReadFault = 3
status_code WriteFault = 4
status_code NoMemory = 5
status_code NotWell = 6
status_code StepFault = 7
status_code Tolerance = 8
status_code NotVerified = 9
