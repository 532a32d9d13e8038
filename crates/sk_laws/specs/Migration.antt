-- Commands that answer the same to a sketch in either version of the language.
use Rattle.std.specs.Prelude.{◌≡◌, ℕ, List}
use Rattle.sk_request.specs.declared.Account.TheVariants.{Migrated}
use Rattle.sk_request.specs.declared.Command.{Command}
use Rattle.sk_request.specs.declared.Command.TheVariants.{Tell, Offers, Session, Grow, Verify, Flips, Live, Measure}
use Rattle.sk_request.specs.declared.Request.{Request}
use Rattle.sk_answers.specs.declared.Status.TheVariants.{Done}
use Rattle.sk_request.specs.Asking.{Asks}
use Rattle.sk_cli.specs.Outcome.{IsOutcome}

-- the whole input of the command is one sketch
abbrev pub ReadsOneSketch : Command → Type 0
ReadsOneSketch Offers = ⊥
ReadsOneSketch Session = ⊥
ReadsOneSketch (Grow n) = ⊥
ReadsOneSketch Verify = ⊥
ReadsOneSketch Flips = ⊥
ReadsOneSketch Live = ⊥
ReadsOneSketch Measure = ⊥
ReadsOneSketch command = Unit {0}

-- the words ask for such a command
abbrev pub AskOfOneSketch : List (List ℕ) → Type 0
AskOfOneSketch words = (request : Request) × Asks words request × ReadsOneSketch request.command

-- `migrate` is done with the input, and this is what it writes
pub record IsMigrated (bytes text : List ℕ) : Type 0 where
  pub words : List (List ℕ)
  pub request : Request
  pub asks : Asks words request
  pub migrates : request.command ≡ Tell Migrated
  pub outcome : IsOutcome words bytes Done text
