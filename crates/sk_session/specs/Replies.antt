-- What a session answers to a line, and its next state.
use Rattle.std.specs.Prelude.{◌≡◌, ◌≢◌, ◌⊎◌, ℕ, Bool, true, false, List, [], ◌∷◌, Option, Some, None}
use Rattle.sk_base.specs.declared.Elem.{Elem}
use Rattle.sk_base.specs.declared.ConId.{ConId}
use Rattle.sk_lines.specs.declared.Version.TheVariants.{Two}
use Rattle.sk_lines.specs.Comments.{words_under}
use Rattle.sk_lines.specs.declared.Code.{Code}
use Rattle.sk_lines.specs.declared.Code.TheVariants.{S5}
use Rattle.sk_entry.specs.declared.Entry.{Entry}
use Rattle.sk_entry.specs.declared.Entry.TheVariants as entry
use Rattle.sk_entry.specs.Entry.{IsEntryOf}
use Rattle.sk_verdict.specs.declared.Judgement.{Judgement}
use Rattle.sk_verdict.specs.declared.Verdict.TheVariants.{Well}
use Rattle.sk_tree.specs.declared.Plan.{Plan}
use Rattle.sk_plan.specs.Judged.{IsTheJudgement}
use Rattle.sk_plan.specs.PlanBy.{IsPlanBy}
use Rattle.sk_session.specs.declared.reply.Reply.{Reply}
use Rattle.sk_session.specs.declared.reply.Reply.TheVariants as reply
use Rattle.sk_edits.specs.declared.Command.{Command}
use Rattle.sk_edits.specs.declared.Command.TheVariants as command
use Rattle.sk_edits.specs.declared.Edit.{Edit}
use Rattle.sk_edits.specs.declared.Edit.TheVariants as edit
use Rattle.sk_edits.specs.Edits.{next_element, next_constraint}
use Rattle.sk_edits.specs.Commands.{command_of, edit_made}
use Rattle.sk_session.specs.SessionCodes.{code_in}
use Rattle.sk_session.specs.State.{State, sketch_in, graph_in, Accepts, TakesBack, Closes, IsHeldUp}

-- the judgement on the sketch, with the kept family closed
abbrev pub Checks : State → Reply → State → Type 0
Checks old answer new = (j : Judgement) × (answer ≡ reply.Checked j) × IsTheJudgement (graph_in old) j × Closes old new

-- the plan of the sketch, or the judgement on it where the verdict isn't well
abbrev pub Plans : State → Reply → Type 0
Plans state answer =
    ((p : Plan) × (answer ≡ reply.Planned p) × IsPlanBy state.order (sketch_in state) p)
    ⊎ ((j : Judgement) × (answer ≡ reply.NotWell j) × IsTheJudgement (graph_in state) j × (j.verdict ≢ Well))

-- nothing but the answer
abbrev pub Only : State → Reply → Reply → State → Type 0
Only old this answer new = (answer ≡ this) × (new ≡ old)

-- the edit stands now
abbrev pub Stands : State → Option Edit → Reply → Reply → State → Type 0
Stands old None this answer new = ⊥
Stands old (Some e) this answer new = (answer ≡ this) × Accepts old e new

-- refused where the edits are spent, else the edit stands now
abbrev pub Takes : Bool → State → Edit → Reply → Reply → State → Type 0
Takes true old e this answer new = Only old (reply.Refused S5) answer new
Takes false old e this answer new = (answer ≡ this) × Accepts old e new

-- a command without a code
abbrev pub Obeys : State → Option Command → List (List ℕ) → Reply → State → Type 0
Obeys old None rest answer new = ⊥
Obeys old (Some (command.Change change)) rest answer new = Stands old (edit_made (sketch_in old) change rest) reply.Done answer new
Obeys old (Some command.Undo) rest answer new = (answer ≡ reply.Done) × TakesBack old new
Obeys old (Some command.Check) rest answer new = Checks old answer new
Obeys old (Some command.Plan) rest answer new = Plans old answer × (new ≡ old)
Obeys old (Some command.Solve) rest answer new = Only old reply.Solve answer new
Obeys old (Some command.Write) rest answer new = Only old reply.Write answer new
Obeys old (Some command.End) rest answer new = Only old reply.End answer new

abbrev pub ObeysWords : State → List (List ℕ) → Reply → State → Type 0
ObeysWords old [] answer new = ⊥
ObeysWords old (first ∷ rest) answer new = Obeys old (command_of first) rest answer new

-- what a line without a code says, and what comes of it
abbrev pub Enters : State → List (List ℕ) → Entry → Reply → State → Type 0
Enters old words entry.Blank answer new = Only old reply.Blank answer new
Enters old words (entry.Element e) answer new = Stands old (Some (edit.Element e)) (reply.Declared e.number) answer new
Enters old words (entry.Constraint c) answer new = Stands old (Some (edit.Constraint c)) (reply.Constrained c.number) answer new
Enters old words (entry.Other other) answer new = ObeysWords old words answer new

-- the next numbers
abbrev pub next_elem : State → Elem
next_elem state = record { 0 = next_element state.edits }

abbrev pub next_con : State → ConId
next_con state = record { 0 = next_constraint state.edits }

-- refused with the code if there is one
abbrev pub ByCode : Option Code → State → Type 0 → Reply → State → Type 0
ByCode (Some code) old does answer new = Only old (reply.Refused code) answer new
ByCode None old does answer new = does

-- a line with a code is refused with it; else comes what it says
abbrev pub Answers : State → List ℕ → Reply → State → Type 0
Answers old line answer new =
    ByCode (code_in old line) old ((said : Entry) × IsEntryOf Two (sketch_in old) line (next_elem old) (next_con old) said × Enters old (words_under Two line) said answer new) answer new

-- the line is the one word `check`
abbrev pub IsCheckLine : List (List ℕ) → Type 0
IsCheckLine words = (first : List ℕ) × (words ≡ first ∷ []) × (command_of first ≡ Some command.Check)

-- where memory runs out nothing has changed, but that a check may leave merges of the kept family done
abbrev pub IsHalted : State → List (List ℕ) → State → Type 0
IsHalted old words new = (new ≡ old) ⊎ (IsCheckLine words × IsHeldUp old new)
