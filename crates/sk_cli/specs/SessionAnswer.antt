-- What a session answers to its lines.
use Rattle.std.specs.Prelude.{◌≡◌, ◌≢◌, ◌≤◌, ◌<◌, ℕ, List, [], ◌∷◌, ◌++◌, length}
use Rattle.sk_base.specs.SoundSketch.{IsSoundSketch}
use Rattle.sk_base.specs.declared.Sketch.{Sketch}
use Rattle.sk_family.specs.Clusters.{initial_clusters}
use Rattle.sk_graph.specs.SketchGraph.{graph_of}
use Rattle.sk_lines.specs.Lines.{lines_in}
use Rattle.sk_lines.specs.declared.Code.TheVariants.{E20}
use Rattle.sk_place.specs.declared.Layout.{Layout}
use Rattle.sk_report.specs.RefusalLine.{refusal_line}
use Rattle.sk_session.specs.declared.Closing.TheVariants.{InAnyOrder}
use Rattle.sk_session.specs.declared.Reply.{Reply}
use Rattle.sk_session.specs.declared.Reply.TheVariants as reply
use Rattle.sk_entry.specs.Growth.{empty_sketch}
use Rattle.sk_session.specs.State.{State, sketch_in}
use Rattle.sk_session.specs.Replies.{Answers}
use Rattle.sk_close_by_order.specs.declared.Order.{Order}
use Rattle.sk_live_lines.specs.Answering.{HasEnded}
use Rattle.sk_request.specs.declared.Bits.{Bits}
use Rattle.sk_request.specs.declared.Command.TheVariants.{Solve}
use Rattle.sk_request.specs.declared.Request.{Request}
use Rattle.sk_cli.specs.declared.solving.Report.TheVariants.{Places}
use Rattle.sk_answers.specs.declared.Status.{Status}
use Rattle.sk_answers.specs.declared.Status.TheVariants.{Done, Refused}
use Rattle.sk_cli.specs.Solved.{IsSolved}
use Rattle.sk_cli.specs.Told.{told}

-- what the keys of a session say: how it merges, places and measures
pub record SessionKeys : Type 0 where
  pub order : Order
  pub bits : Bits
  pub within : ℕ
  pub layout : Layout

abbrev pub session_keys : Request → SessionKeys
session_keys request = record { order = request.order; bits = request.bits; within = request.within; layout = request.layout }

-- `solve` with these keys
abbrev pub solve_with : SessionKeys → Request
solve_with keys = record { command = Solve; order = keys.order; bits = keys.bits; within = keys.within; layout = keys.layout }

-- the text of a reply: to `solve` what the command writes for the sketch, whatever its status, else what is told
abbrev pub IsReplyText : SessionKeys → Sketch → Reply → List ℕ → Type 0
IsReplyText keys s reply.Solve text = (status : Status) × IsSolved Places (solve_with keys) s status text
IsReplyText keys s r text = text ≡ told s r

-- the line is answered with this reply, the sketch is a sound one, and this is the reply's text
pub record IsReplied (request : Request) (old : State) (line : List ℕ) (new : State) (r : Reply) (text : List ℕ) : Type 0 where
  pub answers : Answers old line r new
  pub sound : IsSoundSketch (sketch_in new)
  pub says : IsReplyText (session_keys request) (sketch_in new) r text

-- the lines are answered in turn, none of them by the end, and this is the text of the replies, one behind another
abbrev pub AreReplied : Request → State → List (List ℕ) → State → List ℕ → Type 0
AreReplied request old [] new text = (new ≡ old) × (text ≡ [])
AreReplied request old (line ∷ lines) new text =
    (r : Reply) × (next : State) × (first : List ℕ) × (rest : List ℕ)
    × IsReplied request old line next r first × (r ≢ reply.End) × AreReplied request next lines new rest × (text ≡ first ++ rest)

-- a session before its first line, whose checks close in any order
abbrev pub at_start : Order → State
at_start order = record { order = order; closing = InAnyOrder; edits = []; count = 0; family = initial_clusters (graph_of empty_sketch) }

-- some lines at the front of the input are answered, and this is the text of their replies
pub record RepliesToFront (request : Request) (bytes text : List ℕ) : Type 0 where
  pub fits : length bytes ≤ 1048576
  pub before : List (List ℕ)
  pub after : List (List ℕ)
  pub parts : lines_in bytes ≡ before ++ after
  pub state : State
  pub replied : AreReplied request (at_start request.order) before state text

-- the line ends the session
abbrev pub EndsSession : State → List ℕ → Type 0
EndsSession state line = (new : State) × Answers state line reply.End new

-- what `session` answers to an input: the replies to its lines up to its end, or that it is too long
abbrev pub IsSessionAnswer : Request → List ℕ → Status → List ℕ → Type 0
IsSessionAnswer request bytes Done text = (front : RepliesToFront request bytes text) × HasEnded EndsSession front.state front.after
IsSessionAnswer request bytes Refused text = (1048576 < length bytes) × (text ≡ refusal_line (record { line = 0; code = E20 }))
IsSessionAnswer request bytes status text = ⊥
