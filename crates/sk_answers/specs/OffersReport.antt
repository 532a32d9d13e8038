-- What a list of offers is answered, and the report on it.
use Rattle.std.specs.Prelude.{◌≡◌, ℕ, List, [], ◌∷◌, ◌++◌, drop}
use Rattle.sk_base.specs.declared.Sketch.{Sketch}
use Rattle.sk_lines.specs.declared.Code.{Code}
use Rattle.sk_lang.specs.declared.Front.{Front}
use Rattle.sk_lines.specs.declared.Refusal.{Refusal}
use Rattle.sk_lang.specs.Front.{ReadsFront}
use Rattle.sk_graph.specs.SketchGraph.{graph_of}
use Rattle.sk_offers.specs.declared.Answer.{Answer}
use Rattle.sk_offers.specs.Offering.{Table, starting_table, IsAnswer, Follows}
use Rattle.sk_verdict.specs.declared.Judgement.{Judgement}
use Rattle.sk_plan.specs.Judged.{IsTheJudgement}
use Rattle.sk_report.specs.AnswerLine.{answer_line}
use Rattle.sk_report.specs.CheckReport.{check_report}
use Rattle.sk_report.specs.RefusalLine.{refusal_line}
use Rattle.sk_offers.specs.declared.OfferLine.{OfferLine}
use Rattle.sk_answers.specs.Fronts.{IsRefusedAt}
use Rattle.sk_offers.specs.OfferReading.{ReadsOffers, RefusesOffers}
use Rattle.sk_answers.specs.declared.status.Status.{Status}
use Rattle.sk_answers.specs.declared.status.Status.TheVariants.{Done, Refused}

-- offers, one after another, lead from one board to another: each is answered as it is to be, on a line
abbrev pub AreAnswered : Table → List OfferLine → Table → List ℕ → Type 0
AreAnswered t [] end text = (end ≡ t) × (text ≡ [])
AreAnswered t (o ∷ os) end text =
    (a : Answer) × (next : Table) × (rest : List ℕ) × IsAnswer t.graph t.family o.merge a × Follows t o.merge a next
    × AreAnswered next os end rest × (text ≡ answer_line o.worker a ++ rest)

-- a line for each offer, and then the check report of the sketch, which is the same whatever is offered
pub record IsReportOnOffers (s : Sketch) (offers : List OfferLine) (text : List ℕ) : Type 0 where
  pub board : Table
  pub lines : List ℕ
  pub judgement : Judgement
  pub answered : AreAnswered (starting_table (graph_of s)) offers board lines
  pub judged : IsTheJudgement (graph_of s) judgement
  pub is : text ≡ lines ++ check_report s judgement

-- the sketch is read as it stands up to its `end`, and what follows as offers
abbrev pub IsOffersReport : List ℕ → List ℕ → Type 0
IsOffersReport bytes text =
    (front : Front) × (offers : List OfferLine) × ReadsFront bytes front × ReadsOffers (drop front.used bytes) offers × IsReportOnOffers front.sketch offers text

-- the text behind a sketch is refused as offers, on a line that is counted from the first of the whole text
abbrev pub RefusesOffersBehind : Front → List ℕ → ℕ → Code → Type 0
RefusesOffersBehind front = RefusesOffers front.lines

-- a line of the sketch or one behind it is refused
abbrev pub IsOffersRefusal : List ℕ → List ℕ → Type 0
IsOffersRefusal bytes text = (r : Refusal) × IsRefusedAt RefusesOffersBehind bytes r × (text ≡ refusal_line r)

-- what `offers` answers to an input
abbrev pub IsOffersAnswer : List ℕ → Status → List ℕ → Type 0
IsOffersAnswer bytes Done text = IsOffersReport bytes text
IsOffersAnswer bytes Refused text = IsOffersRefusal bytes text
IsOffersAnswer bytes status text = ⊥
