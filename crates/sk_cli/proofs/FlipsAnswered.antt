-- What `flips` answers, from what was read.
use Rattle.std.proofs.Common.{ℕ, List}
use Rattle.std.specs.Prelude.{Result, Ok, Err, IfOk}
use Rattle.sk_base.specs.declared.Name.{Name}
use Rattle.sk_lang.specs.declared.Front.{Front}
use Rattle.sk_answers.specs.declared.Answer.{Answer}
use Rattle.sk_request.specs.declared.Request.{Request}
use Rattle.sk_answers.specs.declared.Status.{Status}
use Rattle.sk_answers.specs.declared.Status.TheVariants.{Refused}
use Rattle.sk_cli.specs.FlipsReport.{IsFlipped, ReadsSketchAndFlips, IsFlipsAnswer}

pub answers_flips : (request : Request) (bytes : List ℕ) (status : Status) (text : List ℕ) (front : Front) (lists : List (List Name)) → ReadsSketchAndFlips bytes front lists
    → IsFlipped request front.sketch lists status text → IsFlipsAnswer request bytes status text
answers_flips request bytes Refused text front lists reads told = absurd told
answers_flips request bytes status text front lists reads told = (front, lists, reads, told)

pub flips_answered : {E : Type 0} (request : Request) (bytes : List ℕ) (front : Front) (lists : List (List Name)) (r : Result Answer E) → ReadsSketchAndFlips bytes front lists
    → IfOk r (λ answer. IsFlipped request front.sketch lists answer.status answer.text) → IfOk r (λ answer. IsFlipsAnswer request bytes answer.status answer.text)
flips_answered request bytes front lists (Ok answer) reads told = answers_flips request bytes answer.status answer.text front lists reads told
flips_answered request bytes front lists (Err e) reads told = told
