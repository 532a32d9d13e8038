use Rattle.std.proofs.Common.{◌≡◌, ℕ, List, subst}
use Rattle.sk_request.specs.declared.Command.{Command}
use Rattle.sk_request.specs.declared.Command.TheVariants.{Measure}
use Rattle.sk_request.specs.declared.Request.{Request}
use Rattle.sk_answers.specs.declared.Status.{Status}
use Rattle.sk_request.specs.Asking.{Asks}
use Rattle.sk_answers.specs.MeasureAnswer.{IsMeasureAnswer}
use Rattle.sk_cli.specs.Outcome.{IsAnswerOf, IsOutcome}
use Rattle.sk_laws.proofs.OneOutcome.{LowerLaws}
use Rattle.sk_laws.proofs.WhyEnds.{answer_about}
use Rattle.sk_laws.proofs.WhyMeasured.{done_exactly, beyond_exactly, turned_exactly, untold_exactly}
use Rattle.sk_laws.proofs.law.why_measure_ends.Goals as goal

-- the answer to words that ask for `measure`
measure_about : (words : List (List ℕ)) (bytes text : List ℕ) (status : Status) (request : Request) → IsOutcome words bytes status text → Asks words request → request.command ≡ Measure → IsMeasureAnswer request.within bytes status text
measure_about words bytes text status request outcome asks is = subst (λ (command : Command). IsAnswerOf command request bytes status text) is (answer_about words bytes text status request outcome asks)

pub returns : goal.returns
returns c =
    let laws : LowerLaws = record {
      sound = c.readable_is_sound.ensures.sound;
      front = record { one_front = c.one_front.ensures.one_front; one_refusal = c.one_front.ensures.one_refusal; not_both = c.one_front.ensures.not_both };
      made = c.datum_sketch_is_sound.ensures;
      reply = c.one_reply.ensures;
      spares = c.one_list_of_spares.ensures;
      derived = c.one_derived_text.ensures;
    } in
    record {
      done = λ words bytes text status request outcome asks is. done_exactly laws request.within bytes text status (measure_about words bytes text status request outcome asks is);
      not_verified = λ words bytes text status request outcome asks is. untold_exactly laws request.within bytes text status (measure_about words bytes text status request outcome asks is);
      tolerance = λ words bytes text status request outcome asks is. beyond_exactly laws request.within bytes text status (measure_about words bytes text status request outcome asks is);
      step_fault = λ words bytes text status request outcome asks is. turned_exactly laws request.within bytes text status (measure_about words bytes text status request outcome asks is);
    }
