use Rattle.std.proofs.Common.{subst}
use Rattle.sk_request.specs.declared.Command.{Command}
use Rattle.sk_cli.specs.Outcome.{IsAnswerOf}
use Rattle.sk_laws.proofs.OneOutcome.{LowerLaws}
use Rattle.sk_request.proofs.Sizes.{size_fits}
use Rattle.sk_laws.proofs.WhyEnds.{answer_about, sound_about, solved_about, usage_both, refused_both, not_well_exactly, fault_exactly, beyond_exactly, held_both, done_unless_refused, done_where_well, verified_exactly, failing_exactly}
use Rattle.sk_laws.proofs.law.causes.Goals as goal

pub returns : goal.returns
returns c =
    let laws : LowerLaws = record {
      sound = c.readable_is_sound.ensures.sound;
      front = record { one_front = c.one_front.ensures.one_front; one_refusal = c.one_front.ensures.one_refusal; not_both = c.one_front.ensures.not_both };
      made = c.datum_sketch_is_sound.ensures;
      reply = c.one_reply.ensures;
      spares = c.one_list_of_spares.ensures;
      derived = c.one_derived_text.ensures;
    } in
    let law = c.one_judgement.ensures in
    let one_sketch = c.one_answer.ensures.one_sketch in
    let not_both = c.one_answer.ensures.not_both in
    record {
      usage = usage_both;
      refused = λ words bytes text status request outcome asks.
          refused_both one_sketch not_both law laws request.command request bytes text status (answer_about words bytes text status request outcome asks);
      not_well = λ words bytes text status request outcome asks other.
          not_well_exactly one_sketch not_both law laws request.command request bytes text status (answer_about words bytes text status request outcome asks) other;
      step_fault = λ words bytes text status request outcome asks other.
          fault_exactly one_sketch not_both law laws request.command request bytes text status (answer_about words bytes text status request outcome asks) (size_fits words request asks) other;
      tolerance = λ words bytes text status request outcome asks other.
          beyond_exactly one_sketch not_both law laws request.command request bytes text status (answer_about words bytes text status request outcome asks) (size_fits words request asks) other;
      done = λ words bytes text status request s outcome asks placed about.
          (let solved = solved_about one_sketch not_both request.command request bytes text status s (answer_about words bytes text status request outcome asks) placed about in
          held_both law laws solved.0 request s status text solved.2 (sound_about laws request.command request bytes s (size_fits words request asks) about));
      done_unless_refused = λ words bytes text status request outcome asks.
          done_unless_refused one_sketch not_both law laws request.command request bytes text status (answer_about words bytes text status request outcome asks);
      done_where_well = λ words bytes text status request outcome asks.
          done_where_well one_sketch not_both law laws request.command request bytes text status (answer_about words bytes text status request outcome asks);
      done_where_accepted = λ words bytes text status request outcome asks is.
          verified_exactly laws request bytes text status
          (subst (λ (c : Command). IsAnswerOf c request bytes status text) is (answer_about words bytes text status request outcome asks));
      not_verified = λ words bytes text status request outcome asks other.
          failing_exactly laws request.command other request bytes text status (answer_about words bytes text status request outcome asks);
    }
