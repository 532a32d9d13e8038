use Rattle.sk_laws.proofs.OneOutcome.{same_outcome}
use Rattle.sk_laws.proofs.law.one_outcome.Goals as goal

pub returns : goal.returns
returns c =
    same_outcome c.one_answer.ensures.one_sketch c.one_answer.ensures.one_refusal c.one_answer.ensures.not_both c.one_judgement.ensures
    (record {
      sound = c.readable_is_sound.ensures.sound;
      made = c.datum_sketch_is_sound.ensures;
      reply = c.one_reply.ensures;
      spares = c.one_list_of_spares.ensures;
      derived = c.one_derived_text.ensures;
      front = record { one_front = c.one_front.ensures.one_front; one_refusal = c.one_front.ensures.one_refusal; not_both = c.one_front.ensures.not_both };
    })
