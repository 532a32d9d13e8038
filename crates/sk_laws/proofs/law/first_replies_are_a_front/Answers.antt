use Rattle.sk_laws.proofs.OneOutcome.{LowerLaws, front_of_outcome, front_of_live}
use Rattle.sk_laws.proofs.law.first_replies_are_a_front.Goals as goal

pub returns : goal.returns
returns c =
    let laws : LowerLaws = record {
      sound = c.readable_is_sound.ensures.sound;
      made = c.datum_sketch_is_sound.ensures;
      reply = c.one_reply.ensures;
      spares = c.one_list_of_spares.ensures;
      derived = c.one_derived_text.ensures;
      front = record { one_front = c.one_front.ensures.one_front; one_refusal = c.one_front.ensures.one_refusal; not_both = c.one_front.ensures.not_both };
    } in
    record { session = front_of_outcome c.one_judgement.ensures laws; live = front_of_live c.one_judgement.ensures laws }
