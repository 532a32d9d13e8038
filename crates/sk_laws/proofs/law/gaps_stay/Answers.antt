use Rattle.sk_graph.proofs.Soundness.{graph_is_sound}
use Rattle.sk_request.proofs.Sizes.{size_fits}
use Rattle.sk_laws.proofs.GapsNamed.{gap_solved}
use Rattle.sk_laws.proofs.OneOutcome.{LowerLaws}
use Rattle.sk_laws.proofs.WhyEnds.{answer_about, solved_about, sound_about}
use Rattle.sk_laws.proofs.law.gaps_stay.Goals as goal

pub returns-clause-solved : goal.returns-clause-solved
returns-clause-solved c report coarse fine s f named text status sound as_fine told solved = gap_solved coarse fine s (graph_is_sound s sound) as_fine f named told report status text solved

pub returns-clause-outcome : goal.returns-clause-outcome
returns-clause-outcome c words bytes named text status coarse fine s f outcome asks solving about as_fine told =
    let laws : LowerLaws = record {
      sound = c.readable_is_sound.ensures.sound;
      front = record { one_front = c.one_front.ensures.one_front; one_refusal = c.one_front.ensures.one_refusal; not_both = c.one_front.ensures.not_both };
      made = c.datum_sketch_is_sound.ensures;
      reply = c.one_reply.ensures;
      spares = c.one_list_of_spares.ensures;
      derived = c.one_derived_text.ensures;
    } in
    let sound = sound_about laws fine.command fine bytes s (size_fits words fine asks) about in
    let solved = solved_about c.one_answer.ensures.one_sketch c.one_answer.ensures.not_both fine.command fine bytes text status s (answer_about words bytes text status fine outcome asks) solving about in
    gap_solved coarse fine s sound as_fine f named told solved.0 status text solved.2
