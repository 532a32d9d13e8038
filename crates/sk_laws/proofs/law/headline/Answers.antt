use Rattle.sk_entry.specs.declared.Entry.TheVariants as entry
use Rattle.sk_lines.specs.declared.Version.TheVariants.{Two}
use Rattle.sk_session.proofs.Asked.{OtherBegins}
use Rattle.sk_laws.proofs.OneOutcome.{LowerLaws}
use Rattle.sk_request.proofs.Sizes.{size_fits}
use Rattle.sk_laws.proofs.WhyEnds.{answer_about, sound_about}
use Rattle.sk_laws.proofs.Telling.{LegalPlans, said_about, tells}
use Rattle.sk_laws.proofs.SessionTelling.{tells_next, stands_in, tells_live, stands_in_live}
use Rattle.sk_laws.proofs.law.headline.Goals as goal

pub returns : goal.returns
returns c =
    let laws : LowerLaws = record {
      sound = c.readable_is_sound.ensures.sound;
      front = record { one_front = c.one_front.ensures.one_front; one_refusal = c.one_front.ensures.one_refusal; not_both = c.one_front.ensures.not_both };
      made = c.datum_sketch_is_sound.ensures;
      reply = c.one_reply.ensures;
      spares = c.one_list_of_spares.ensures;
      derived = c.one_derived_text.ensures;
    } in
    let begins : OtherBegins = λ s line elem con words says.
    (let other = (c.what_a_line_says.ensures.stands_on Two s line elem con (entry.Other words) says).0 in (other.first, other.rest, other.words, other.keyword)) in
    let law = c.one_judgement.ensures in
    let normal = c.one_normal_form.ensures in
    let plans : LegalPlans = record { tree = c.legal_plan.ensures.tree; leaves = c.legal_plan.ensures.leaves } in
    record {
      sketch = λ words bytes text status request s outcome asks about.
          tells normal plans law laws request s status text (sound_about laws request.command request bytes s (size_fits words request asks) about) request.command
          (said_about c.one_answer.ensures.one_sketch c.one_answer.ensures.not_both c.readable_is_sound.ensures.some laws request.command request bytes text status s
          (answer_about words bytes text status request outcome asks) about);
      session = λ words bytes before text whole status request new r outcome asks session next. (
        tells_next normal plans law laws begins request bytes before new r text next,
        stands_in normal plans law laws begins request bytes before new r text next words whole status asks session outcome,
      );
      live = λ words bytes before text whole status request new r outcome asks live next. (
        tells_live normal plans law laws begins request bytes before new r text next,
        stands_in_live normal plans law laws begins request bytes before new r text next words whole status asks live outcome,
      );
    }
