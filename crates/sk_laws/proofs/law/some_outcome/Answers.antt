use Rattle.sk_lines.specs.declared.Version.TheVariants.{Two}
use Rattle.sk_laws.proofs.SomeOutcomes.{some_outcome}
use Rattle.sk_laws.proofs.law.some_outcome.Goals as goal

pub returns : goal.returns
returns c words bytes =
    let found =
    some_outcome (record {
      answer = c.one_answer.ensures.some;
      front = c.one_front.ensures.some;
      sound = c.readable_is_sound.ensures.sound;
      some = c.readable_is_sound.ensures.some;
      language = record {
        entry = c.one_entry.ensures.some Two;
        stands_on = c.what_a_line_says.ensures.stands_on Two;
        numbered = c.what_a_line_says.ensures.numbered Two;
        grown = c.entries_keep_soundness.ensures Two;
        quantities = record { length = c.quantities_are_sound.ensures.length; ratio = c.quantities_are_sound.ensures.ratio };
      };
      to_solve = c.some_to_solve.ensures;
      made = c.datum_sketch_is_sound.ensures;
    }) words bytes in
    (found.0, (found.1, found.2))
