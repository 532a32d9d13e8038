use Rattle.sk_laws.proofs.Migrating.{LawsOfText, migrated_reads, outcome_moved}
use Rattle.sk_laws.proofs.law.migrated_reads_the_same.Goals as goal

pub returns : goal.returns
returns c =
    let laws : LawsOfText = record {
      one_sketch = c.one_answer.ensures.one_sketch;
      not_both = c.one_answer.ensures.not_both;
      sound = c.readable_is_sound.ensures.sound;
      some = c.readable_is_sound.ensures.some;
      numbered = c.readable_is_sound.ensures.numbered;
      written = c.written_reads_back.ensures.canonical_2;
    } in
    record {
      reads = λ bytes text migrated. migrated_reads laws bytes text migrated;
      same = λ bytes migrated is words asks status text.
          (let both = migrated_reads laws bytes migrated is in
          (outcome_moved laws bytes migrated both.0 both.1 both.2 words asks status text, outcome_moved laws migrated bytes both.0 both.2 both.1 words asks status text));
    }
