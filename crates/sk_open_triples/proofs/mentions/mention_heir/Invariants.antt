use Rattle.std.proofs.Common.{take}
use Rattle.sk_open_triples.specs.OpenRows.{AreTold, GainsKey, Mention}
use Rattle.sk_open_triples.proofs.mentions.mention_heir.Given as goal

abbrev pub invariant-loop-merge : goal.invariant-loop-merge
invariant-loop-merge l = record {
  gains : GainsKey l.fn.mentions l.mentions l.key;
  named : Mention l.mentions l.fn.name l.key;
  told : AreTold l.mentions l.key (take l.merge-index l.found);
}
