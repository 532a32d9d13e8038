use Rattle.std.proofs.Common.{List, get_or, subst}
use Rattle.std.proofs.lemmas.List.{take_all}
use Rattle.std.proofs.lemmas.List.Elements.{Contains-get_or}
use Rattle.sk_family.specs.declared.Merge.{Merge}
use Rattle.sk_open_triples.specs.OpenRows.{AreTold}
use Rattle.sk_open_triples.proofs.Handing.{told_more, told_none}
use Rattle.sk_open_triples.proofs.Pushing.{gains_then}
use Rattle.sk_open_triples.proofs.mentions.mention_heir.Goals as goal

pub loop-merge-init : goal.loop-merge-init
loop-merge-init c = record { gains = c.add.ensures.gains; named = c.in_ok-add.ensures.added; told = told_none c.add.new.self c.args.key c.args.found.now }

pub mention_merge-requires : goal.mention_merge-requires
mention_merge-requires c = c.requires (get_or c.args.found.now c.loop-merge.merge-index _) (Contains-get_or c.args.found.now c.loop-merge.merge-index _ c.loop-merge-test.true)

pub loop-merge-preserved : goal.loop-merge-preserved
loop-merge-preserved c = record {
  gains = gains_then c.args.mentions.now c.loop-merge.mentions c.mention_merge.new.mentions c.args.key c.loop-merge.invariant.gains c.mention_merge.ensures.gains;
  named = c.mention_merge.ensures.gains.stay c.args.name c.args.key c.loop-merge.invariant.named;
  told = told_more c.loop-merge.mentions c.mention_merge.new.mentions c.args.key c.args.found.now c.loop-merge.merge-index _ c.loop-merge-test.true c.mention_merge.ensures.gains c.in_ok-mention_merge.ensures.named
      c.loop-merge.invariant.told;
}

pub returns-in_err-mention_merge-clause-gains : goal.returns-in_err-mention_merge-clause-gains
returns-in_err-mention_merge-clause-gains c = gains_then c.args.mentions.now c.loop-merge.mentions c.mention_merge.new.mentions c.args.key c.loop-merge.invariant.gains c.mention_merge.ensures.gains

pub returns-clause-told : goal.returns-clause-told
returns-clause-told c = subst (λ (ms : List Merge). AreTold c.loop-merge.mentions c.args.key ms) (take_all c.loop-merge.merge-index c.args.found.now c.loop-merge-test.false) c.loop-merge.invariant.told
