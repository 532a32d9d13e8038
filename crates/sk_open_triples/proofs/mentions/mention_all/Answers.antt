use Rattle.sk_base.proofs.Searches.{on_ok}
use Rattle.sk_open_triples.proofs.Pushing.{all_named, gains_then}
use Rattle.sk_open_triples.proofs.mentions.mention_all.Goals as goal

pub returns-clause-gains : goal.returns-clause-gains
returns-clause-gains c =
    gains_then c.args.mentions.now c.add-2.new.self c.add-3.new.self c.args.key (gains_then c.args.mentions.now c.add.new.self c.add-2.new.self c.args.key c.add.ensures.gains c.add-2.ensures.gains) c.add-3.ensures.gains

pub returns-clause-named : goal.returns-clause-named
returns-clause-named c =
    on_ok c.add-3.result c.add-3.ensures.added (λ third n n_in.
    all_named c.add-3.new.self c.args.greatest c.args.pair.second c.args.pair.third c.args.key
    (c.add-3.ensures.gains.stay c.args.greatest c.args.key (c.add-2.ensures.gains.stay c.args.greatest c.args.key c.in_ok-add.ensures.added))
    (c.add-3.ensures.gains.stay c.args.pair.second c.args.key c.in_ok-add-2.ensures.added) third n n_in)

pub returns-in_err-add-2-clause-gains : goal.returns-in_err-add-2-clause-gains
returns-in_err-add-2-clause-gains c = gains_then c.args.mentions.now c.add.new.self c.add-2.new.self c.args.key c.add.ensures.gains c.add-2.ensures.gains
