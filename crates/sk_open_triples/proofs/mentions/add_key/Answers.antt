use Rattle.sk_base.proofs.Searches.{on_ok}
use Rattle.sk_open_triples.proofs.Mentioning.{key_put, key_there}
use Rattle.sk_open_triples.proofs.Outcomes.{stays_or_grows}
use Rattle.sk_open_triples.proofs.mentions.add_key.Goals as goal

pub returns-clause-gains : goal.returns-clause-gains
returns-clause-gains c =
    key_put c.args.lists.now.items c.make_room.new.lists.items c.in_ok-make_room.ensures.same c.args.number c.in_ok-make_room.ensures.room c.args.key c.index_mut.result.now c.push.new.self c.index_mut.ensures.value
    (stays_or_grows c.push.result _ _ c.push.ensures.ok c.push.ensures.err)

pub returns-clause-added : goal.returns-clause-added
returns-clause-added c =
    on_ok c.push.result c.push.ensures.ok (λ ok.
    key_there c.args.lists.now.items c.make_room.new.lists.items c.in_ok-make_room.ensures.same c.args.number c.in_ok-make_room.ensures.room c.args.key c.index_mut.result.now c.push.new.self c.index_mut.ensures.value ok)
