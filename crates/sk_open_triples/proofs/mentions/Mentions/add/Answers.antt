use Rattle.std.proofs.Common.{refl, sym, subst}
use Rattle.std.specs.Prelude.{Contains}
use Rattle.sk_base.proofs.Searches.{on_ok}
use Rattle.sk_open_triples.specs.declared.mentions.Mentions.{Mentions}
use Rattle.sk_open_triples.specs.OpenRows.{keys_of}
use Rattle.sk_open_triples.proofs.Mentioning.{gains_in_constraints, gains_in_steps}
use Rattle.sk_open_triples.proofs.mentions.Mentions.add.Goals as goal

pub returns-in-Con-clause-gains : goal.returns-in-Con-clause-gains
returns-in-Con-clause-gains c = gains_in_constraints c.args.self.now _ c.args.key c.add_key.ensures.gains refl

pub returns-in-Con-clause-added : goal.returns-in-Con-clause-added
returns-in-Con-clause-added c =
    let new : Mentions = record { alloc = c.args.self.now.alloc; constraints = c.add_key.new.lists; steps = c.args.self.now.steps } in
    on_ok c.add_key.result c.add_key.ensures.added (λ h. subst (λ n. Contains (keys_of new n) c.args.key) (sym c.in-Con.is) h)

pub returns-in-Step-clause-gains : goal.returns-in-Step-clause-gains
returns-in-Step-clause-gains c = gains_in_steps c.args.self.now _ c.args.key c.add_key-in-Step.ensures.gains refl

pub returns-in-Step-clause-added : goal.returns-in-Step-clause-added
returns-in-Step-clause-added c =
    let new : Mentions = record { alloc = c.args.self.now.alloc; constraints = c.args.self.now.constraints; steps = c.add_key-in-Step.new.lists } in
    on_ok c.add_key-in-Step.result c.add_key-in-Step.ensures.added (λ h. subst (λ n. Contains (keys_of new n) c.args.key) (sym c.in-Step.is) h)
