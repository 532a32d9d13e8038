use Rattle.std.proofs.Common.{◌∙◌, ap, subst, List}
use Rattle.std.specs.Prelude.{Some, None}
use Rattle.slab.specs.Slab.{Slab, Updates}
use Rattle.sk_base.specs.declared.Elem.{Elem}
use Rattle.sk_family.specs.declared.Cluster.{Cluster}
use Rattle.sk_neighbours.specs.declared.index.Index.{Index}
use Rattle.sk_neighbours.proofs.Holding.{keys_differ}
use Rattle.sk_neighbours.proofs.Removing.{DropsKey, removed_index, removed_held}
use Rattle.sk_neighbours.proofs.index.Index.take_out.Goals as goal

pub returns-in-Some-clause-index : goal.returns-in-Some-clause-index
returns-in-Some-clause-index c =
    let (held, is, named) = c.in-Some.ensures.some in
    let new : Index = record { alloc = c.drop_holders.new.self.alloc; live = c.try_remove-cluster.new.self; holders = c.drop_holders.new.self.holders; lines = c.drop_holders.new.self.lines } in
    removed_index c.args.self.now new c.args.cluster.now c.in-Some.key c.requires.index (is ∙ ap Some (c.requires.alone held (c.in-Some.key, is) named))
    (subst (λ (s : Slab Cluster). Updates s c.try_remove-cluster.new.self c.in-Some.key None) c.drop_holders.ensures.live c.try_remove-cluster.ensures.updates)
    (subst (λ (l : List Elem). DropsKey c.args.self.now new l c.in-Some.key) c.as_slice.ensures c.drop_holders.ensures.holders) c.drop_holders.ensures.order

pub returns-in-Some-clause-held : goal.returns-in-Some-clause-held
returns-in-Some-clause-held c =
    let (held, is, named) = c.in-Some.ensures.some in
    let new : Index = record { alloc = c.drop_holders.new.self.alloc; live = c.try_remove-cluster.new.self; holders = c.drop_holders.new.self.holders; lines = c.drop_holders.new.self.lines } in
    removed_held c.args.self.now new c.args.cluster.now c.in-Some.key c.requires.index (is ∙ ap Some (c.requires.alone held (c.in-Some.key, is) named))
    (subst (λ (s : Slab Cluster). Updates s c.try_remove-cluster.new.self c.in-Some.key None) c.drop_holders.ensures.live c.try_remove-cluster.ensures.updates)
    (subst (λ (l : List Elem). DropsKey c.args.self.now new l c.in-Some.key) c.as_slice.ensures c.drop_holders.ensures.holders) c.drop_holders.ensures.order

pub drop_holders-requires : goal.drop_holders-requires
drop_holders-requires c = keys_differ c.args.self.now c.requires.index
