use Rattle.std.proofs.Common.{sym, subst, refl, ◌-◌, ℕ, List, length}
use Rattle.std.specs.Prelude.{Contains}
use Rattle.sk_base.specs.declared.Elem.{Elem}
use Rattle.sk_neighbours.proofs.Holding.{none_then, in_list}
use Rattle.sk_neighbours.proofs.index.Index.key_of.Goals as goal

pub returns-clause-none : goal.returns-clause-none
returns-clause-none c =
    let last = c.in_ok-last.last.now in
    let last_in : Contains c.args.cluster.now.elements last = subst (λ (l : List Elem). Contains l last) c.as_slice.ensures (in_list c.as_slice.result.now (length c.as_slice.result.now - 1) last (sym c.in_ok-last.ensures.value)) in
    none_then c.key_named.result c.key_named.ensures.none (λ none (key, is).
    none key (subst (λ (l : List ℕ). Contains l key) (sym c.holders.ensures) (c.requires.index.finds last key c.args.cluster.now is last_in)) (c.args.cluster.now, is, refl))
