use Rattle.std.proofs.Common.{rules, ◌≡◌, ◌++◌, ◌∷◌, [], List, sym, subst, ap, ◌∙◌}
use Rattle.std.specs.Prelude.{AllPairs}
use Rattle.std.specs.List.Sorted.{IsPermutation}
use Rattle.std.proofs.lemmas.Fn.{filter_same}
use Rattle.sk_family.specs.declared.cluster.Cluster.{Cluster}
use Rattle.sk_family.specs.Clusters.{unnamed}
use Rattle.sk_family.proofs.Sorting.{HaveOtherNames}
use Rattle.sk_family.proofs.start.exchange.Goals as goal
use Rattle.sk_family.proofs.start.exchange.Goals.{After-retain}

all_kept : (c : After-retain) → c.retain.new.self.items ≡ unnamed (c.args.name ∷ []) (c.args.others.items ++ c.args.clusters.now)
all_kept c =
    filter_same _ _ _ (λ x b f' k. search rules) _ _ c.retain.ensures.filtered
    ∙ ap (λ (cs : List Cluster). unnamed (c.args.name ∷ []) cs) c.in_ok-append_to.ensures.ok

pub put_in_order-requires : goal.put_in_order-requires
put_in_order-requires c = (let P : List Cluster → Type 0 = λ cs. AllPairs HaveOtherNames cs in subst P (sym (all_kept (goal.at.put_in_order-requires c).After-retain)) c.requires)

pub returns-clause-same : goal.returns-clause-same
returns-clause-same c =
    subst (λ (cs : List Cluster). IsPermutation (unnamed (c.args.name ∷ []) (c.args.others.items ++ c.args.clusters.now)) cs) (sym c.of.ensures)
    (subst (λ (cs : List Cluster). IsPermutation cs c.put_in_order.new.clusters.items) (all_kept (goal.at.returns-clause-same c).After-retain) c.put_in_order.ensures.same)
