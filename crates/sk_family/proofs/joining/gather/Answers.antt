use Rattle.std.proofs.Common.{◌≡◌, ◌∙◌, refl, List, get_or, drop, ap, sym, subst}
use Rattle.std.specs.Prelude.{Some, slice_get}
use Rattle.std.specs.List.{flat_map}
use Rattle.sk_base.proofs.Searches.{refused}
use Rattle.sk_family.specs.declared.cluster.Cluster.{Cluster}
use Rattle.sk_family.specs.declared.joining.Gathered.{Gathered}
use Rattle.sk_family.proofs.Gathering.{flat_more}
use Rattle.sk_family.proofs.SideBySide.{takes, passes}
use Rattle.sk_family.proofs.joining.gather.Goals as goal
use Rattle.sk_family.proofs.joining.gather.Goals.{then-is_name_at+in_ok-add, else-is_name_at}

pub loop-cluster-preserved : goal.loop-cluster-preserved
loop-cluster-preserved c =
    let names = c.args.names.now in
    let clusters = c.args.clusters.now in
    let i = c.loop-cluster.cluster-index in
    let place = c.loop-cluster.place in
    let d = c.cluster-item.result in
    elim c.if-is_name_at.branch [
      | then-is_name_at+in_ok-add w ↦ (
          let step =
          takes names clusters c.requires.by_name i place d c.loop-cluster-test.true c.loop-cluster.invariant.so_far
          (subst (λ (x : Cluster). slice_get names place ≡ Some x.name) c.cluster-item.is (w.if-is_name_at.ensures.0 refl)) in
          record {
            elements = flat_more (λ (x : Cluster). x.elements) _ _ d (get_or clusters i d) _ _ step.gained c.cluster-item.is c.loop-cluster.invariant.elements
                (ap (λ (g : Gathered). g.elements.items) w.gathered-is ∙ w.in_ok-add.ensures.elements);
            owned = flat_more (λ (x : Cluster). x.owned) _ _ d (get_or clusters i d) _ _ step.gained c.cluster-item.is c.loop-cluster.invariant.owned
                (ap (λ (g : Gathered). g.owned.items) w.gathered-is ∙ w.in_ok-add.ensures.owned);
            so_far = ap (λ p. drop p names) w.place-is ∙ step.left;
          })
      | else-is_name_at w ↦ (
          let step =
          passes names clusters c.requires.by_name i place d c.loop-cluster-test.true c.loop-cluster.invariant.so_far
          (λ found. refused w.if-is_name_at.ensures.1 (subst (λ (x : Cluster). slice_get names place ≡ Some x.name) (sym c.cluster-item.is) found)) in
          record {
            elements = ap (λ (g : Gathered). g.elements.items) w.gathered-is ∙ c.loop-cluster.invariant.elements ∙ ap (λ (l : List Cluster). flat_map (λ (x : Cluster). x.elements) l) (sym step.gained);
            owned = ap (λ (g : Gathered). g.owned.items) w.gathered-is ∙ c.loop-cluster.invariant.owned ∙ ap (λ (l : List Cluster). flat_map (λ (x : Cluster). x.owned) l) (sym step.gained);
            so_far = ap (λ p. drop p names) w.place-is ∙ step.left;
          })
    ]
