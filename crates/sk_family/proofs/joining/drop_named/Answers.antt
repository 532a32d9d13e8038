use Rattle.std.proofs.Common.{◌≡◌, ◌∙◌, ◌<◌, ◌+◌, ◌++◌, ◌∷◌, [], refl, List, length, get_or, take, drop, ap, sym, subst, arith}
use Rattle.std.specs.Prelude.{Some, slice_get}
use Rattle.std.specs.List.{swap}
use Rattle.std.proofs.lemmas.List.Edits.{length-swap}
use Rattle.sk_base.proofs.Searches.{refused}
use Rattle.sk_family.specs.declared.cluster.Cluster.{Cluster}
use Rattle.sk_family.specs.Clusters.{unnamed}
use Rattle.sk_family.proofs.SideBySide.{takes, passes, front_swapped, back_swapped, same_here, same_behind}
use Rattle.sk_family.proofs.joining.drop_named.Goals as goal
use Rattle.sk_family.proofs.joining.drop_named.Goals.{then-is_name_at, else-is_name_at}

pub loop-at-preserved : goal.loop-at-preserved
loop-at-preserved c =
    let names = c.args.names.now in
    let old = c.args.clusters.now in
    let now = c.loop-at.clusters in
    let i = c.loop-at.at in
    let kept = c.loop-at.kept in
    let place = c.loop-at.place in
    let d = c.index-as_slice-at.result in
    let so = c.loop-at.invariant in
    let in_old : i < length old = omega (arith, c.loop-at-test.true, c.len-at-end.ensures) in
    let in_now : i < length now = omega (arith, in_old, so.long) in
    let behind = same_behind now old i d so.back in_now in_old in
    let here = same_here now old i d so.back in_now in_old in
    let is : get_or c.as_slice.result.now i d ≡ get_or old i d = ap (λ (l : List Cluster). get_or l i d) c.as_slice.ensures ∙ here in
    elim c.if-is_name_at.branch [
      | then-is_name_at w ↦ (
          let step = takes names old c.requires.by_name i place d in_old so.so_far (subst (λ (x : Cluster). slice_get names place ≡ Some x.name) is (w.if-is_name_at.ensures.0 refl)) in
          record {
            long = ap (λ (l : List Cluster). length l) w.clusters-is ∙ so.long;
            within = omega (arith, w.kept-is, so.within);
            front = ap (λ k. take k c.if-is_name_at.clusters) w.kept-is ∙ ap (λ (l : List Cluster). take kept l) w.clusters-is ∙ so.front ∙ sym step.kept;
            back = ap (λ (l : List Cluster). drop (i + 1) l) w.clusters-is ∙ behind;
            so_far = ap (λ p. drop p names) w.place-is ∙ step.left;
          })
      | else-is_name_at w ↦ (
          let step =
          passes names old c.requires.by_name i place d in_old so.so_far
          (λ found. refused w.if-is_name_at.ensures.1 (subst (λ (x : Cluster). slice_get names place ≡ Some x.name) (sym is) found)) in
          let swapped : c.if-is_name_at.clusters ≡ swap now kept i = w.clusters-is ∙ w.swap.ensures in
          record {
            long = ap (λ (l : List Cluster). length l) swapped ∙ length-swap now kept i ∙ so.long;
            within = omega (arith, w.kept-is, so.within);
            front = ap (λ k. take k c.if-is_name_at.clusters) w.kept-is ∙ ap (λ (l : List Cluster). take (kept + 1) l) swapped ∙ front_swapped now kept i d so.within in_now
                ∙ ap (λ (l : List Cluster). l ++ get_or now i d ∷ []) so.front ∙ ap (λ x. unnamed names (take i old) ++ x ∷ []) here ∙ sym step.kept;
            back = ap (λ (l : List Cluster). drop (i + 1) l) swapped ∙ back_swapped now kept i d so.within in_now ∙ behind;
            so_far = ap (λ p. drop p names) w.place-is ∙ step.left;
          })
    ]
