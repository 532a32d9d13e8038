use Rattle.std.proofs.Common.{◌≡◌, ap, sym, ◌∙◌, get_or, take, List}
use Rattle.sk_base.specs.declared.Elem.{Elem}
use Rattle.sk_family.specs.Sharing.{shared, counted}
use Rattle.sk_base.specs.Numbering.{is_elem}
use Rattle.sk_family.proofs.Shares.{shared_more, shared_same}
use Rattle.sk_family.proofs.cluster.common.Goals as goal
use Rattle.sk_family.proofs.cluster.common.Goals.{then-is_among, else-is_among}

pub loop-elem-preserved : goal.loop-elem-preserved
loop-elem-preserved c =
    let xs = c.as_slice-elem-items.result.now in
    let ys = c.args.b.now.elements in
    let i = c.loop-elem.elem-index in
    let tells : c.is_among.result ≡ is_elem ys (get_or xs i (record { 0 = 0 })) =
    c.is_among.ensures.computed ∙ ap (λ (zs : List Elem). is_elem zs (get_or xs i (record { 0 = 0 }))) c.as_slice.ensures in
    elim c.if-is_among.branch [
      | then-is_among w ↦ w.overlap-is ∙ w.with-overlap.ensures (shared (take i xs) ys) c.loop-elem.invariant
          ∙ ap counted (sym (shared_more xs ys i (record { 0 = 0 }) c.loop-elem-test.true (sym tells ∙ w.if-is_among.true)))
      | else-is_among w ↦ w.overlap-is ∙ c.loop-elem.invariant
          ∙ ap counted (sym (shared_same xs ys i (record { 0 = 0 }) c.loop-elem-test.true (sym tells ∙ w.if-is_among.false)))
    ]
