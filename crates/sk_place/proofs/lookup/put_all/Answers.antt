use Rattle.std.proofs.Common.{sym, ◌∙◌, ap, arith, subst}
use Rattle.sk_place.specs.Clusters.{Rise, with_box}
use Rattle.sk_place.proofs.Lookups.{with_end, with_earlier, rises_with}
use Rattle.sk_place.proofs.lookup.put_all.Goals as goal

pub loop-i-init : goal.loop-i-init
loop-i-init g c = record { so_far = sym (with_end c.args.more.now c.args.boxes.now); rises = c.requires }

pub loop-i-preserved : goal.loop-i-preserved
loop-i-preserved g c = record {
  so_far =
      c.in_ok-put.ensures ∙ ap (with_box c.index-more-i.result) c.loop-i.invariant.so_far
      ∙ sym (with_earlier c.args.more.now c.args.boxes.now c.loop-i.i c.index-more-i.result (omega arith) (omega arith) c.index-more-i.is);
  rises = subst Rise (sym c.in_ok-put.ensures) (rises_with c.index-more-i.result c.loop-i.boxes c.loop-i.invariant.rises);
}
