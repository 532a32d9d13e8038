use Rattle.std.proofs.Common.{refl, ◌∙◌, sym, subst}
use Rattle.std.specs.Prelude.{AllPairs}
use Rattle.slab.specs.Slab.{Slab}
use Rattle.sk_family.specs.declared.Cluster.{Cluster}
use Rattle.sk_neighbours.specs.Indexed.{RisesIn, holders_of}
use Rattle.sk_neighbours.proofs.Removing.{drops_none, drops_more, drops_all}
use Rattle.sk_neighbours.proofs.index.Index.drop_holders.Goals as goal

pub loop-elem-init : goal.loop-elem-init
loop-elem-init c = record { live = refl; lines = refl; order = λ e h. h; once = c.requires; drops = drops_none c.args.self.now c.args.elements.now c.args.key }

pub loop-elem-preserved : goal.loop-elem-preserved
loop-elem-preserved c = record {
  live = c.drop_holder.ensures.live ∙ c.loop-elem.invariant.live;
  lines = c.drop_holder.ensures.lines ∙ c.loop-elem.invariant.lines;
  order = λ e h. (
      let live = c.loop-elem.invariant.live in
      subst (λ (s : Slab Cluster). AllPairs (RisesIn s) (holders_of c.drop_holder.new.self e)) live
      (c.drop_holder.ensures.order e (subst (λ (s : Slab Cluster). AllPairs (RisesIn s) (holders_of c.loop-elem.self e)) (sym live) (c.loop-elem.invariant.order e h))));
  once = λ e. c.drop_holder.ensures.once e (c.loop-elem.invariant.once e);
  drops = drops_more c.args.self.now c.loop-elem.self c.drop_holder.new.self c.args.elements.now c.args.key c.loop-elem.elem-index (record { 0 = 0 }) c.loop-elem-test.true c.loop-elem.invariant.drops c.drop_holder.ensures.holders;
}

pub returns-clause-holders : goal.returns-clause-holders
returns-clause-holders c = drops_all c.args.self.now c.loop-elem.self c.args.elements.now c.args.key c.loop-elem.elem-index c.loop-elem-test.false c.loop-elem.invariant.drops
