use Rattle.std.proofs.Common.{refl, ◌∙◌}
use Rattle.sk_neighbours.proofs.Putting.{behind_none, behind_more, puts_none, puts_more, puts_all}
use Rattle.sk_neighbours.proofs.index.Index.add_holders.Goals as goal

pub loop-elem-init : goal.loop-elem-init
loop-elem-init c = record { live = refl; lines = refl; behind = behind_none c.args.self.now c.args.elements.now c.args.key; puts = puts_none c.args.self.now c.args.elements.now c.args.key }

pub loop-elem-preserved : goal.loop-elem-preserved
loop-elem-preserved c = record {
  live = c.in_ok-add_holder.ensures.live ∙ c.loop-elem.invariant.live;
  lines = c.in_ok-add_holder.ensures.lines ∙ c.loop-elem.invariant.lines;
  behind = behind_more c.args.self.now c.loop-elem.self c.add_holder.new.self c.args.elements.now c.requires c.args.key c.loop-elem.elem-index (record { 0 = 0 }) c.loop-elem-test.true c.loop-elem.invariant.behind
      c.in_ok-add_holder.ensures.here c.in_ok-add_holder.ensures.others;
  puts = puts_more c.args.self.now c.loop-elem.self c.add_holder.new.self c.args.elements.now c.args.key c.loop-elem.elem-index (record { 0 = 0 }) c.loop-elem-test.true c.loop-elem.invariant.puts c.in_ok-add_holder.ensures.holders;
}

pub returns-clause-holders : goal.returns-clause-holders
returns-clause-holders c = puts_all c.args.self.now c.loop-elem.self c.args.elements.now c.args.key c.loop-elem.elem-index c.loop-elem-test.false c.loop-elem.invariant.puts

pub returns-clause-order : goal.returns-clause-order
returns-clause-order c = c.loop-elem.invariant.behind.grow
