use Rattle.std.proofs.Common.{◌≡◌, ◌+◌, ◌-◌, length}
use Rattle.sk_base.specs.declared.Elem.{Elem}
use Rattle.sk_neighbours.specs.Indexed.{holders_of}
use Rattle.sk_neighbours.proofs.index.Index.make_room.Given as goal

abbrev pub invariant-loop-elem : goal.invariant-loop-elem
invariant-loop-elem l = record {
  live : l.self.live ≡ l.fn.self.live;
  lines : l.self.lines ≡ l.fn.self.lines;
  holders : (e : Elem) → holders_of l.self e ≡ holders_of l.fn.self e;
}

abbrev pub decreases-loop-elem : goal.decreases-loop-elem
decreases-loop-elem l = l.elem.0 + 1 - length l.self.holders.items
