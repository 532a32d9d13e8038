use Rattle.std.proofs.Common.{◌≡◌, take}
use Rattle.sk_neighbours.proofs.Putting.{PutsBehind, PutsKey}
use Rattle.sk_neighbours.proofs.index.Index.add_holders.Given as goal

abbrev pub invariant-loop-elem : goal.invariant-loop-elem
invariant-loop-elem l = record {
  live : l.self.live ≡ l.fn.self.live;
  lines : l.self.lines ≡ l.fn.self.lines;
  behind : PutsBehind l.fn.self l.self (take l.elem-index l.elements) l.key;
  puts : PutsKey l.fn.self l.self (take l.elem-index l.elements) l.key;
}
