use Rattle.std.proofs.Common.{◌≡◌, ◌≢◌, ℕ, take}
use Rattle.std.specs.Prelude.{AllPairs}
use Rattle.sk_base.specs.declared.Elem.{Elem}
use Rattle.sk_neighbours.specs.Indexed.{RisesIn, holders_of}
use Rattle.sk_neighbours.proofs.Removing.{DropsKey}
use Rattle.sk_neighbours.proofs.index.Index.drop_holders.Given as goal

abbrev pub invariant-loop-elem : goal.invariant-loop-elem
invariant-loop-elem l = record {
  live : l.self.live ≡ l.fn.self.live;
  lines : l.self.lines ≡ l.fn.self.lines;
  order : (e : Elem) → AllPairs (RisesIn l.fn.self.live) (holders_of l.fn.self e) → AllPairs (RisesIn l.fn.self.live) (holders_of l.self e);
  once : (e : Elem) → AllPairs (λ (j k : ℕ). j ≢ k) (holders_of l.self e);
  drops : DropsKey l.fn.self l.self (take l.elem-index l.elements) l.key;
}
