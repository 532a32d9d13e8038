use Rattle.std.proofs.Common.{◌≡◌, take}
use Rattle.std.specs.Prelude.{◌↔◌, Contains}
use Rattle.sk_family.specs.declared.Cluster.{Cluster}
use Rattle.sk_neighbours.specs.Indexed.{IsHeld, IsIndex}
use Rattle.sk_neighbours.proofs.index.Index.take_out_all.Given as goal

abbrev pub invariant-loop-name : goal.invariant-loop-name
invariant-loop-name l = record {
  index : IsIndex l.self;
  held : (c : Cluster) → IsHeld l.self c ↔ (IsHeld l.fn.self c × ¬ Contains (take l.name-index l.names) c.name);
  lines : l.self.lines ≡ l.fn.self.lines;
}
