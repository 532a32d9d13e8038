use Rattle.std.proofs.Common.{◌≡◌, ◌≤◌, length, take, drop}
use Rattle.sk_family.specs.Clusters.{named, unnamed}
use Rattle.sk_family.proofs.SideBySide.{names_of}
use Rattle.sk_family.proofs.joining.drop_named.Given as goal

abbrev pub invariant-loop-at : goal.invariant-loop-at
invariant-loop-at l = record {
  long : length l.clusters ≡ length l.fn.clusters;
  within : l.kept ≤ l.at;
  front : take l.kept l.clusters ≡ unnamed l.names (take l.at l.fn.clusters);
  back : drop l.at l.clusters ≡ drop l.at l.fn.clusters;
  so_far : drop l.place l.names ≡ names_of (named l.names (drop l.at l.fn.clusters));
}
