-- Trees whose leaves are some constraints.
use Rattle.std.specs.Prelude.{◌≢◌, ◌↔◌, List, Contains, AllPairs}
use Rattle.sk_base.specs.declared.ConId.{ConId}
use Rattle.sk_tree.specs.declared.Tree.{Tree}
use Rattle.sk_tree.specs.Trees.{leaves_of}

-- just these constraints are its leaves, each once
pub record HasLeaves (t : Tree) (constraints : List ConId) : Type 0 where
  pub just : (k : ConId) → Contains (leaves_of t) k ↔ Contains constraints k
  pub once : AllPairs (λ (j k : ConId). j ≢ k) (leaves_of t)
