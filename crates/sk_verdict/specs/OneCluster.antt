-- Graphs that make one cluster with all nodes.
use Rattle.std.specs.Prelude.{List, [], ◌∷◌, Contains}
use Rattle.sk_base.specs.declared.Node.{Node}
use Rattle.sk_base.specs.declared.Graph.{Graph}
use Rattle.sk_family.specs.Body.{Body, SameBodies}
use Rattle.sk_rules.specs.Reach.{IsNormal}

-- merging ends with one cluster, which has all nodes; so there are two nodes at least
pub record IsOneCluster (g : Graph) : Type 0 where
  pub family : List Body
  pub normal : IsNormal g family
  pub whole : Body
  pub alone : SameBodies family (whole ∷ [])
  pub has_nodes : (n : Node) → Contains g.nodes n → Contains whole.elements n.elem
