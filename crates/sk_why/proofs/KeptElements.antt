-- A sketch of which what is kept makes one cluster has an element.
use Rattle.std.proofs.Common.{◌<◌, List, length, arith}
use Rattle.std.specs.Prelude.{Contains}
use Rattle.sk_base.specs.declared.ConId.{ConId}
use Rattle.sk_base.specs.declared.Sketch.{Sketch}
use Rattle.sk_base.specs.SoundGraph.{IsSoundGraph}
use Rattle.sk_base.proofs.Members.{mapped_from}
use Rattle.sk_graph.specs.SketchGraph.{graph_of, node_of}
use Rattle.sk_verdict.specs.OneCluster.{IsOneCluster}
use Rattle.sk_verdict.proofs.Normals.{has_two}
use Rattle.sk_excess.specs.LeftOut.{kept_graph}
use Rattle.sk_excess.proofs.OneClusters.{at_node, whole_in}

some_items : {X : Type 0} (xs : List X) (x : X) → Contains xs x → 0 < length xs
some_items xs x (i, i_in, is) = omega (arith, i_in)

pub some_elements : (s : Sketch) (left : List ConId) → IsSoundGraph (kept_graph left (graph_of s)) → IsOneCluster (kept_graph left (graph_of s)) → 0 < length s.elements
some_elements s left sound one =
    let g = kept_graph left (graph_of s) in
    let whole = whole_in g sound one in
    let (u, v, differ, u_in, v_in) = has_two g one.family sound one.normal one.whole whole in
    let (n, n_in, is) = at_node g sound one.family one.normal.reached one.whole whole u u_in in
    let (e, e_in, same) = mapped_from node_of s.elements n n_in in
    some_items s.elements e e_in
