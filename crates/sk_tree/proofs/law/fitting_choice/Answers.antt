use Rattle.sk_graph.specs.SketchGraph.{graph_of}
use Rattle.sk_tree.proofs.DrawnKinds.{graph_draws, drawn_fits}
use Rattle.sk_tree.proofs.law.fitting_choice.Goals as goal

pub returns : goal.returns
returns c s a b d of_a of_b of_d sound a_b b_d d_a a_node b_node d_node not_all =
    let drawn = graph_draws s sound in
    drawn_fits s (graph_of s) a b d a_b b_d d_a (of_a, drawn a of_a a_node) (of_b, drawn b of_b b_node) (of_d, drawn d of_d d_node) not_all
