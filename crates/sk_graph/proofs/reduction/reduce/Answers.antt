use Rattle.sk_graph.proofs.Soundness.{graph_is_sound}
use Rattle.sk_graph.proofs.reduction.reduce.Goals as goal

pub returns-clause-sound : goal.returns-clause-sound
returns-clause-sound c =
    rw (c.in_ok-nodes.ensures, c.as_slice.ensures, c.in_ok-edges.ensures, c.as_slice-2.ensures, c.in_ok-blocks.ensures, c.as_slice-3.ensures) (graph_is_sound c.args.s.now c.requires)
