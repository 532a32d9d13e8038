use Rattle.sk_graph.proofs.Soundness.{graph_is_sound}
use Rattle.sk_solve.proofs.AnchorLaws.{anchor_printed}
use Rattle.sk_solve.proofs.law.anchor_is_printed.Goals as goal

pub returns : goal.returns
returns g c by F s p there e fine sketch legal tree laid e_is = anchor_printed by F s p there e fine sketch (graph_is_sound s sketch) legal tree laid e_is
