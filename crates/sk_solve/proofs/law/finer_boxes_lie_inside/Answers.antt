use Rattle.sk_graph.proofs.Soundness.{graph_is_sound}
use Rattle.sk_solve.proofs.FinerLaid.{laid_finer, laid_inside}
use Rattle.sk_solve.proofs.law.finer_boxes_lie_inside.Goals as goal

pub returns-clause-there : goal.returns-clause-there
returns-clause-there g c frame F k s p coarse enough sketch legal tree laid = laid_finer _ F k p s enough sketch (graph_is_sound s sketch) legal tree frame coarse laid

pub returns-clause-each : goal.returns-clause-each
returns-clause-each g c frame F k s p coarse fine enough sketch legal tree laid finer = laid_inside _ F k p s enough sketch (graph_is_sound s sketch) legal tree frame coarse fine laid finer
