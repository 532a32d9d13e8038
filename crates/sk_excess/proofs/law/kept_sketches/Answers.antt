use Rattle.sk_excess.proofs.KeptSketches.{kept_is_sound, kept_graph_is}
use Rattle.sk_excess.proofs.law.kept_sketches.Goals as goal

pub returns-clause-sound : goal.returns-clause-sound
returns-clause-sound c s left sound = kept_is_sound left s sound

pub returns-clause-graph : goal.returns-clause-graph
returns-clause-graph c s left = kept_graph_is left s
