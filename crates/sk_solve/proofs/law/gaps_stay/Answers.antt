use Rattle.sk_graph.proofs.Soundness.{graph_is_sound}
use Rattle.sk_solve.proofs.FinerGaps.{gap_there, gap_alone}
use Rattle.sk_solve.proofs.law.gaps_stay.Goals as goal

pub returns-clause-there : goal.returns-clause-there
returns-clause-there g c frame other wanted looked_for F k limit most s p f lo hi sketch legal tree gap failed = gap_there _ _ F k s p (graph_is_sound s sketch) legal tree f lo hi gap failed

pub returns-clause-alone : goal.returns-clause-alone
returns-clause-alone g c frame other wanted looked_for F k limit most s p f lo hi placement sketch legal tree gap failed is =
    gap_alone _ _ F k s p (graph_is_sound s sketch) legal tree f lo hi gap failed looked_for other most placement is
