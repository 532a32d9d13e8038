use Rattle.sk_graph.proofs.Soundness.{graph_is_sound}
use Rattle.sk_solve.proofs.Meeting.{found_least, found_met}
use Rattle.sk_solve.proofs.law.found_is_met.Goals as goal

pub returns-clause-met : goal.returns-clause-met
returns-clause-met g c placing F limit s p names at tol sound found = found_met _ placing F limit s p names at tol (graph_is_sound s sound) found

pub returns-clause-least : goal.returns-clause-least
returns-clause-least g c placing F limit s p names at tol found = found_least _ placing F limit s p names at tol found
