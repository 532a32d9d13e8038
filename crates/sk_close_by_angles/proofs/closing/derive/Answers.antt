use Rattle.std.specs.Prelude.{IfOk}
use Rattle.std.proofs.Common.{List, sym, subst}
use Rattle.sk_family.specs.Body.{Body, initial_bodies}
use Rattle.sk_family.specs.Clusters.{Clusters}
use Rattle.sk_family.specs.declared.Merge.{Merge}
use Rattle.sk_rules.specs.Reach.{Reach, stays}
use Rattle.sk_close_by_angles.specs.WideRun.{IsWideRun}
use Rattle.sk_close_by_angles.proofs.closing.derive.Goals as goal

pub derive_from-requires-clause-reached : goal.derive_from-requires-clause-reached
derive_from-requires-clause-reached g c = subst (λ (f : List Body). Reach c.args.graph.now (initial_bodies c.args.graph.now) f) (sym c.in_ok-family.ensures.bodies) stays

pub returns-clause-run : goal.returns-clause-run
returns-clause-run g c =
    subst (λ (f : Clusters). IfOk c.derive_from.result (λ end. (ms : List Merge) × IsWideRun g.P.Picker.answer g.P.Picker.after c.args.graph.now f c.args.picker.now ms end c.derive_from.new.picker)) c.in_ok-family.ensures.clusters c.derive_from.ensures.run
