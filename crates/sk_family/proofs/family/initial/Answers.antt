use Rattle.std.proofs.Common.{List, ap, sym, subst, ◌∙◌}
use Rattle.std.specs.Prelude.{map}
use Rattle.sk_family.specs.declared.cluster.Cluster.{Cluster}
use Rattle.sk_family.specs.Body.{starts}
use Rattle.sk_family.specs.Clusters.{body_of, IsSound}
use Rattle.sk_family.proofs.Soundness.{sound_initial, starting_bodies}
use Rattle.sk_family.proofs.family.initial.Goals as goal

pub invariant_of-result : goal.invariant_of-result
invariant_of-result c =
    subst (λ (items : List Cluster). IsSound (record { live = items; next_step = 1 })) (sym (c.of.ensures ∙ c.in_ok-all_starts.ensures)) (sound_initial c.args.graph.now c.requires)

pub returns-clause-bodies : goal.returns-clause-bodies
returns-clause-bodies c =
    ap (λ (cs : List Cluster). map body_of cs) (c.of.ensures ∙ c.in_ok-all_starts.ensures) ∙ starting_bodies (starts c.args.graph.now)
