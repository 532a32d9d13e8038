use Rattle.std.proofs.Common.{sym, subst, length, get_or, ◌<◌}
use Rattle.std.specs.Prelude.{All}
use Rattle.std.proofs.lemmas.List.Elements.{Contains-get_or}
use Rattle.sk_family.specs.Clusters.{Clusters, replaced, IsSound, IsLive}
use Rattle.sk_family.specs.Joining.{CanBeJoined}
use Rattle.sk_family.proofs.Soundness.{below_next, next_unnamed, joined_fewer, sound_joined}
use Rattle.sk_family.proofs.family.Family.replace_all.Goals as goal

pub join_named-requires-clause-rise : goal.join_named-requires-clause-rise
join_named-requires-clause-rise c k d h = c.self.invariant.bodies_rise (get_or c.self.inside.clusters k d) (Contains-get_or c.self.inside.clusters k d h)

pub join_named-requires-clause-last : goal.join_named-requires-clause-last
join_named-requires-clause-last c d d_in = below_next c.self.inside.next d.name (λ k is. c.self.invariant.steps_below d k d_in is)

pub join_named-requires-clause-apart : goal.join_named-requires-clause-apart
join_named-requires-clause-apart c =
    let inside : Clusters = record { live = c.self.inside.clusters; next_step = c.self.inside.next } in
    next_unnamed inside c.self.invariant c.args.from.now (subst (λ (f : Clusters). All (λ n. IsLive f n) c.args.from.now) (sym c.self.view_is) c.requires.from.all_live)

pub join_named-requires-clause-live : goal.join_named-requires-clause-live
join_named-requires-clause-live c k d h =
    let inside : Clusters = record { live = c.self.inside.clusters; next_step = c.self.inside.next } in
    let all : All (λ n. IsLive inside n) c.args.from.now = subst (λ (f : Clusters). All (λ n. IsLive f n) c.args.from.now) (sym c.self.view_is) c.requires.from.all_live in
    let found = all k d h in
    (found.0, found.1.lives, found.1.has_name)

pub invariant_of-self-2 : goal.invariant_of-self-2
invariant_of-self-2 c =
    let inside : Clusters = record { live = c.self.inside.clusters; next_step = c.self.inside.next } in
    let sound : IsSound (replaced inside c.args.from.now) = sound_joined inside c.args.from.now c.self.invariant
    (subst (λ (f : Clusters). CanBeJoined f c.args.from.now) (sym c.self.view_is) c.requires.from) in
    rw c.in_ok-join_named.ensures.ok sound

pub returns-clause-fewer : goal.returns-clause-fewer
returns-clause-fewer c =
    let inside : Clusters = record { live = c.self.inside.clusters; next_step = c.self.inside.next } in
    let fewer : length (replaced inside c.args.from.now).live < length c.self.inside.clusters = joined_fewer inside c.args.from.now c.self.invariant
    (subst (λ (f : Clusters). CanBeJoined f c.args.from.now) (sym c.self.view_is) c.requires.from) in
    rw (c.in_ok-join_named.ensures.ok, sym c.self.view_is) fewer

pub returns-clause-sound : goal.returns-clause-sound
returns-clause-sound c = invariant_of-self-2 c
