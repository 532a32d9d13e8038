use Rattle.std.proofs.Common.{◌<◌, ◌≤◌, List, sym, subst, ◌∙◌, length, take, drop}
use Rattle.std.specs.Prelude.{AllPairs, Contains, insert}
use Rattle.sk_base.specs.ClusterNames.{IsBelow}
use Rattle.sk_base.specs.declared.Name.TheVariants.{Con}
use Rattle.sk_family.specs.declared.cluster.Cluster.{Cluster}
use Rattle.sk_family.specs.Clusters.{ByName, Clusters, start_of, IsSound}
use Rattle.sk_family.specs.Starts.{IsFree, HasStart}
use Rattle.sk_family.proofs.Starting.{start_put, start_sound, same_put}
use Rattle.sk_family.proofs.family.Family.put_start.Goals as goal
use Rattle.sk_family.proofs.family.Family.put_start.Goals.{In_ok-insert}

pub count_below-place-requires : goal.count_below-place-requires
count_below-place-requires c = subst (λ (l : List Cluster). AllPairs ByName l) (sym c.as_slice.ensures) c.self.invariant.names_rise

abbrev inside : In_ok-insert → Clusters
inside c = record { live = c.self.inside.clusters; next_step = c.self.inside.next }

before : (c : In_ok-insert) → (d : Cluster) → Contains (take c.count_below-place.result (inside c).live) d → IsBelow d.name (Con c.requires.start.0.number.0)
before c = rw (c.as_slice.ensures, c.requires.start.1) at c.count_below-place.ensures.before

after : (c : In_ok-insert) → (d : Cluster) → Contains (drop c.count_below-place.result (inside c).live) d → ¬ IsBelow d.name (Con c.requires.start.0.number.0)
after c = rw (c.as_slice.ensures, c.requires.start.1) at c.count_below-place.ensures.after

within : (c : In_ok-insert) → c.count_below-place.result ≤ length (inside c).live
within c = rw c.as_slice.ensures at c.count_below-place.ensures.within

free : (c : In_ok-insert) → IsFree (inside c) c.requires.start.0.number
free c = subst (λ (f : Clusters). IsFree f c.requires.start.0.number) (sym c.self.view_is) c.requires.start.3

room : (c : In_ok-insert) → length (inside c).live < 4294967295
room c = subst (λ (f : Clusters). length f.live < 4294967295) (sym c.self.view_is) c.requires.room

pub invariant_of-self-2 : goal.invariant_of-self-2
invariant_of-self-2 c =
    let k = (goal.at.invariant_of-self-2 c).In_ok-insert in
    let s = c.requires.start.0 in
    let sound : IsSound (record { live = insert (inside k).live c.count_below-place.result (start_of s); next_step = (inside k).next_step }) =
    start_sound (inside k) c.self.invariant s c.requires.start.2 (free k) (room k) c.count_below-place.result (within k) (before k) (after k) in
    rw (c.in_ok-insert.ensures.ok, c.requires.start.1) sound

pub returns-clause-ok : goal.returns-clause-ok
returns-clause-ok c t t_is =
    let k = (goal.at.returns-clause-ok c).In_ok-insert in
    let s = c.requires.start.0 in
    let put : HasStart s (inside k) (record { live = insert (inside k).live c.count_below-place.result (start_of s); next_step = (inside k).next_step }) =
    start_put (inside k) c.self.invariant s c.requires.start.2 (free k) (room k) c.count_below-place.result (within k) (before k) (after k) in
    same_put s t _ _ (sym c.requires.start.1 ∙ t_is) (rw (← c.self.view_is, c.in_ok-insert.ensures.ok, c.requires.start.1) put)

pub returns-clause-sound : goal.returns-clause-sound
returns-clause-sound c = invariant_of-self-2 c
