use Rattle.std.proofs.Common.{◌≡◌, ◌+◌, ◌≤◌, ◌++◌, ◌∷◌, [], List, length, sym, subst}
use Rattle.std.specs.Prelude.{AllPairs}
use Rattle.std.specs.List.Sorted.{IsPermutation}
use Rattle.sk_family.specs.declared.cluster.Cluster.{Cluster}
use Rattle.sk_family.specs.Clusters.{Clusters, IsNamed, unnamed}
use Rattle.sk_family.specs.Starting.{starts_but}
use Rattle.sk_family.specs.Starts.{IsDissolved}
use Rattle.sk_family.proofs.Naming.{one_of_name}
use Rattle.sk_family.proofs.Sorting.{HaveOtherNames}
use Rattle.sk_family.proofs.Dissolving.{all_differ, dissolved, dissolved_sound, fewer_left}
use Rattle.sk_family.proofs.family.Family.dissolve.Goals as goal
use Rattle.sk_family.proofs.family.Family.dissolve.Goals.{In_ok-starts, In_ok-exchange}

abbrev inside : In_ok-starts → Clusters
inside c = record { live = c.self.inside.clusters; next_step = c.self.inside.next }

named : (c : In_ok-starts) → IsNamed (inside c) c.args.name c.requires.owner.owner
named c = subst (λ (f : Clusters). IsNamed f c.args.name c.requires.owner.owner) (sym c.self.view_is) c.requires.owner.named

starts : (c : In_ok-starts) → c.in_ok-starts.starts.items ≡ starts_but c.args.graph.now c.args.without c.requires.owner.owner.owned
starts c = c.in_ok-starts.ensures c.requires.owner.owner c.requires.owner.named

-- the clusters now are those that were told, in some order
same : (c : In_ok-exchange) → IsPermutation (unnamed (c.args.name ∷ []) (starts_but c.args.graph.now c.args.without c.requires.owner.owner.owned ++ c.self.inside.clusters)) c.exchange.new.clusters
same c =
    subst (λ (cs : List Cluster). IsPermutation (unnamed (c.args.name ∷ []) (cs ++ c.self.inside.clusters)) c.exchange.new.clusters)
    (c.in_ok-starts.ensures c.requires.owner.owner c.requires.owner.named) c.in_ok-exchange.ensures.same

pub exchange-requires : goal.exchange-requires
exchange-requires c =
    let k = (goal.at.exchange-requires c).In_ok-starts in
    let P : List Cluster → Type 0 = λ cs. AllPairs HaveOtherNames (unnamed (c.args.name ∷ []) (cs ++ c.self.inside.clusters)) in
    subst P (sym (starts k))
    (all_differ c.args.graph.now c.requires.graph.edges_rise (inside k) c.self.invariant c.args.name c.args.without c.requires.owner.owner (named k) c.requires.owner.owns c.requires.owner.others)

pub invariant_of-self-2 : goal.invariant_of-self-2
invariant_of-self-2 c =
    let k = (goal.at.invariant_of-self-2 c).In_ok-starts in
    dissolved_sound c.args.graph.now c.requires.graph.edges_rise (inside k) c.self.invariant c.args.name c.args.without c.requires.owner.owner (named k) c.requires.owner.owns c.requires.owner.others
    c.exchange.new.clusters (same c) (rw (← c.self.view_is) at c.requires.owner.room) c.in_ok-exchange.ensures.rise

pub returns-clause-ok : goal.returns-clause-ok
returns-clause-ok c =
    let k = (goal.at.returns-clause-ok c).In_ok-starts in
    subst (λ (x : Clusters). IsDissolved c.args.graph.now c.args.name c.args.without x (record { live = c.exchange.new.clusters; next_step = (inside k).next_step })) c.self.view_is
    (dissolved c.args.graph.now c.requires.graph.edges_rise (inside k) c.self.invariant c.args.name c.args.without c.requires.owner.owner (named k) c.requires.owner.owns c.requires.owner.others
    c.exchange.new.clusters (same c))

pub returns-clause-sound : goal.returns-clause-sound
returns-clause-sound c = invariant_of-self-2 c

pub returns-clause-count : goal.returns-clause-count
returns-clause-count c other other_named =
    let k = (goal.at.returns-clause-count c).In_ok-starts in
    let other_in : IsNamed (inside k) c.args.name other = subst (λ (x : Clusters). IsNamed x c.args.name other) (sym c.self.view_is) other_named in
    subst (λ (x : Cluster). length c.exchange.new.clusters + 2 ≤ length c.args.self.now.live + length x.owned) (one_of_name (inside k) c.self.invariant c.args.name _ _ (named k) other_in)
    (subst (λ (x : Clusters). length c.exchange.new.clusters + 2 ≤ length x.live + length c.requires.owner.owner.owned) c.self.view_is
    (fewer_left c.args.graph.now c.requires.graph.edges_rise (inside k) c.self.invariant c.args.name c.args.without c.requires.owner.owner (named k) c.requires.owner.owns c.requires.owner.others
    c.exchange.new.clusters (same c)))
