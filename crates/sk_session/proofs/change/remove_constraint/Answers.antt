use Rattle.std.proofs.Common.{◌≡◌, sym, subst, arith}
use Rattle.std.specs.Prelude.{Contains}
use Rattle.sk_base.specs.declared.Graph.{Graph}
use Rattle.sk_family.specs.declared.Cluster.{Cluster}
use Rattle.sk_family.specs.Starts.{CanBeDissolved}
use Rattle.sk_family.proofs.Naming.{one_of_name}
use Rattle.sk_session.specs.Following.{DissolvesOwner}
use Rattle.sk_session.proofs.Owners.{owner_of, few_owned, can_dissolve}
use Rattle.sk_session.proofs.change.remove_constraint.Goals as goal

pub owner-name-requires : goal.owner-name-requires
owner-name-requires c = owner_of c.args.sketch.now c.requires.sound c.args.family.now c.requires.named c.requires.reached c.args.number c.requires.some

pub dissolve-requires-clause-owner : goal.dissolve-requires-clause-owner
dissolve-requires-clause-owner c =
    let owner = c.owner-name.ensures in
    subst (λ (g : Graph). CanBeDissolved g c.args.family.now c.owner-name.result c.args.number) (sym c.in_ok-graph.ensures.graph)
    (can_dissolve c.args.sketch.now c.requires.sound c.args.family.now c.requires.named c.requires.reached c.owner-name.result c.args.number owner.0 owner.1 owner.2 c.requires.room)

pub returns-clause-dissolves : goal.returns-clause-dissolves
returns-clause-dissolves c =
    let owner = c.owner-name.ensures in
    let d = c.in_ok-dissolve.ensures.ok in
    let same : owner.0 ≡ d.owner = one_of_name c.args.family.now c.requires.named c.owner-name.result owner.0 d.owner owner.1 d.named in
    subst (λ (g : Graph). DissolvesOwner g c.args.number c.args.family.now c.dissolve.new.self) c.in_ok-graph.ensures.graph
    (c.owner-name.result, (d, subst (λ (x : Cluster). Contains x.owned c.args.number) same owner.2))

pub returns-clause-count : goal.returns-clause-count
returns-clause-count c =
    let owner = c.owner-name.ensures in
    let count = c.in_ok-dissolve.ensures.count owner.0 owner.1 in
    let few = few_owned c.args.sketch.now c.requires.sound c.args.family.now c.requires.named c.requires.reached owner.0 owner.1.lives in
    omega (arith, count, few)
