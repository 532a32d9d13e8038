use Rattle.std.proofs.Common.{sym, ◌∙◌}
use Rattle.sk_why.proofs.Starting.{none_owns, owner_starts}
use Rattle.sk_why.proofs.owners.elements_at.Goals as goal

pub unreachable-requires : goal.unreachable-requires
unreachable-requires c =
    let (g, are, has) = c.requires.there in
    none_owns g c.args.clusters.now are c.args.number has (sym c.in-None.ensures)

pub returns : goal.returns
returns c g are =
    let (s, s_in, numbered, same) = owner_starts g c.args.clusters.now are c.args.number c.in-Some.owner.now (sym c.in-Some.ensures) in
    (s, s_in, numbered, same ∙ sym c.as_slice.ensures)
