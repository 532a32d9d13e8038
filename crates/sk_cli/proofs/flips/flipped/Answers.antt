use Rattle.std.proofs.Common.{arith}
use Rattle.sk_solve.proofs.InTurn.{as_many}
use Rattle.sk_request.specs.Grids.{grid_of, digits_of}
use Rattle.sk_cli.proofs.flips.flipped.Goals as goal

pub alternatives_text-requires : goal.alternatives_text-requires
alternatives_text-requires c =
    let same =
    as_many (grid_of c.args.request.bits) c.args.request.layout (digits_of c.args.request.bits) c.args.request.within c.args.s.now c.in-Planned.plan c.args.lists.now c.in_ok-found-in-Planned.found c.in_ok-found-in-Planned.ensures in
    rw c.as_slice.ensures (omega (arith, same, c.requires.few))
