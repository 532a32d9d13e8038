use Rattle.sk_cli.proofs.ExcessTold.{kept_places}
use Rattle.sk_cli.proofs.excess.placed_text.Goals as goal

pub offs_text-requires-clause-placed : goal.offs_text-requires-clause-placed
offs_text-requires-clause-placed c =
    let h = c.in-Holds in
    let placed = rw (c.requires.kept, c.in-Holds.is) at c.requires.placed in
    rw c.requires.graph (kept_places c.args.own.now c.requires.own c.args.request c.args.left.now c.args.plan.now _ _ placed)
