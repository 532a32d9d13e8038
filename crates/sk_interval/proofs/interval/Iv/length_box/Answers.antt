use Rattle.std.proofs.Common.{◌≡◌, rules}
use Rattle.sk_interval.specs.Operations.{length_of}
use Rattle.sk_interval.proofs.FinerSums.{bounded-Refines}
use Rattle.sk_interval.proofs.interval.Iv.length_box.Goals as goal

pub returns-clause-nested : goal.returns-clause-nested
returns-clause-nested g c = λ k x p.
    let value : c.bounded.result ≡ length_of g.G.Grid.BITS c.args.self = search rules in
    rw value (bounded-Refines 40 g.G.Grid.BITS k x c.args.self p)
