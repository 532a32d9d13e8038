use Rattle.std.proofs.Common.{subst}
use Rattle.std.specs.Prelude.{All}
use Rattle.sk_family.specs.Clusters.{IsLive}
use Rattle.sk_rules.specs.Merges.{Holds}
use Rattle.sk_family.specs.Merges.{names_of}
use Rattle.sk_offers.specs.Offering.{Table}
use Rattle.sk_offers.proofs.board.Board.offer.Goals as goal

pub returns-in-None-clause-answer : goal.returns-in-None-clause-answer
returns-in-None-clause-answer c =
    subst (λ (t : Table). All (λ n. IsLive t.family n) (names_of c.args.merge) × ¬ Holds t.graph t.family c.args.merge) c.self.view_is
    (c.in_default.ensures.none, c.in-None.ensures.none)
