use Rattle.sk_offers.proofs.Boards.{sound_start}
use Rattle.sk_offers.proofs.board.Board.new.Goals as goal

pub invariant_of-result : goal.invariant_of-result
invariant_of-result c = sound_start c.args.graph c.requires c.in_ok-family.family c.in_ok-family.ensures.clusters c.new.result c.new.ensures
