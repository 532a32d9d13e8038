use Rattle.sk_close_by_order.proofs.NamesBelow.{names_told}
use Rattle.sk_open_triples.proofs.Outcomes.{both_ok}
use Rattle.sk_close_by_order.proofs.worklist.Worklist.holding.Goals as goal

pub add_holders_of_all-requires : goal.add_holders_of_all-requires
add_holders_of_all-requires c = (let (g, f, follows) = c.requires in follows.represents.index)

pub returns-clause-exactly : goal.returns-clause-exactly
returns-clause-exactly c =
    both_ok _ _ _ c.names_in_order.result c.names_in_order.ensures.same c.names_in_order.ensures.in_order (λ names same order g f follows.
    names_told c.args.self.now.index g f follows.represents c.args.elements.now c.args.below c.new-found.result c.add_holders_of_all.new.all c.as_slice.result.now names.items
    c.new-found.ensures c.in_ok-add_holders_of_all.ensures c.as_slice.ensures same)
