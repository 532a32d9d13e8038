use Rattle.std.proofs.Common.{◌∙◌}
use Rattle.sk_open_triples.proofs.Sorting.{found_among}
use Rattle.sk_open_triples.proofs.order.is_among.Goals as goal

pub returns-else-names-le-FEW : goal.returns-else-names-le-FEW
returns-else-names-le-FEW c = c.is_ok.ensures.value ∙ found_among c.args.names.now c.args.name c.requires c.binary_search.result c.binary_search.ensures.bound c.binary_search.ensures.position
