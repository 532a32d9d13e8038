use Rattle.sk_base.proofs.Searches.{on_ok}
use Rattle.sk_triangles.proofs.Growing.{grows_same}
use Rattle.sk_neighbours.specs.Triples.{AtCorner}
use Rattle.sk_neighbours.specs.Walked.{FromCorner}
use Rattle.sk_neighbours.proofs.Walked.{corner_walked}
use Rattle.sk_neighbours.proofs.triples.add_by_search.Goals as goal

pub at_element-requires-clause-can : goal.at_element-requires-clause-can
at_element-requires-clause-can c y held = (c.requires.index, c.requires.rises)

pub returns : goal.returns
returns c =
    let ix = c.args.index.now in
    let x = c.args.x.now in
    on_ok c.at_element.result c.at_element.ensures (λ grows.
    grows_same (FromCorner c.args.third ix x c.args.a) (AtCorner c.args.third ix x c.args.a) c.args.all.now c.at_element.new.all
    (λ m. corner_walked ix c.args.third x c.args.a m) grows)
