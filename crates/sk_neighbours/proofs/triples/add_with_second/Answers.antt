use Rattle.std.proofs.Common.{subst, List}
use Rattle.sk_base.specs.declared.Elem.{Elem}
use Rattle.sk_base.specs.declared.Name.{Name}
use Rattle.sk_base.proofs.Searches.{on_ok}
use Rattle.sk_triangles.specs.Growing.{FromSome, GrowsBy}
use Rattle.sk_neighbours.specs.Walked.{WithThird, limit_of}
use Rattle.sk_neighbours.specs.Walks.{AtElement}
use Rattle.sk_neighbours.proofs.triples.add_with_second.Goals as goal

pub along-requires-clause-can : goal.along-requires-clause-can
along-requires-clause-can c z held = (c.requires.rises, c.requires.index.rises z held)

pub returns : goal.returns
returns c =
    let ix = c.args.index.now in
    let x = c.args.x.now in
    let y = c.args.y.now in
    let kind = WithThird ix x y c.args.a in
    on_ok c.along.result c.along.ensures (λ grows.
    subst (λ (es : List Elem). GrowsBy (FromSome (AtElement kind ix (limit_of c.args.third x.name y.name)) es) c.args.all.now c.along.new.all) c.as_slice.ensures
    (subst (λ (n : Name). GrowsBy (FromSome (AtElement kind ix n) c.as_slice.result.now) c.args.all.now c.along.new.all) c.limit-below.ensures grows))
