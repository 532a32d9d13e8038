use Rattle.std.proofs.Common.{subst, List}
use Rattle.sk_base.specs.declared.Elem.{Elem}
use Rattle.sk_neighbours.specs.declared.triples.Third.TheVariants.{Below}
use Rattle.sk_triangles.specs.Growing.{GrowsBy, FromSome}
use Rattle.sk_triangles.proofs.Growing.{grows_start, grows_step, grows_end}
use Rattle.sk_neighbours.specs.Triples.{AtCorner}
use Rattle.sk_neighbours.proofs.triples.add_triples_of.Goals as goal

pub loop-a-init : goal.loop-a-init
loop-a-init c = grows_start (AtCorner Below c.args.index.now c.args.x.now) c.as_slice-a-items.result.now c.args.all.now

pub loop-a-preserved : goal.loop-a-preserved
loop-a-preserved c =
    grows_step (AtCorner Below c.args.index.now c.args.x.now) c.as_slice-a-items.result.now c.args.all.now c.loop-a.all c.add_by_search.new.all c.loop-a.a-index (record { 0 = 0 }) c.loop-a-test.true c.loop-a.invariant c.in_ok-add_by_search.ensures

pub returns : goal.returns
returns c =
    subst (λ (xs : List Elem). GrowsBy (FromSome (AtCorner Below c.args.index.now c.args.x.now) xs) c.args.all.now c.loop-a.all) c.as_slice-a-items.ensures
    (grows_end (AtCorner Below c.args.index.now c.args.x.now) c.as_slice-a-items.result.now c.args.all.now c.loop-a.all c.loop-a.a-index c.loop-a-test.false c.loop-a.invariant)
