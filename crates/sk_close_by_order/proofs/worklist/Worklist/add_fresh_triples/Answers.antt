use Rattle.std.proofs.Common.{subst, List}
use Rattle.sk_base.specs.declared.Elem.{Elem}
use Rattle.sk_base.proofs.Searches.{on_ok}
use Rattle.sk_family.specs.declared.Cluster.{Cluster}
use Rattle.sk_family.proofs.Naming.{one_of_name}
use Rattle.sk_triangles.specs.Growing.{FromSome, GrowsBy}
use Rattle.sk_triangles.proofs.Growing.{grows_none, grows_same}
use Rattle.sk_neighbours.specs.declared.Third.TheVariants.{Either}
use Rattle.sk_neighbours.specs.Triples.{AtCorner}
use Rattle.sk_close_by_order.specs.Heirs.{IsOfFresh}
use Rattle.sk_close_by_order.proofs.worklist.Worklist.add_fresh_triples.Goals as goal

pub add_triples_at-requires-clause-rises : goal.add_triples_at-requires-clause-rises
add_triples_at-requires-clause-rises c = (c.cluster.ensures.sound.bodies_rise c.in-Some.x.now c.in-Some.ensures.some.lives).elements

pub returns-in-Some-clause-grows : goal.returns-in-Some-clause-grows
returns-in-Some-clause-grows c =
    let ix = c.args.self.now.index in
    let f = c.args.family.now in
    let x = c.in-Some.x.now in
    let fresh = c.args.self.now.fresh in
    on_ok c.add_triples_at.result c.add_triples_at.ensures (λ grows.
    grows_same (FromSome (AtCorner Either ix x) fresh) (IsOfFresh ix f c.args.name fresh) c.args.all.now c.add_triples_at.new.all
    (λ m. (
      (λ h. (x, c.in-Some.ensures.some, h)),
      (λ (y, y_is, h). subst (λ (w : Cluster). FromSome (AtCorner Either ix w) fresh m) (one_of_name f c.cluster.ensures.sound c.args.name y x y_is c.in-Some.ensures.some) h),
    ))
    (subst (λ (es : List Elem). GrowsBy (FromSome (AtCorner Either ix x) es) c.args.all.now c.add_triples_at.new.all) c.as_slice.ensures grows))

pub returns-in-None-clause-grows : goal.returns-in-None-clause-grows
returns-in-None-clause-grows c =
    grows_none (IsOfFresh c.args.self.now.index c.args.family.now c.args.name c.args.self.now.fresh) c.args.all.now (λ m (x, x_is, h). c.in-None.ensures.none (x, x_is))
