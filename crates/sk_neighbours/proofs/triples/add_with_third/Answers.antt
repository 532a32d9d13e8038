use Rattle.std.proofs.Common.{sym, subst, List}
use Rattle.sk_triangles.specs.Growing.{GrowsBy}
use Rattle.sk_triangles.proofs.Growing.{grows_one}
use Rattle.sk_family.specs.declared.Merge.{Merge}
use Rattle.sk_neighbours.specs.Walked.{WithThird}
use Rattle.sk_neighbours.proofs.Walked.{one_triple}
use Rattle.sk_neighbours.proofs.triples.add_with_third.Goals as goal

pub triple_of-requires : goal.triple_of-requires
triple_of-requires c = (c.is_third_cluster.ensures.0 c.if-is_third_cluster.true).1

pub returns-in_ok-push : goal.returns-in_ok-push
returns-in_ok-push c =
    let t = c.args.thirds.now in
    let x = t.x.now in
    let y = t.y.now in
    let z = c.args.z.now in
    let kind = WithThird t.index.now x y t.a c.args.b z in
    subst (λ (new : List Merge). GrowsBy kind c.args.all.now new) (sym c.in_ok-push.ensures.ok)
    (grows_one kind c.args.all.now c.triple_of.result (c.is_third_cluster.ensures.0 c.if-is_third_cluster.true, c.triple_of.ensures)
    (λ m (third, m_is). one_triple x.name y.name z.name m c.triple_of.result m_is c.triple_of.ensures))
