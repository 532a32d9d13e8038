use Rattle.std.proofs.Common.{refl}
use Rattle.sk_base.proofs.Searches.{on_ok}
use Rattle.sk_triangles.specs.Growing.{FromSome}
use Rattle.sk_triangles.proofs.Growing.{grows_same}
use Rattle.sk_triangles.specs.Walk.{JoinedBy, LastBy}
use Rattle.sk_triangles.proofs.Walking.{joined_same}
use Rattle.sk_triangles.proofs.walk.add_last_by.Goals as goal

pub returns : goal.returns
returns g c =
    let x = c.args.x in
    let y = c.args.y in
    on_ok c.add_joined.result c.add_joined.ensures (λ grows.
    grows_same (FromSome (JoinedBy (g.V.Visitor.keeps c.args.visitor.now) x.name y.name) c.ends_at.result.now) (LastBy (g.V.Visitor.keeps c.args.visitor.now) c.args.lines.now c.args.highs.now x y) c.args.all.now c.add_joined.new.all
    (joined_same (g.V.Visitor.keeps c.args.visitor.now) c.args.lines.now c.args.highs.now x y c.ends_at.result.now c.ends_at.ensures (c.if-not-goes_on.ensures.0 refl)) grows)
