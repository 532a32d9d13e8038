use Rattle.std.proofs.Common.{refl}
use Rattle.sk_base.proofs.Searches.{on_ok}
use Rattle.sk_triangles.specs.Growing.{FromSome}
use Rattle.sk_triangles.proofs.Growing.{grows_same}
use Rattle.sk_triangles.specs.Walk.{DownBy, LastBy}
use Rattle.sk_triangles.proofs.Walking.{down_same}
use Rattle.sk_triangles.proofs.walk.add_down_by.Goals as goal

pub returns : goal.returns
returns g c =
    let lines = c.args.lines.now in
    let x = c.args.x in
    on_ok c.add_last_of.result c.add_last_of.ensures (λ grows.
    grows_same (FromSome (LastBy (g.V.Visitor.keeps c.args.visitor.now) lines c.args.highs.now x) c.seen_from.result.now) (DownBy (g.V.Visitor.keeps c.args.visitor.now) lines c.args.counts.now c.args.ends.now c.args.highs.now x) c.args.all.now c.add_last_of.new.all
    (down_same (g.V.Visitor.keeps c.args.visitor.now) lines c.args.counts.now c.args.ends.now c.args.highs.now x c.seen_from.result.now c.seen_from.ensures (c.if-not-is_lower.ensures.0 refl)) grows)
