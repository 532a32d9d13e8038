use Rattle.std.proofs.Common.{subst, List, sym}
use Rattle.std.specs.Prelude.{◌↔◌, Contains}
use Rattle.sk_base.proofs.Searches.{on_ok}
use Rattle.sk_triangles.specs.declared.ends.End.{End}
use Rattle.sk_triangles.specs.Growing.{FromSome}
use Rattle.sk_triangles.proofs.Growing.{grows_same}
use Rattle.sk_triangles.specs.Ranks.{IsHigh}
use Rattle.sk_triangles.specs.Walk.{DownBy, FoundFrom}
use Rattle.sk_triangles.proofs.Walking.{seen_found}
use Rattle.sk_triangles.proofs.walk.add_from_corner.Goals as goal

pub returns : goal.returns
returns g c =
    let lines = c.args.lines.now in
    let counts = c.args.counts.now in
    let ends = c.args.ends.now in
    let seen = c.seen_from-seen.result.now in
    on_ok c.add_down_from.result c.add_down_from.ensures (λ grows.
    grows_same (FromSome (DownBy (g.V.Visitor.keeps c.args.visitor.now) lines counts ends c.as_slice.result.now) seen) (FoundFrom (g.V.Visitor.keeps c.args.visitor.now) lines counts ends c.args.corner) c.args.all.now c.add_down_from.new.all
    (seen_found (g.V.Visitor.keeps c.args.visitor.now) lines counts ends c.as_slice.result.now seen c.args.corner c.seen_from-seen.ensures
    (λ x. subst (λ (l : List End). Contains l x ↔ (Contains seen x × IsHigh counts x)) (sym c.as_slice.ensures.value) (c.in_ok-highs.ensures.same x)))
    grows)
