use Rattle.std.proofs.Common.{sym, subst, List, Vec, Global}
use Rattle.std.specs.Prelude.{◌↔◌, Contains}
use Rattle.sk_triangles.specs.declared.ends.End.{End}
use Rattle.sk_triangles.specs.Growing.{FromSome}
use Rattle.sk_triangles.proofs.Growing.{grown_from_none}
use Rattle.sk_triangles.specs.Ranks.{IsHigh, IsHighOf}
use Rattle.sk_triangles.proofs.Walking.{highs_are, same_on_ok}
use Rattle.sk_triangles.proofs.highs.highs_of.Goals as goal

pub returns-clause-same : goal.returns-clause-same
returns-clause-same c =
    let counts = c.args.counts.now in
    let ends = c.args.ends.now in
    let kept = c.as_slice.result.now in
    same_on_ok (λ (sorted : Vec End Global) x. Contains sorted.items x) (λ x. Contains kept x) (λ x. Contains ends x × IsHigh counts x) c.by_elem.result c.by_elem.ensures.same
    (λ x. highs_are counts ends kept x
    (subst (λ (l : List End). Contains l x ↔ FromSome (IsHighOf counts) ends x) (sym c.as_slice.ensures)
    (grown_from_none (FromSome (IsHighOf counts) ends) _ c.add_highs.new.highs c.new-highs.ensures c.in_ok-add_highs.ensures x)))
