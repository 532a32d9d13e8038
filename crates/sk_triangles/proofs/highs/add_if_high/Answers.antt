use Rattle.std.proofs.Common.{refl, sym, subst, List}
use Rattle.sk_triangles.specs.declared.ends.End.{End}
use Rattle.sk_triangles.specs.Growing.{GrowsBy}
use Rattle.sk_triangles.proofs.Growing.{grows_one}
use Rattle.sk_triangles.specs.Ranks.{IsHighOf}
use Rattle.sk_triangles.proofs.highs.add_if_high.Goals as goal

pub returns-in_ok-push : goal.returns-in_ok-push
returns-in_ok-push c =
    let kind = IsHighOf c.args.counts.now c.args.end in
    subst (λ (new : List End). GrowsBy kind c.args.highs.now new) (sym c.in_ok-push.ensures.ok)
    (grows_one kind c.args.highs.now c.args.end (refl, c.is_lower.ensures.0 c.if-is_lower.true) (λ x (is, high). is))
