use Rattle.std.proofs.Common.{refl, subst, sym, List}
use Rattle.std.specs.Prelude.{Contains}
use Rattle.sk_base.specs.declared.Elem.{Elem}
use Rattle.sk_base.proofs.Searches.{on_ok, refused}
use Rattle.sk_triangles.specs.Growing.{GrowsBy}
use Rattle.sk_triangles.proofs.Growing.{grows_none, grows_one}
use Rattle.sk_close_by_order.specs.Heirs.{MissesSome}
use Rattle.sk_close_by_order.proofs.heir.add_if_missing.Goals as goal

pub returns-then-is_in_rising : goal.returns-then-is_in_rising
returns-then-is_in_rising c =
    grows_none (MissesSome c.args.many.now c.args.elem) c.args.all.now (λ e (same, missing). missing (subst (λ x. Contains c.args.many.now x) (sym same) (c.is_in_rising.ensures.0 c.if-is_in_rising.true)))

pub returns : goal.returns
returns c =
    let kind = MissesSome c.args.many.now c.args.elem in
    on_ok c.push.result c.push.ensures.ok (λ ok.
    subst (λ (l : List Elem). GrowsBy kind c.args.all.now l) (sym ok)
    (grows_one kind c.args.all.now c.args.elem (refl, (λ h. refused c.if-is_in_rising.ensures.1 h)) (λ e (same, missing). same)))
