use Rattle.std.proofs.Common.{rules, sym, subst}
use Rattle.std.specs.Prelude.{◌↔◌, Contains, IsTrue}
use Rattle.std.proofs.lemmas.List.Sorted.{answers_always}
use Rattle.sk_base.specs.declared.Elem.{Elem}
use Rattle.sk_triangles.proofs.Found.{found_where_in}
use Rattle.sk_triangles.proofs.corners.is_in_rising.Goals as goal

pub returns : goal.returns
returns c =
    subst (λ b. IsTrue b ↔ Contains c.args.xs.now c.args.elem) (sym c.is_ok.ensures.value)
    (found_where_in c.args.xs.now c.args.elem c.requires c.binary_search_by_key.result c.binary_search_by_key.ensures.bound
    (c.binary_search_by_key.ensures.position (λ (x : Elem). x.0) (answers_always _ _ _ (λ f a r g called. search rules))))
