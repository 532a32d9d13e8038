use Rattle.std.proofs.Common.{◌≡◌, ◌==◌, List, get_or, rules, ap, sym, subst, ◌∙◌}
use Rattle.std.specs.Prelude.{Some, find}
use Rattle.std.proofs.lemmas.List.Sorted.{answers_always}
use Rattle.sk_base.specs.declared.graph.Block.{Block}
use Rattle.sk_base.specs.Rising.{IsRising}
use Rattle.sk_base.proofs.Halves.{found_first, none_first}
use Rattle.sk_base.proofs.graph.Graph.block.Goals as goal

pub returns-in-Ok : goal.returns-in-Ok
returns-in-Ok c =
    let blocks : List Block = c.as_slice-blocks.result.now in
    let here : Block = c.index-blocks-i.result in
    let found = c.in-Ok.ensures.position (λ (x : Block). x.id.0) (answers_always _ _ _ (λ f a r g called. search rules)) in
    let rises : IsRising (λ (x : Block). x.id.0) blocks = rw c.as_slice-blocks.ensures c.requires in
    let first = found_first (λ (x : Block). x.id.0) blocks c.args.number.0 rises c.in-Ok.i c.in-Ok.ensures.bound found here in
    ap Some c.index-blocks-i.is ∙ sym (subst (λ (xs : List Block). find (λ (x : Block). x.id.0 == c.args.number.0) xs ≡ Some (get_or blocks c.in-Ok.i here)) c.as_slice-blocks.ensures first)

pub returns-in-Err : goal.returns-in-Err
returns-in-Err c =
    let blocks : List Block = c.as_slice-blocks.result.now in
    let found = c.in-Err.ensures.position (λ (x : Block). x.id.0) (answers_always _ _ _ (λ f a r g called. search rules)) in
    let rises : IsRising (λ (x : Block). x.id.0) blocks = rw c.as_slice-blocks.ensures c.requires in
    let none = none_first (λ (x : Block). x.id.0) blocks c.args.number.0 rises c.in-Err.field-0 found in
    sym (rw c.as_slice-blocks.ensures at none)
