use Rattle.std.proofs.Common.{◌≡◌, ◌∙◌, ◌==◌, List, ap, sym}
use Rattle.std.specs.List.{list_any}
use Rattle.sk_base.specs.declared.Elem.{Elem}
use Rattle.sk_base.specs.declared.Pin.{Pin}
use Rattle.sk_base.specs.declared.Rule.{Rule}
use Rattle.sk_base.specs.declared.Rule.TheVariants.{Block}
use Rattle.sk_base.specs.Numbering.{is_elem}
use Rattle.sk_entry.proofs.PinTests.{any_map}
use Rattle.sk_graph.specs.Naming.{named_by}
use Rattle.sk_edits.proofs.reading.names.Goals as goal

pinned : (rule : Rule) (pins ps : List Pin) (x : Elem) → rule ≡ Block pins → ps ≡ pins → list_any (λ (pin : Pin). pin.elem.0 == x.0) ps ≡ is_elem (named_by rule) x
pinned rule pins ps x is same =
    ap (λ qs. list_any (λ (pin : Pin). pin.elem.0 == x.0) qs) same
    ∙ sym (any_map (λ (y : Elem). y.0 == x.0) (λ (pin : Pin). pin.elem) pins)
    ∙ ap (λ (r : Rule). is_elem (named_by r) x) (sym is)

pub returns-in-Block : goal.returns-in-Block
returns-in-Block c =
    c.is_pinned.ensures ∙ pinned c.args.rule.now c.in-Block.pins c.as_slice.result.now c.args.elem c.in-Block.is c.as_slice.ensures
