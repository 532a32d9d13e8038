use Rattle.std.proofs.Common.{◌∙◌, List, ap, sym}
use Rattle.std.specs.List.{list_all}
use Rattle.std.proofs.lemmas.List.Folds.{list_all-map}
use Rattle.sk_base.specs.declared.Pin.{Pin}
use Rattle.sk_base.specs.declared.Rule.{Rule}
use Rattle.sk_base.specs.Numbering.{is_elem}
use Rattle.sk_graph.specs.Naming.{named_by}
use Rattle.sk_parts.proofs.own_sketch.lies_among.Goals as goal

pub returns-in-Block : goal.returns-in-Block
returns-in-Block c =
    c.has_pins.ensures
    ∙ ap (λ (pins : List Pin). list_all (λ (pin : Pin). is_elem c.args.numbers.now pin.elem) pins) c.as_slice.ensures
    ∙ sym (list_all-map (is_elem c.args.numbers.now) (λ (pin : Pin). pin.elem) c.in-Block.pins)
    ∙ ap (λ (r : Rule). list_all (is_elem c.args.numbers.now) (named_by r)) (sym c.in-Block.is)
