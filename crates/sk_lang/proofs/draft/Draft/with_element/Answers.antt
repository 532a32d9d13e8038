use Rattle.std.proofs.Common.{◌≡◌, None, map, sym, ap, ◌∙◌}
use Rattle.std.specs.List.{find}
use Rattle.sk_base.specs.declared.Sketch.{Sketch}
use Rattle.sk_lang.specs.Index.{key_of}
use Rattle.sk_entry.specs.Named.{element_named}
use Rattle.sk_lang.proofs.ByHash.{has_name, keys_pushed}
use Rattle.sk_lang.proofs.draft.Draft.with_element.Goals as goal

pub invariant_of-result : goal.invariant_of-result
invariant_of-result c =
    let e = c.args.element in
    let elements = c.self.inside.sketch.elements in
    let none : find (has_name e.label) elements ≡ None = ap (λ (s : Sketch). element_named s e.label) c.self.view_is ∙ c.requires in
    c.in_ok-insert.ensures.keys ∙ keys_pushed e elements c.self.inside.names.keys none c.self.invariant ∙ ap (map key_of) (sym c.in_ok-push.ensures.ok)
