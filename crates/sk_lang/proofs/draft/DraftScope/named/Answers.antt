use Rattle.std.proofs.Common.{◌≡◌, Some, None, sym, ap, ◌∙◌, position, map}
use Rattle.sk_base.specs.declared.Sketch.{Sketch}
use Rattle.std.specs.Option.{option_copied}
use Rattle.sk_entry.specs.Named.{element_named}
use Rattle.sk_lang.specs.Index.{key_of}
use Rattle.sk_lang.proofs.ByHash.{is_key, found_at, found_nowhere}
use Rattle.sk_lang.proofs.draft.DraftScope.named.Goals as goal

pub returns-in_err-place : goal.returns-in_err-place
returns-in_err-place c =
    let name = c.args.name in
    let elements = c.self.inside.sketch.elements in
    let none : position (is_key name) (map key_of elements) ≡ None =
    ap (position (is_key name)) (sym c.self.invariant) ∙ sym c.get_index_of.ensures.index ∙ c.in_err-place.was in
    ap option_copied c.from_residual.ensures ∙ sym (found_nowhere name elements none) ∙ ap (λ (s : Sketch). element_named s name) c.self.view_is

pub returns : goal.returns
returns c =
    let name = c.args.name in
    let elements = c.self.inside.sketch.elements in
    let some : position (is_key name) (map key_of elements) ≡ Some c.in_ok-place.place =
    ap (position (is_key name)) (sym c.self.invariant) ∙ sym c.get_index_of.ensures.index ∙ c.in_ok-place.was in
    c.get.ensures ∙ found_at name elements c.in_ok-place.place some ∙ ap (λ (s : Sketch). element_named s name) c.self.view_is
