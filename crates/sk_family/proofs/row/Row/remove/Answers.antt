use Rattle.std.proofs.Common.{◌+◌, drop, ap, refl, ◌∙◌}
use Rattle.std.specs.Prelude.{remove}
use Rattle.sk_family.proofs.Rows.{drop_removed}
use Rattle.sk_family.proofs.row.Row.remove.Goals as goal

pub returns-else-place-len : goal.returns-else-place-len
returns-else-place-len g c =
    let free = c.self.inside.free in
    let place = c.args.place in
    ap (λ l. drop free l) c.remove.ensures.items
    ∙ drop_removed free place (free + place) c.self.inside.items.items refl c.self.invariant
    ∙ ap (λ l. remove l place) c.self.view_is
