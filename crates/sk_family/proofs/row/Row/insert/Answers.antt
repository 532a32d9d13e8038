use Rattle.std.proofs.Common.{◌+◌, drop, ap, refl, ◌∙◌}
use Rattle.std.specs.Prelude.{insert}
use Rattle.sk_family.proofs.Rows.{drop_inserted}
use Rattle.sk_family.proofs.row.Row.insert.Goals as goal

pub returns-clause-ok : goal.returns-clause-ok
returns-clause-ok g c =
    let free = c.self.inside.free in
    let place = c.args.place in
    ap (λ l. drop free l) c.in_ok-insert.ensures.items
    ∙ drop_inserted free place (free + place) c.self.inside.items.items c.args.item refl c.self.invariant
    ∙ ap (λ l. insert l place c.args.item) c.self.view_is
