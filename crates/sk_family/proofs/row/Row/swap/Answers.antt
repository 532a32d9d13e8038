use Rattle.std.proofs.Common.{◌<◌, length, drop, ap, sym, subst, ◌∙◌}
use Rattle.std.specs.List.{swap}
use Rattle.sk_family.proofs.Rows.{drop_swapped}
use Rattle.sk_family.proofs.row.Row.swap.Goals as goal

pub returns : goal.returns
returns g c =
    let free = c.self.inside.free in
    ap (λ l. drop free l) c.swap.ensures.items
    ∙ drop_swapped free c.args.i c.args.j c.self.inside.items.items
    (subst (λ l. c.args.i < length l) (sym c.self.view_is) c.requires.i) (subst (λ l. c.args.j < length l) (sym c.self.view_is) c.requires.j)
    ∙ ap (λ l. swap l c.args.i c.args.j) c.self.view_is
