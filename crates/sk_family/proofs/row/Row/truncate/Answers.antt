use Rattle.std.proofs.Common.{drop, take, ap, ◌∙◌}
use Rattle.std.proofs.lemmas.List.{drop-take}
use Rattle.sk_family.proofs.row.Row.truncate.Goals as goal

pub returns : goal.returns
returns g c =
    let free = c.self.inside.free in
    ap (λ l. drop free l) c.truncate.ensures.items ∙ drop-take free c.args.place c.self.inside.items.items ∙ ap (λ l. take c.args.place l) c.self.view_is
