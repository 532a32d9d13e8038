use Rattle.std.proofs.Common.{refl}
use Rattle.sk_drawn.proofs.Roots.{root_is_nearest}
use Rattle.sk_drawn.proofs.root.nearest_root.Goals as goal

pub returns : goal.returns
returns c =
    root_is_nearest c.args.over c.args.under c.root_floor-root.result (_) c.requires.some c.root_floor-root.ensures.greatest.square c.root_floor-root.ensures.greatest.greatest refl
