use Rattle.std.proofs.Common.{refl}
use Rattle.sk_steps.proofs.LeafLemmas.{length-ok}
use Rattle.sk_steps.proofs.leaf.length.Goals as goal

pub unwrap-requires : goal.unwrap-requires
unwrap-requires g c = rw (c.length_box.ensures.value, c.signed.ensures, c.of_um.ensures.value, length-ok g.G.Grid.BITS c.args.side c.args.far.0 c.requires) refl
