use Rattle.std.proofs.Common.{List, subst, sym}
use Rattle.std.specs.Prelude.{All}
use Rattle.sk_base.specs.declared.Pin.{Pin}
use Rattle.sk_base.specs.Pins.{IsOnSheet}
use Rattle.sk_steps.proofs.SoundMeasures.{edge_measured}
use Rattle.sk_place.proofs.Edges.{block_on_sheet}
use Rattle.sk_place.proofs.live.framed.Goals as goal

pub pins_framed-requires : goal.pins_framed-requires
pins_framed-requires g c =
    subst (λ (xs : List Pin). All IsOnSheet xs) (sym c.as_slice.ensures) (block_on_sheet c.args.g.now c.requires.sound c.args.k c.in-Some.block.now (sym c.in-Some.ensures))

pub ends_framed-requires : goal.ends_framed-requires
ends_framed-requires g c = edge_measured c.args.g.now c.requires.sound c.args.k c.in-Some-edge.edge.now (sym c.in-Some-edge.ensures)
