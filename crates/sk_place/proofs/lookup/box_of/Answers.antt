use Rattle.std.proofs.Common.{sym}
use Rattle.sk_place.proofs.Lookups.{at_place}
use Rattle.sk_place.proofs.lookup.box_of.Goals as goal

pub bounds-boxes-place : goal.bounds-boxes-place
bounds-boxes-place g c = (at_place c.args.boxes.now c.args.e c.place_of-place.result c.requires.rises c.place_of-place.ensures c.requires.holds).0

pub bounds-boxes-place-2 : goal.bounds-boxes-place-2
bounds-boxes-place-2 g c = (at_place c.args.boxes.now c.args.e c.place_of-place.result c.requires.rises c.place_of-place.ensures c.requires.holds).0

pub returns : goal.returns
returns g c = sym ((at_place c.args.boxes.now c.args.e c.place_of-place.result c.requires.rises c.place_of-place.ensures c.requires.holds).1 c.index-boxes-place.result)
