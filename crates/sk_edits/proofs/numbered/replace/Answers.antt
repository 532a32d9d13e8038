use Rattle.std.proofs.Common.{ap, ◌∙◌}
use Rattle.sk_edits.specs.Changes.{IsPlaceOf}
use Rattle.sk_edits.proofs.Places.{stands, replaced}
use Rattle.sk_edits.proofs.numbered.replace.Goals as goal

pub returns : goal.returns
returns g c =
    let number = g.T.HasNumber.number in
    let xs = c.args.items.now in
    let n = number c.args.item in
    let place = c.place_of-place.result in
    let is_place : IsPlaceOf number xs n place = rw (c.as_slice.ensures, c.number.ensures) at c.place_of-place.ensures in
    let there = stands number xs c.requires.rise n place is_place c.requires.some.0 c.requires.some.1 c.requires.some.2 in
    c.set.ensures.new ∙ replaced number xs place c.args.item c.requires.some.0 c.requires.rise there.0 (ap number there.1 ∙ c.requires.some.2)
