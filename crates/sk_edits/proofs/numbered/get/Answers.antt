use Rattle.std.proofs.Common.{◌≡◌, ◌∙◌}
use Rattle.std.proofs.lemmas.List.{get_or_default}
use Rattle.sk_edits.proofs.Places.{stands}
use Rattle.sk_edits.proofs.numbered.get.Goals as goal

pub returns : goal.returns
returns g c =
    let number = g.T.HasNumber.number in
    let xs = c.args.items.now in
    let x = c.requires.some.0 in
    let there = stands number xs c.requires.rise c.args.number c.place_of.result c.place_of.ensures x c.requires.some.1 c.requires.some.2 in
    let same : c.index-items-place_of.result ≡ x =
    c.index-items-place_of.is ∙ get_or_default xs c.place_of.result c.index-items-place_of.result x there.0 ∙ there.1 in
    rw same (c.requires.some.1, c.requires.some.2)
