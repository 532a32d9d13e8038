use Rattle.std.proofs.Common.{sym, subst, List, refl}
use Rattle.sk_base.specs.Rising.{IsRising}
use Rattle.sk_base.proofs.Searches.{on_ok}
use Rattle.sk_edits.specs.Changes.{IsPlaceOf, HasItem}
use Rattle.sk_edits.proofs.Places.{put_rises, put_has}
use Rattle.sk_edits.proofs.numbered.put.Goals as goal

pub returns-clause-rise : goal.returns-clause-rise
returns-clause-rise g c =
    let number = g.T.HasNumber.number in
    let xs = c.args.items.now in
    let n = number c.args.item in
    let place = c.place_of-place.result in
    let is_place : IsPlaceOf number xs n place = rw (c.as_slice.ensures, c.number.ensures) at c.place_of-place.ensures in
    on_ok c.insert.result c.insert.ensures.ok (λ is. subst (λ (ys : List _). IsRising number ys) (sym is)
    (put_rises number xs c.requires.rise n place is_place c.args.item refl c.requires.other))

pub returns-clause-put : goal.returns-clause-put
returns-clause-put g c =
    on_ok c.insert.result c.insert.ensures.ok (λ is. subst (λ (ys : List _). HasItem c.args.item c.args.items.now ys) (sym is)
    (put_has g.T.HasNumber.number c.args.items.now c.place_of-place.result c.args.item))
