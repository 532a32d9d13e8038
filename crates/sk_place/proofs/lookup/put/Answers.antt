use Rattle.std.proofs.Common.{sym, ◌∙◌}
use Rattle.sk_base.proofs.Searches.{on_ok}
use Rattle.sk_place.specs.Clusters.{IsPlaceOf, IsAt}
use Rattle.sk_place.proofs.Lookups.{put_at, put_nowhere}
use Rattle.sk_place.proofs.lookup.put.Goals as goal

pub returns-then-is_at : goal.returns-then-is_at
returns-then-is_at g c =
    let place : IsPlaceOf c.args.boxes.now c.args.b.elem c.place_of-place.result = rw c.as_slice.ensures at c.place_of-place.ensures in
    let here : IsAt c.args.boxes.now c.place_of-place.result c.args.b.elem = rw c.as_slice-2.ensures at c.if-is_at.ensures in
    sym (put_nowhere c.args.boxes.now c.args.b c.place_of-place.result place here)

pub returns-else-is_at : goal.returns-else-is_at
returns-else-is_at g c =
    let place : IsPlaceOf c.args.boxes.now c.args.b.elem c.place_of-place.result = rw c.as_slice.ensures at c.place_of-place.ensures in
    let not_here : ¬ IsAt c.args.boxes.now c.place_of-place.result c.args.b.elem = rw c.as_slice-2.ensures at c.if-is_at.ensures in
    on_ok c.insert.result c.insert.ensures.ok (λ is. is ∙ sym (put_at c.args.boxes.now c.args.b c.place_of-place.result place not_here))
