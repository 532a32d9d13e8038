use Rattle.std.proofs.Common.{◌≡◌, ◌∙◌, ap, sym}
use Rattle.std.specs.Prelude.{Some, slice_get}
use Rattle.std.proofs.lemmas.Option.{slice_get-get_or}
use Rattle.sk_open_triples.proofs.Pushing.{last_row}
use Rattle.sk_open_triples.proofs.rows.last_key_of.Goals as goal

pub returns-then-is_same : goal.returns-then-is_same
returns-then-is_same c =
    let rows = c.args.rows.now in
    let key = c.in_ok-key.key.now in
    let row = c.in_ok-row.row.now in
    let (_, here, _, (within, _), _) = c.in_ok-row.ensures.lookup in
    let row_is : slice_get rows key ≡ Some row = slice_get-get_or rows key row within ∙ ap Some (sym here) in
    last_row rows c.args.order.now c.args.greatest key row (sym c.in_ok-key.ensures.value) row_is (c.is_same.ensures.0 c.if-is_same.true)
