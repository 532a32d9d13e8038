use Rattle.std.proofs.Common.{◌∙◌, ap, sym}
use Rattle.std.specs.Prelude.{Some}
use Rattle.std.proofs.lemmas.Option.{slice_get-get_or}
use Rattle.sk_open_triples.proofs.rows.is_row_of.Goals as goal

pub returns-in-Some : goal.returns-in-Some
returns-in-Some c h =
    let row = c.in-Some.row.now in
    let (_, here, _, (within, _), _) = c.in-Some.ensures.lookup in record {
      row = row;
      there = slice_get-get_or c.args.rows.now c.args.key row within ∙ ap Some (sym here);
      has_name = c.is_same.ensures.0 h;
    }
