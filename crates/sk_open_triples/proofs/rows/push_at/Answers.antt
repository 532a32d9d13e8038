use Rattle.std.proofs.Common.{◌≡◌, ◌++◌, ◌∷◌, [], ◌∙◌, List, ap, get_or}
use Rattle.std.specs.Prelude.{map}
use Rattle.std.proofs.lemmas.Option.{get_or_from_slice_get}
use Rattle.sk_open_triples.specs.declared.row.OpenRow.{OpenRow}
use Rattle.sk_open_triples.specs.declared.lower_pairs.LowerPair.{LowerPair}
use Rattle.sk_open_triples.specs.OpenRows.{triple_of}
use Rattle.sk_open_triples.proofs.Outcomes.{on_err}
use Rattle.sk_open_triples.proofs.Pushing.{put_at, unchanged_at}
use Rattle.sk_open_triples.proofs.rows.push_at.Goals as goal

pub returns-in_err-push-clause-err : goal.returns-in_err-push-clause-err
returns-in_err-push-clause-err c =
    let was : OpenRow = get_or c.args.rows.now c.args.key c.index-rows-key.result in
    on_err c.from_residual.result (unchanged_at c.args.rows.now c.args.key c.index-rows-key.result _ c.requires (ap (λ (ps : List LowerPair). map (triple_of was.greatest) ps) c.in_err-push.ensures.items))

pub returns-clause-put : goal.returns-clause-put
returns-clause-put c row row_is =
    let at : get_or c.args.rows.now c.args.key c.index-rows-key.result ≡ row = get_or_from_slice_get c.args.rows.now c.args.key row c.index-rows-key.result row_is in
    put_at c.args.rows.now c.args.key row _ c.args.pair c.requires row_is (ap (λ (r : OpenRow). r.greatest) at)
    (c.in_ok-push.ensures.items ∙ ap (λ (r : OpenRow). r.lower_pairs.items ++ c.args.pair ∷ []) at)
