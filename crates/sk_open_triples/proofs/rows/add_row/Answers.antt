use Rattle.std.proofs.Common.{List, ap, arith}
use Rattle.std.specs.Prelude.{map}
use Rattle.sk_open_triples.specs.declared.row.OpenRow.{OpenRow}
use Rattle.sk_open_triples.specs.declared.lower_pairs.LowerPair.{LowerPair}
use Rattle.sk_open_triples.specs.OpenRows.{triple_of}
use Rattle.sk_open_triples.proofs.Pushing.{added_alike, placed_alike, placed_last}
use Rattle.sk_open_triples.proofs.rows.add_row.Goals as goal

pub returns-in_err-push-2-clause-alike : goal.returns-in_err-push-2-clause-alike
returns-in_err-push-2-clause-alike c =
    let row : OpenRow = record { greatest = c.args.greatest; lower_pairs = c.new.result } in
    added_alike c.args.rows.now.items c.push.new.self.items c.args.order.now.items row (ap (λ (ps : List LowerPair). map (triple_of c.args.greatest) ps) c.new.ensures.items) c.in_ok-push.ensures.items
    c.push-2.new.self.items c.in_err-push-2.ensures.items

pub returns-clause-alike : goal.returns-clause-alike
returns-clause-alike c =
    let row : OpenRow = record { greatest = c.args.greatest; lower_pairs = c.new.result } in
    placed_alike c.args.rows.now.items c.push.new.self.items c.args.order.now.items row (ap (λ (ps : List LowerPair). map (triple_of c.args.greatest) ps) c.new.ensures.items) c.in_ok-push.ensures.items
    c.push-2.new.self.items c.len-key.result (omega (arith, c.len-key.ensures)) c.in_ok-push-2.ensures.items

pub returns-clause-last : goal.returns-clause-last
returns-clause-last c =
    let row : OpenRow = record { greatest = c.args.greatest; lower_pairs = c.new.result } in
    placed_last c.args.rows.now.items c.push.new.self.items c.args.order.now.items row (ap (λ (ps : List LowerPair). map (triple_of c.args.greatest) ps) c.new.ensures.items) c.in_ok-push.ensures.items
    c.push-2.new.self.items c.len-key.result (omega (arith, c.len-key.ensures)) c.in_ok-push-2.ensures.items
