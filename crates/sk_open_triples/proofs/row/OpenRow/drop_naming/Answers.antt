use Rattle.std.proofs.Common.{rules, ◌≡◌, ◌∙◌, ◌||◌, List, ap, sym}
use Rattle.std.specs.Prelude.{filter, map, not}
use Rattle.std.proofs.lemmas.Fn.{filter_same}
use Rattle.sk_base.specs.ClusterNames.{is_named}
use Rattle.sk_open_triples.specs.declared.lower_pairs.LowerPair.{LowerPair}
use Rattle.sk_open_triples.specs.OpenRows.{triple_of}
use Rattle.sk_open_triples.proofs.Dropping.{row_goes, row_stays}
use Rattle.sk_open_triples.proofs.row.OpenRow.drop_naming.Goals as goal

pub returns-then-is_among : goal.returns-then-is_among
returns-then-is_among c =
    let x = c.args.self.now.greatest in
    ap (λ (ps : List LowerPair). map (triple_of x) ps) c.new.ensures.items ∙ sym (row_goes c.args.names.now x (sym c.is_among.ensures ∙ c.if-is_among.true) c.args.self.now.lower_pairs.items)

pub returns-else-is_among : goal.returns-else-is_among
returns-else-is_among c =
    let x = c.args.self.now.greatest in
    let gone = c.args.names.now in
    let left : c.retain.new.self.items ≡ filter (λ (p : LowerPair). not (is_named gone p.second || is_named gone p.third)) c.args.self.now.lower_pairs.items =
    filter_same _ _ _ (λ m b f' k. search rules) _ _ c.retain.ensures.filtered in
    ap (λ (ps : List LowerPair). map (triple_of x) ps) left ∙ sym (row_stays gone x (sym c.is_among.ensures ∙ c.if-is_among.false) c.args.self.now.lower_pairs.items)
