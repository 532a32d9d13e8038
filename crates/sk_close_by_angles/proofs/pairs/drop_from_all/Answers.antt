use Rattle.std.proofs.Common.{◌<◌, ◌≤◌, [], ◌∷◌, ◌++◌, sym, subst, ap, ◌∙◌, arith, length, map, drop, set}
use Rattle.std.specs.Prelude.{AllPairs}
use Rattle.std.proofs.lemmas.List.{take_all, drop_all, append-nil}
use Rattle.std.proofs.lemmas.List.Edits.{map_over_more}
use Rattle.std.proofs.lemmas.List.Elements.{All-get_or}
use Rattle.sk_base.specs.ClusterNames.{IsBelow}
use Rattle.sk_close_by_angles.specs.declared.pairs.Partners.{Partners}
use Rattle.sk_close_by_angles.specs.MergeRows.{without}
use Rattle.sk_close_by_angles.proofs.Pairing.{still_there}
use Rattle.sk_close_by_angles.proofs.pairs.drop_from_all.Goals as goal

pub drop_both-requires : goal.drop_both-requires
drop_both-requires c =
    let rows = c.args.rows.now in
    let i = c.loop-row.row-index in
    let row = c.row-item.result in
    let i_in : i < length rows = omega arith in
    let there = still_there (without (c.args.x ∷ c.args.y ∷ [])) rows c.loop-row.rows i row i_in c.loop-row.invariant in
    subst (λ (p : Partners). AllPairs IsBelow p.lessers) (sym there) (All-get_or (λ (p : Partners). AllPairs IsBelow p.lessers) rows i row i_in c.requires)

pub loop-row-preserved : goal.loop-row-preserved
loop-row-preserved c =
    let rows = c.args.rows.now in
    let i = c.loop-row.row-index in
    let i_in : i < length rows = omega arith in
    let both = without (c.args.x ∷ c.args.y ∷ []) in
    ap (λ p. set c.loop-row.rows i p) (c.drop_both.ensures ∙ ap both (sym c.row-item.is))
    ∙ map_over_more both rows c.loop-row.rows i c.row-item.result i_in c.loop-row.invariant c.row-item.is

pub returns : goal.returns
returns c =
    let rows = c.args.rows.now in
    let i = c.loop-row.row-index in
    let past : length rows ≤ i = omega arith in
    let both = without (c.args.x ∷ c.args.y ∷ []) in
    c.loop-row.invariant ∙ ap (λ l. map both l ++ drop i rows) (take_all i rows past) ∙ ap (λ l. map both rows ++ l) (drop_all i rows past) ∙ append-nil (map both rows)
