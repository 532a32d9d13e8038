use Rattle.std.proofs.Common.{List, [], ◌∷◌, ap, sym, subst, ◌∙◌, arith}
use Rattle.std.specs.Prelude.{All, AllPairs, map, not}
use Rattle.std.specs.List.{flat_map}
use Rattle.std.proofs.lemmas.List.Elements.{All-filter}
use Rattle.sk_base.specs.ClusterNames.{IsBelow, is_named}
use Rattle.sk_family.specs.declared.Merge.{Merge}
use Rattle.sk_open_triples.specs.MergeOrder.{ComesFirst}
use Rattle.sk_open_triples.specs.Avoiding.{avoiding}
use Rattle.sk_close_by_angles.specs.declared.pairs.Partners.{Partners}
use Rattle.sk_close_by_angles.specs.MergeRows.{merges_of, without}
use Rattle.sk_close_by_angles.proofs.Classing.{all_written}
use Rattle.sk_close_by_angles.proofs.Pairing.{rows_avoid, rows_rise}
use Rattle.sk_close_by_angles.proofs.pairs.Pairs.drop_naming.Goals as goal

pub drop_from_all-requires : goal.drop_from_all-requires
drop_from_all-requires c =
    let rows = c.self.inside.rows.items in
    let rise = rows_rise rows (subst (λ (ms : List Merge). AllPairs ComesFirst ms) (sym c.self.view_is) c.requires) in
    subst (λ (ps : List Partners). All (λ (p : Partners). AllPairs IsBelow p.lessers) ps) (sym (c.as_mut_slice.ensures.value ∙ c.drop_rows_of.ensures))
    (All-filter (λ (p : Partners). not (is_named (c.args.x ∷ c.args.y ∷ []) p.greater)) (λ (p : Partners). AllPairs IsBelow p.lessers) rows rise)

pub returns : goal.returns
returns c =
    let both = c.args.x ∷ c.args.y ∷ [] in
    let kept = c.drop_rows_of.new.rows in
    let new = c.drop_from_all.new.rows in
    let written = all_written kept.len new kept.items (omega (arith, c.drop_from_all.auto.rows, c.as_mut_slice.ensures.len)) in
    ap (λ (ps : List Partners). flat_map merges_of ps) (written ∙ c.drop_from_all.ensures ∙ ap (λ (ps : List Partners). map (without both) ps) (c.as_mut_slice.ensures.value ∙ c.drop_rows_of.ensures))
    ∙ rows_avoid both c.self.inside.rows.items ∙ ap (λ (ms : List Merge). avoiding both ms) c.self.view_is
