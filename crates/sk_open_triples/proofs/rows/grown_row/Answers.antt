use Rattle.std.proofs.Common.{◌≡◌, ◌∙◌, ◌++◌, List, ap, refl, subst}
use Rattle.std.specs.Prelude.{◌↔◌, Contains}
use Rattle.std.proofs.lemmas.Option.{get_or_from_slice_get}
use Rattle.sk_triangles.specs.Growing.{FromSome, GrowsBy}
use Rattle.sk_open_triples.specs.OpenRows.{HasLowerPair}
use Rattle.sk_open_triples.specs.declared.row.OpenRow.{OpenRow}
use Rattle.sk_open_triples.specs.declared.lower_pairs.LowerPair.{LowerPair}
use Rattle.sk_open_triples.proofs.Handing.{grown_same, triples_of, under_name}
use Rattle.sk_open_triples.proofs.rows.grown_row.Goals as goal

pub add_lower_pairs_of-requires : goal.add_lower_pairs_of-requires
add_lower_pairs_of-requires c = triples_of c.args.name c.args.found.now c.requires.right

pub returns : goal.returns
returns c was was_is = record {
  has_name = refl;
  in_order = under_name c.args.name c.in_ok-lower_pairs_in_order.field-0.items c.in_ok-lower_pairs_in_order.ensures.in_order;
  exactly = (
      let all_is : c.extend.new.self ≡ was.lower_pairs.items =
      c.in_ok-extend.ensures.ok ∙ ap (λ (l : List LowerPair). l ++ c.as_slice.result.now) c.new-all.ensures ∙ c.as_slice.ensures.value
      ∙ ap (λ (r : OpenRow). r.lower_pairs.items) (get_or_from_slice_get c.args.rows.now c.args.key was c.index-rows-key.result was_is) in
      grown_same c.args.name was.lower_pairs.items c.add_lower_pairs_of.new.all c.in_ok-lower_pairs_in_order.field-0.items c.args.found.now c.requires.right
      (subst (λ (l : List LowerPair). GrowsBy (FromSome HasLowerPair c.args.found.now) l c.add_lower_pairs_of.new.all) all_is c.in_ok-add_lower_pairs_of.ensures)
      (subst (λ (l : List LowerPair). (p : LowerPair) → Contains c.in_ok-lower_pairs_in_order.field-0.items p ↔ Contains l p) c.as_slice-2.ensures c.in_ok-lower_pairs_in_order.ensures.same));
}
