use Rattle.std.proofs.Common.{◌<◌, ◌∙◌, ℕ, List, length, ap, sym, subst, arith}
use Rattle.std.specs.Prelude.{◌↔◌, Contains}
use Rattle.std.specs.List.{flat_map}
use Rattle.sk_family.specs.declared.Merge.{Merge}
use Rattle.sk_open_triples.specs.declared.row.OpenRow.{OpenRow}
use Rattle.sk_triangles.specs.Growing.{FromSome}
use Rattle.sk_open_triples.specs.Avoiding.{avoiding}
use Rattle.sk_open_triples.specs.OpenRows.{AreDropped, AreRows, Mention, merges_at}
use Rattle.sk_open_triples.proofs.Dropping.{all_avoid, keys_of_rows, rows_left}
use Rattle.sk_open_triples.proofs.Pushing.{written}
use Rattle.sk_open_triples.proofs.open_triples.OpenTriples.drop_naming.Goals as goal

pub drop_at_all-requires-clause-within : goal.drop_at_all-requires-clause-within
drop_at_all-requires-clause-within c k k_in =
    subst (λ (rs : List OpenRow). k < length rs) (sym c.as_mut_slice.ensures.value)
    (keys_of_rows c.args.names.now c.self.inside.rows.items c.self.inside.order.items c.self.inside.mentions c.self.invariant c.as_slice.result.now
    (subst (λ (ks : List ℕ). (j : ℕ) → Contains ks j ↔ FromSome (Mention c.self.inside.mentions) c.args.names.now j) (sym c.as_slice.ensures.value) c.in_ok-keys.ensures) k k_in)

pub invariant_of-self : goal.invariant_of-self
invariant_of-self c =
    let rows = c.self.inside.rows.items in
    let order = c.self.inside.order.items in
    let mentions = c.self.inside.mentions in
    let gone = c.args.names.now in
    let new = c.drop_at_all.new.rows in
    let keys = c.as_slice.result.now in
    let keys_are = subst (λ (ks : List ℕ). (j : ℕ) → Contains ks j ↔ FromSome (Mention mentions) gone j) (sym c.as_slice.ensures.value) c.in_ok-keys.ensures in
    let dropped = subst (λ (rs : List OpenRow). AreDropped gone keys rs new) c.as_mut_slice.ensures.value c.drop_at_all.ensures in
    subst (λ (rs : List OpenRow). AreRows rs order mentions) (sym (written c.self.inside.rows.len new rows (omega (arith, c.drop_at_all.auto.rows, c.as_mut_slice.ensures.len))))
    (rows_left gone rows new order mentions c.self.invariant keys keys_are dropped)

pub returns : goal.returns
returns c =
    let rows = c.self.inside.rows.items in
    let order = c.self.inside.order.items in
    let mentions = c.self.inside.mentions in
    let gone = c.args.names.now in
    let new = c.drop_at_all.new.rows in
    let keys = c.as_slice.result.now in
    let keys_are = subst (λ (ks : List ℕ). (j : ℕ) → Contains ks j ↔ FromSome (Mention mentions) gone j) (sym c.as_slice.ensures.value) c.in_ok-keys.ensures in
    let dropped = subst (λ (rs : List OpenRow). AreDropped gone keys rs new) c.as_mut_slice.ensures.value c.drop_at_all.ensures in
    ap (λ (rs : List OpenRow). flat_map (merges_at rs) order) (written c.self.inside.rows.len new rows (omega (arith, c.drop_at_all.auto.rows, c.as_mut_slice.ensures.len)))
    ∙ all_avoid gone rows new order mentions c.self.invariant keys keys_are dropped ∙ ap (λ (ms : List Merge). avoiding gone ms) c.self.view_is
