use Rattle.std.proofs.Common.{◌≡◌, ◌<◌, ◌++◌, ◌∷◌, [], ◌∙◌, ℕ, List, ap, length, set, subst, sym, arith}
use Rattle.std.specs.Prelude.{Contains, slice_get}
use Rattle.std.specs.List.{flat_map}
use Rattle.std.specs.Vec.{vec_len}
use Rattle.sk_family.specs.declared.Merge.{Merge}
use Rattle.sk_triangles.specs.Growing.{FromSome, GrowsBy}
use Rattle.sk_triangles.proofs.Growing.{grows_same}
use Rattle.sk_open_triples.specs.declared.row.OpenRow.{OpenRow}
use Rattle.sk_open_triples.specs.HandedOn.{IsAdded, IsOfHeirIn}
use Rattle.sk_open_triples.specs.Inherited.{Inherits}
use Rattle.sk_open_triples.specs.OpenRows.{AreRows, AreTold, InheritsElse, IsGrownRow, but, keys_of, merges_at}
use Rattle.sk_open_triples.proofs.Handing.{handed_added, handed_rows, handed_view, inherited_else, row_within, still_right, triples_of}
use Rattle.sk_open_triples.proofs.Pushing.{still_told}
use Rattle.sk_open_triples.proofs.open_triples.OpenTriples.hand_on.Goals as goal

pub invariant_of-self : goal.invariant_of-self
invariant_of-self c = c.key_of_row.ensures.alike.still c.self.inside.mentions c.self.invariant

pub add_inherited_from-requires-clause-within : goal.add_inherited_from-requires-clause-within
add_inherited_from-requires-clause-within c k k_in =
    let were = c.key_of_row.ensures.alike.still c.self.inside.mentions c.self.invariant in
    subst (λ (rs : List OpenRow). k < length rs) (sym c.as_slice.ensures.value) (were.keys_within c.args.heir.core k (subst (λ (ks : List ℕ). Contains ks k) c.keys-keys.ensures k_in))

pub invariant_of-self-in_err-add_inherited_from : goal.invariant_of-self-in_err-add_inherited_from
invariant_of-self-in_err-add_inherited_from c = c.key_of_row.ensures.alike.still c.self.inside.mentions c.self.invariant

pub grown_row-requires-clause-within : goal.grown_row-requires-clause-within
grown_row-requires-clause-within c =
    subst (λ (rs : List OpenRow). c.in_ok-key.key < length rs) (sym c.as_slice-2.ensures.value) (row_within c.key_of_row.new.rows.items c.args.heir.core c.in_ok-key.key c.in_ok-key.ensures.row)

pub grown_row-requires-clause-right : goal.grown_row-requires-clause-right
grown_row-requires-clause-right c m m_in =
    still_right c.args.heir c.args.gone.now c.as_slice.result.now c.in_ok-key.key c.keys-keys.result.now c.args.found c.add_inherited_from.new.all c.requires.right c.in_ok-add_inherited_from.ensures m
    (subst (λ (ms : List Merge). Contains ms m) c.as_slice-3.ensures m_in)

pub invariant_of-self-in_err-row : goal.invariant_of-self-in_err-row
invariant_of-self-in_err-row c = c.key_of_row.ensures.alike.still c.self.inside.mentions c.self.invariant

pub mention_heir-requires : goal.mention_heir-requires
mention_heir-requires c m m_in =
    triples_of c.args.heir.name c.add_inherited_from.new.all
    (still_right c.args.heir c.args.gone.now c.as_slice.result.now c.in_ok-key.key c.keys-keys.result.now c.args.found c.add_inherited_from.new.all c.requires.right c.in_ok-add_inherited_from.ensures) m
    (subst (λ (ms : List Merge). Contains ms m) c.as_slice-4.ensures m_in)

pub invariant_of-self-in_err-mention_heir : goal.invariant_of-self-in_err-mention_heir
invariant_of-self-in_err-mention_heir c =
    let rows = c.key_of_row.new.rows.items in
    let order = c.key_of_row.new.order.items in
    let mentions = c.self.inside.mentions in
    let heir = c.args.heir in
    let gone = c.args.gone.now in
    let key = c.in_ok-key.key in
    let were = c.key_of_row.ensures.alike.still mentions c.self.invariant in
    let of_core = c.in_ok-key.ensures.row in
    still_told rows order mentions c.mention_heir.new.mentions key were (row_within rows heir.core key of_core) c.mention_heir.ensures.gains

pub invariant_of-self-in_err-self-inside : goal.invariant_of-self-in_err-self-inside
invariant_of-self-in_err-self-inside c =
    let rows = c.key_of_row.new.rows.items in
    let order = c.key_of_row.new.order.items in
    let mentions = c.self.inside.mentions in
    let heir = c.args.heir in
    let gone = c.args.gone.now in
    let key = c.in_ok-key.key in
    let were = c.key_of_row.ensures.alike.still mentions c.self.invariant in
    let of_core = c.in_ok-key.ensures.row in
    still_told rows order mentions c.mention_heir.new.mentions key were (row_within rows heir.core key of_core) c.mention_heir.ensures.gains

pub index_mut-requires : goal.index_mut-requires
index_mut-requires c =
    let key_in = row_within c.key_of_row.new.rows.items c.args.heir.core c.in_ok-key.key c.in_ok-key.ensures.row in
    let size : vec_len c.key_of_row.new.rows ≡ length c.key_of_row.new.rows.items = omega arith in
    omega (arith, key_in, size)

pub invariant_of-self-2 : goal.invariant_of-self-2
invariant_of-self-2 c =
    let rows = c.key_of_row.new.rows.items in
    let order = c.key_of_row.new.order.items in
    let mentions = c.self.inside.mentions in
    let heir = c.args.heir in
    let gone = c.args.gone.now in
    let key = c.in_ok-key.key in
    let were = c.key_of_row.ensures.alike.still mentions c.self.invariant in
    let of_core = c.in_ok-key.ensures.row in
    let all = c.add_inherited_from.new.all in
    let row = c.in_ok-row.row in
    let new_mentions = c.mention_heir.new.mentions in
    let key_in = row_within rows heir.core key of_core in
    let grown : IsGrownRow heir.name of_core.row.lower_pairs.items all row =
    subst (λ (ms : List Merge). IsGrownRow heir.name of_core.row.lower_pairs.items ms row) c.as_slice-3.ensures (c.in_ok-row.ensures of_core.row (ap (λ (rs : List OpenRow). slice_get rs key) c.as_slice-2.ensures.value ∙ of_core.there)) in
    let put_is : c.in_ok-self-inside.field-0.items ≡ but key order ++ key ∷ [] = c.in_ok-self-inside.ensures ∙ ap (λ (ks : List ℕ). but key ks ++ key ∷ []) c.as_slice-5.ensures.value in
    subst (λ (ks : List ℕ). AreRows (set rows key row) ks new_mentions) (sym put_is)
    (handed_rows rows order mentions were heir key key_in of_core c.args.found all row grown new_mentions c.mention_heir.ensures.gains c.in_ok-mention_heir.ensures.named
    (subst (λ (ms : List Merge). AreTold new_mentions key ms) c.as_slice-4.ensures c.in_ok-mention_heir.ensures.told))

pub returns : goal.returns
returns c =
    let rows = c.key_of_row.new.rows.items in
    let order = c.key_of_row.new.order.items in
    let mentions = c.self.inside.mentions in
    let heir = c.args.heir in
    let gone = c.args.gone.now in
    let key = c.in_ok-key.key in
    let were = c.key_of_row.ensures.alike.still mentions c.self.invariant in
    let of_core = c.in_ok-key.ensures.row in
    let all = c.add_inherited_from.new.all in
    let row = c.in_ok-row.row in
    let new_mentions = c.mention_heir.new.mentions in
    let key_in = row_within rows heir.core key of_core in
    let grown : IsGrownRow heir.name of_core.row.lower_pairs.items all row =
    subst (λ (ms : List Merge). IsGrownRow heir.name of_core.row.lower_pairs.items ms row) c.as_slice-3.ensures (c.in_ok-row.ensures of_core.row (ap (λ (rs : List OpenRow). slice_get rs key) c.as_slice-2.ensures.value ∙ of_core.there)) in
    let put_is : c.in_ok-self-inside.field-0.items ≡ but key order ++ key ∷ [] = c.in_ok-self-inside.ensures ∙ ap (λ (ks : List ℕ). but key ks ++ key ∷ []) c.as_slice-5.ensures.value in
    let rest = flat_map (merges_at rows) (but key order) in
    let grows : GrowsBy (FromSome (Inherits heir gone) rest) c.args.found all =
    grows_same (FromSome (InheritsElse rows key heir gone) (keys_of mentions heir.core)) (FromSome (Inherits heir gone) rest) c.args.found all (inherited_else rows order mentions were key heir gone)
    (subst (λ (rs : List OpenRow). GrowsBy (FromSome (InheritsElse rs key heir gone) (keys_of mentions heir.core)) c.args.found all) c.as_slice.ensures.value
    (subst (λ (ks : List ℕ). GrowsBy (FromSome (InheritsElse c.as_slice.result.now key heir gone) ks) c.args.found all) c.keys-keys.ensures c.in_ok-add_inherited_from.ensures)) in
    let old = flat_map (merges_at rows) order in
    subst (λ (ms : List Merge). IsAdded gone (IsOfHeirIn heir gone c.args.found ms) ms (flat_map (merges_at (set rows key row)) c.in_ok-self-inside.field-0.items)) (c.key_of_row.ensures.alike.same ∙ c.self.view_is)
    (subst (λ (ms : List Merge). IsAdded gone (IsOfHeirIn heir gone c.args.found old) old ms)
    (sym (ap (λ (ks : List ℕ). flat_map (merges_at (set rows key row)) ks) put_is ∙ handed_view rows order mentions were heir key key_in of_core c.args.found all row grown))
    (handed_added rows order mentions were heir key key_in of_core c.args.found all row grown gone c.requires.core grows))
