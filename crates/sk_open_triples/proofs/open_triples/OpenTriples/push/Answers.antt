use Rattle.std.proofs.Common.{◌<◌, ◌++◌, ◌∷◌, [], ◌∙◌, inl, inr, List, length, ap, sym, subst, arith}
use Rattle.std.specs.List.{flat_map}
use Rattle.sk_base.proofs.Searches.{on_ok}
use Rattle.sk_family.specs.declared.Merge.{Merge}
use Rattle.sk_open_triples.specs.declared.row.OpenRow.{OpenRow}
use Rattle.sk_open_triples.specs.OpenRows.{AreRows, AreUnchanged, merges_at, triple_of}
use Rattle.sk_open_triples.proofs.Outcomes.{stays_or_grows}
use Rattle.sk_open_triples.proofs.Pushing.{key_within, put_last, put_rows, put_view, still_rows, still_told, written}
use Rattle.sk_open_triples.proofs.open_triples.OpenTriples.push.Goals as goal

pub invariant_of-self : goal.invariant_of-self
invariant_of-self c = c.last_row_of.ensures.alike.still c.self.inside.mentions c.self.invariant

pub invariant_of-self-in_err-mention_all : goal.invariant_of-self-in_err-mention_all
invariant_of-self-in_err-mention_all c =
    let rows = c.last_row_of.new.rows.items in
    let order = c.last_row_of.new.order.items in
    let are = c.last_row_of.ensures.alike.still c.self.inside.mentions c.self.invariant in
    still_told rows order c.self.inside.mentions c.mention_all.new.mentions c.in_ok-key.key are (key_within rows order c.self.inside.mentions are c.args.greatest c.in_ok-key.key c.in_ok-key.ensures.last) c.mention_all.ensures.gains

pub push_at-requires : goal.push_at-requires
push_at-requires c =
    let rows = c.last_row_of.new.rows.items in
    let order = c.last_row_of.new.order.items in
    let are = c.last_row_of.ensures.alike.still c.self.inside.mentions c.self.invariant in
    subst (λ (rs : List OpenRow). c.in_ok-key.key < length rs) (sym c.as_mut_slice.ensures.value) (key_within rows order c.self.inside.mentions are c.args.greatest c.in_ok-key.key c.in_ok-key.ensures.last)

pub invariant_of-self-2 : goal.invariant_of-self-2
invariant_of-self-2 c =
    let rows = c.last_row_of.new.rows.items in
    let order = c.last_row_of.new.order.items in
    let x = c.args.greatest in
    let key = c.in_ok-key.key in
    let last = c.in_ok-key.ensures.last in
    let mentions = c.mention_all.new.mentions in
    let new = c.push_at.new.rows in
    let were = c.last_row_of.ensures.alike.still c.self.inside.mentions c.self.invariant in
    let are = still_told rows order c.self.inside.mentions mentions key were (key_within rows order c.self.inside.mentions were x key last) c.mention_all.ensures.gains in
    subst (λ (rs : List OpenRow). AreRows rs order mentions) (sym (written c.last_row_of.new.rows.len new rows (omega (arith, c.push_at.auto.rows, c.as_mut_slice.ensures.len))))
    (elim (stays_or_grows c.push_at.result _ _ c.push_at.ensures.put c.push_at.ensures.err) [
      | inl put ↦ put_rows rows order mentions are x key last new (triple_of x c.args.pair) (put_last rows c.as_mut_slice.result.now c.as_mut_slice.ensures.value order x key last c.args.pair new put) c.in_ok-mention_all.ensures.named
      | inr same ↦ still_rows rows new order mentions are (subst (λ (rs : List OpenRow). AreUnchanged rs new) c.as_mut_slice.ensures.value same)
    ])

pub returns : goal.returns
returns c =
    let rows = c.last_row_of.new.rows.items in
    let order = c.last_row_of.new.order.items in
    let x = c.args.greatest in
    let key = c.in_ok-key.key in
    let last = c.in_ok-key.ensures.last in
    let new = c.push_at.new.rows in
    let were = c.last_row_of.ensures.alike.still c.self.inside.mentions c.self.invariant in
    let m = triple_of x c.args.pair in
    on_ok c.push_at.result c.push_at.ensures.put (λ put.
    ap (λ (rs : List OpenRow). flat_map (merges_at rs) order) (written c.last_row_of.new.rows.len new rows (omega (arith, c.push_at.auto.rows, c.as_mut_slice.ensures.len)))
    ∙ put_view rows order c.self.inside.mentions were x key last new m (put_last rows c.as_mut_slice.result.now c.as_mut_slice.ensures.value order x key last c.args.pair new put)
    ∙ ap (λ (ms : List Merge). ms ++ m ∷ []) (c.last_row_of.ensures.alike.same ∙ c.self.view_is))
