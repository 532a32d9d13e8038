use Rattle.std.proofs.Common.{◌≢◌, ◌∙◌, ap, ◌==◌, ℕ, List, length, ◌<◌, ◌≤◌, arith, subst, sym}
use Rattle.std.specs.Prelude.{AllPairs, filter, not}
use Rattle.sk_base.specs.declared.Elem.{Elem}
use Rattle.sk_base.specs.Numbering.{elem_exact}
use Rattle.sk_neighbours.specs.Indexed.{RisesIn}
use Rattle.sk_neighbours.proofs.Holding.{key_dropped, order_dropped, nothing_there, grown_from}
use Rattle.sk_neighbours.proofs.index.Index.drop_holder.Goals as goal

pub drop_key-requires : goal.drop_key-requires
drop_key-requires c =
    let within : c.args.elem.0 < length c.args.self.now.holders.items = omega (arith, c.if-at-len.true, c.len.ensures) in
    let same = grown_from c.args.self.now.holders.items c.args.elem.0 c.index_mut.result.now within c.index_mut.ensures.value in
    subst (λ (l : List ℕ). AllPairs (λ (j k : ℕ). j ≢ k) l) (sym same) c.requires

pub returns-then-at-len-clause-holders : goal.returns-then-at-len-clause-holders
returns-then-at-len-clause-holders c e k =
    let within : c.args.elem.0 < length c.args.self.now.holders.items = omega (arith, c.if-at-len.true, c.len.ensures) in
    let dropped = key_dropped c.args.self.now.holders.items c.args.elem.0 within c.args.key c.drop_key.new.keys
    (c.drop_key.ensures ∙ ap (λ (l : List ℕ). filter (λ (j : ℕ). not (j == c.args.key)) l) (grown_from c.args.self.now.holders.items c.args.elem.0 c.index_mut.result.now within c.index_mut.ensures.value)) e.0 k in (
      (λ h. ((dropped.0 h).0, (λ (same, is). (dropped.0 h).1 (ap (λ (x : Elem). x.0) same, is)))),
      (λ (was, apart). dropped.1 (was, (λ (same, is). apart (elem_exact e c.args.elem same, is)))),
    )

pub returns-else-at-len-clause-holders : goal.returns-else-at-len-clause-holders
returns-else-at-len-clause-holders c e k =
    let past : length c.args.self.now.holders.items ≤ c.args.elem.0 = omega (arith, c.if-at-len.false, c.len.ensures) in (
      (λ h. (h, (λ (same, _). nothing_there c.args.self.now.holders.items e.0 k (omega (arith, past, ap (λ (x : Elem). x.0) same)) h))),
      (λ (was, _). was),
    )

pub returns-then-at-len-clause-order : goal.returns-then-at-len-clause-order
returns-then-at-len-clause-order c e pairs =
    let within : c.args.elem.0 < length c.args.self.now.holders.items = omega (arith, c.if-at-len.true, c.len.ensures) in
    order_dropped c.args.self.now.holders.items c.args.elem.0 within c.args.key c.drop_key.new.keys
    (c.drop_key.ensures ∙ ap (λ (l : List ℕ). filter (λ (j : ℕ). not (j == c.args.key)) l) (grown_from c.args.self.now.holders.items c.args.elem.0 c.index_mut.result.now within c.index_mut.ensures.value))
    (RisesIn c.args.self.now.live) e.0 pairs

pub returns-then-at-len-clause-once : goal.returns-then-at-len-clause-once
returns-then-at-len-clause-once c e pairs =
    let within : c.args.elem.0 < length c.args.self.now.holders.items = omega (arith, c.if-at-len.true, c.len.ensures) in
    order_dropped c.args.self.now.holders.items c.args.elem.0 within c.args.key c.drop_key.new.keys
    (c.drop_key.ensures ∙ ap (λ (l : List ℕ). filter (λ (j : ℕ). not (j == c.args.key)) l) (grown_from c.args.self.now.holders.items c.args.elem.0 c.index_mut.result.now within c.index_mut.ensures.value))
    (λ (j k : ℕ). j ≢ k) e.0 pairs
