use Rattle.std.proofs.Common.{sym, subst, ◌≡◌, List, ◌⊎◌}
use Rattle.std.specs.Prelude.{Contains, ◌↔◌, take, drop}
use Rattle.sk_base.proofs.Searches.{on_ok}
use Rattle.sk_base.specs.declared.Elem.{Elem}
use Rattle.sk_base.proofs.Splits.{in_inserted}
use Rattle.sk_verdict.specs.declared.part.Part.{Part}
use Rattle.sk_verdict.specs.Ordering.{AreInOrder}
use Rattle.sk_base.specs.ElementOrder.{ElementsBefore}
use Rattle.sk_verdict.proofs.Placing.{placed}
use Rattle.sk_verdict.proofs.store.put.Goals as goal

pub returns-clause-in_order : goal.returns-clause-in_order
returns-clause-in_order c =
    let place = c.count_before-place.result in
    let before : (p : Part) → Contains (take place c.args.parts.now) p → ElementsBefore p.elements c.args.part.elements =
    λ p h. subst (λ (es : List Elem). ElementsBefore p.elements es) c.as_slice-2.ensures
    (c.count_before-place.ensures.before p (subst (λ (ps : List Part). Contains (take place ps) p) (sym c.as_slice.ensures) h)) in
    let after : (p : Part) → Contains (drop place c.args.parts.now) p → ¬ ElementsBefore p.elements c.args.part.elements =
    λ p h b. c.count_before-place.ensures.after p (subst (λ (ps : List Part). Contains (drop place ps) p) (sym c.as_slice.ensures) h)
    (subst (λ (es : List Elem). ElementsBefore p.elements es) (sym c.as_slice-2.ensures) b) in
    on_ok c.insert.result c.insert.ensures.ok (λ is.
    subst (λ (ps : List Part). AreInOrder ps) (sym is) (placed c.args.parts.now c.args.part place c.requires.in_order c.requires.new before after))

pub returns-clause-has : goal.returns-clause-has
returns-clause-has c =
    on_ok c.insert.result c.insert.ensures.ok (λ is.
    subst (λ (ps : List Part). (p : Part) → Contains ps p ↔ ((c.args.part ≡ p) ⊎ Contains c.args.parts.now p)) (sym is)
    (in_inserted c.args.parts.now c.count_before-place.result c.args.part))
