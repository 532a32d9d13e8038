use Rattle.std.proofs.Common.{◌∙◌, ◌∷◌, [], sym, ap, inl, refl}
use Rattle.std.specs.Prelude.{Some, slice_get}
use Rattle.sk_open_triples.proofs.Outcomes.{both_ok, if_ok}
use Rattle.sk_close_by_order.proofs.worklist.Worklist.choice.Goals as goal

pub returns-in-Some-clause-follows : goal.returns-in-Some-clause-follows
returns-in-Some-clause-follows g c graph follows = (c.in-Some.ensures.some graph follows).0

pub returns-in-Some-clause-answer : goal.returns-in-Some-clause-answer
returns-in-Some-clause-answer g c graph follows =
    let pair = c.in-Some.pair in (
      pair ∷ [],
      inl (pair, refl, (c.in-Some.ensures.some graph follows).1),
      ap (λ k. slice_get (pair ∷ []) k) c.pick_alone.ensures.answer ∙ ap Some (sym c.pick_alone.ensures.same),
      c.pick_alone.ensures.after,
    )

pub returns-in_ok-keep_all-in-None-clause-follows : goal.returns-in_ok-keep_all-in-None-clause-follows
returns-in_ok-keep_all-in-None-clause-follows g c =
    if_ok c.pick_kept.result (λ graph follows. (let first = c.in-None.ensures.none graph follows in (c.in_ok-keep_all-in-None.ensures graph first.0 first.1).0))

pub returns-in_ok-keep_all-in-None-clause-answer : goal.returns-in_ok-keep_all-in-None-clause-answer
returns-in_ok-keep_all-in-None-clause-answer g c =
    both_ok _ _ _ c.pick_kept.result c.pick_kept.ensures c.pick_kept.ensures (λ choice answers again graph follows.
    let first = c.in-None.ensures.none graph follows in
    answers graph c.args.family.now (c.in_ok-keep_all-in-None.ensures graph first.0 first.1).1)
