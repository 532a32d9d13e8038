use Rattle.std.proofs.Common.{List, subst, ◌∙◌, arith}
use Rattle.std.proofs.lemmas.List.{take_all}
use Rattle.sk_base.specs.declared.ConId.{ConId}
use Rattle.std.proofs.lemmas.List.Elements.{Contains-get_or}
use Rattle.sk_family.specs.Clusters.{bodies}
use Rattle.sk_spare.specs.Halving.{IsMadeOf, too}
use Rattle.sk_spare.proofs.PutBack.{next_free, made_with_next}
use Rattle.sk_spare.proofs.trial.adopt_all.Goals as goal

pub adopt_start-requires-clause-there : goal.adopt_start-requires-clause-there
adopt_start-requires-clause-there c =
    let (p, can) = c.requires.further in
    can.0.there _ (Contains-get_or c.args.numbers.now c.loop-number.number-index _ c.loop-number-test.true)

pub adopt_start-requires-clause-free : goal.adopt_start-requires-clause-free
adopt_start-requires-clause-free c =
    let (p, can) = c.requires.further in
    next_free c.args.graph.now c.requires.sound p c.args.numbers.now can.0 c.loop-number.number-index _ c.loop-number-test.true
    c.loop-number.family c.loop-number.invariant.sound (c.loop-number.invariant.made p can.0 can.1)

pub adopt_start-requires-clause-room : goal.adopt_start-requires-clause-room
adopt_start-requires-clause-room c = omega (arith, c.loop-number-test.true, c.loop-number.invariant.count, c.requires.room)

pub loop-number-preserved : goal.loop-number-preserved
loop-number-preserved c =
    let was = c.loop-number.invariant in
    let ok = c.in_ok-adopt_start.ensures.ok in
    record {
      made = λ p further made.
          made_with_next c.args.graph.now c.requires.sound p c.args.numbers.now further c.loop-number.number-index _ c.loop-number-test.true
          c.loop-number.family was.sound (was.made p further made) c.adopt_start.new.family c.adopt_start.ensures.sound ok;
      count = (let count = c.in_ok-adopt_start.ensures.count in omega (arith, count, was.count));
      next_step = ok.next_step ∙ was.next_step;
      sound = c.adopt_start.ensures.sound;
    }

pub returns-clause-made : goal.returns-clause-made
returns-clause-made c p further made =
    subst (λ (ks : List ConId). IsMadeOf c.args.graph.now (too p ks) (bodies c.loop-number.family)) (take_all c.loop-number.number-index c.args.numbers.now (omega (arith, c.loop-number-test.false)))
    (c.loop-number.invariant.made p further made)
