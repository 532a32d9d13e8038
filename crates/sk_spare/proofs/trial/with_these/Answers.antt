use Rattle.std.proofs.Common.{length, ap, sym, subst, arith}
use Rattle.sk_family.specs.Clusters.{Clusters, bodies, IsSound}
use Rattle.sk_spare.specs.Halving.{IsMadeOf, too}
use Rattle.sk_spare.proofs.PutBack.{made_on}
use Rattle.sk_spare.proofs.trial.with_these.Goals as goal

pub adopt_all-requires-clause-further : goal.adopt_all-requires-clause-further
adopt_all-requires-clause-further c =
    let (p, can) = c.requires.further in
    (p, (can.0, subst (λ (f : Clusters). IsMadeOf c.args.graph.now p (bodies f)) (sym c.in_ok-more.ensures.same) can.1))

pub adopt_all-requires-clause-room : goal.adopt_all-requires-clause-room
adopt_all-requires-clause-room c =
    let many = ap (λ (f : Clusters). length f.live) c.in_ok-more.ensures.same in
    omega (arith, many, c.requires.room)

pub adopt_all-requires-clause-named : goal.adopt_all-requires-clause-named
adopt_all-requires-clause-named c = subst (λ (f : Clusters). IsSound f) (sym c.in_ok-more.ensures.same) c.in_ok-more.ensures.sound

pub close_in_any_order-requires : goal.close_in_any_order-requires
close_in_any_order-requires c =
    let many = ap (λ (f : Clusters). length f.live) c.in_ok-more.ensures.same in
    let next = ap (λ (f : Clusters). f.next_step) c.in_ok-more.ensures.same in
    let count = c.in_ok-adopt_all.ensures.count in
    let stays = c.in_ok-adopt_all.ensures.next_step in
    omega (arith, many, next, count, stays, c.requires.room)

pub returns-clause-made : goal.returns-clause-made
returns-clause-made c p further made =
    made_on c.args.graph.now (too p c.args.numbers.now) (bodies c.adopt_all.new.family) (bodies c.close_in_any_order.new.family)
    (c.in_ok-adopt_all.ensures.made p further (subst (λ (f : Clusters). IsMadeOf c.args.graph.now p (bodies f)) (sym c.in_ok-more.ensures.same) made))
    c.close_in_any_order.ensures.reached

pub returns-clause-room : goal.returns-clause-room
returns-clause-room c =
    let many = ap (λ (f : Clusters). length f.live) c.in_ok-more.ensures.same in
    let next = ap (λ (f : Clusters). f.next_step) c.in_ok-more.ensures.same in
    let count = c.in_ok-adopt_all.ensures.count in
    let stays = c.in_ok-adopt_all.ensures.next_step in
    let room = c.close_in_any_order.ensures.room in
    omega (arith, many, next, count, stays, room)
