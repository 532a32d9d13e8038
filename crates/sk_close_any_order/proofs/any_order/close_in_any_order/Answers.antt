use Rattle.std.proofs.Common.{sym, subst, arith}
use Rattle.std.specs.Prelude.{Option}
use Rattle.sk_family.specs.Body.{initial_bodies}
use Rattle.sk_family.specs.Clusters.{Clusters, bodies, IsWithin}
use Rattle.sk_family.specs.declared.Merge.{Merge}
use Rattle.sk_family.specs.Merges.{greatest_of}
use Rattle.sk_rules.specs.Reach.{stays}
use Rattle.sk_rules.proofs.NormalForm.{normal_same}
use Rattle.sk_close_any_order.specs.Settling.{IsNext, IsNextMerge, IsSettledBelow}
use Rattle.sk_rules.proofs.Takable.{reach_on, two_live}
use Rattle.sk_close_any_order.proofs.Settled.{settled_at_first, within_at_first, settled_after, within_after, next_can, next_within, settled_to_next, closed_without_next}
use Rattle.sk_close_any_order.proofs.any_order.close_in_any_order.Goals as goal

pub returns-in_err-index-clause-reached : goal.returns-in_err-index-clause-reached
returns-in_err-index-clause-reached c = stays

pub loop-index-init : goal.loop-index-init
loop-index-init c = record {
  room = omega arith;
  no_more = omega arith;
  sound = λ h. h;
  reached = stays;
  represents = c.in_ok-index.ensures;
  within = within_at_first c.args.family.now;
  settled = settled_at_first c.args.graph.now c.args.family.now;
}

pub next_merge-requires-clause-rise : goal.next_merge-requires-clause-rise
next_merge-requires-clause-rise c x x_in = (c.not_below.ensures.sound.bodies_rise x ((c.not_below.ensures.live x).0 x_in).0).elements

pub returns-in_default-clause-closed : goal.returns-in_default-clause-closed
returns-in_default-clause-closed c =
    closed_without_next c.loop-index.index c.args.graph.now c.loop-index.family c.not_below.ensures.sound c.loop-index.invariant.represents c.loop-index.clear c.not_below.result.now c.not_below.ensures.live
    c.loop-index.invariant.settled
    (subst (λ (o : Option Merge). IsNext c.loop-index.index c.not_below.result.now o) c.in_default.is c.in_ok-next.ensures)

pub returns-in_default-clause-normal : goal.returns-in_default-clause-normal
returns-in_default-clause-normal c before = record {
  reached = reach_on c.args.graph.now (initial_bodies c.args.graph.now) (bodies c.args.family.now) (bodies c.loop-index.family) before c.loop-index.invariant.reached;
  closed = returns-in_default-clause-closed c;
}

pub returns-in_default-clause-only : goal.returns-in_default-clause-only
returns-in_default-clause-only c rises before other normal =
    normal_same c.args.graph.now other (bodies c.loop-index.family) rises normal (returns-in_default-clause-normal c before)

pub take_in-requires-clause-can : goal.take_in-requires-clause-can
take_in-requires-clause-can c =
    next_can c.loop-index.index c.args.graph.now c.loop-index.family c.not_below.ensures.sound c.loop-index.invariant.represents c.loop-index.clear c.not_below.result.now c.not_below.ensures.live
    c.in-Some.merge (subst (λ (o : Option Merge). IsNext c.loop-index.index c.not_below.result.now o) c.in-Some.is c.in_ok-next.ensures)

pub take_in-requires-clause-room : goal.take_in-requires-clause-room
take_in-requires-clause-room c =
    let two = two_live c.args.graph.now c.loop-index.family c.not_below.ensures.sound c.in-Some.merge (take_in-requires-clause-can c) in
    omega (arith, two, c.loop-index.invariant.room, c.requires)

pub loop-index-preserved : goal.loop-index-preserved
loop-index-preserved c =
    let was = c.loop-index.invariant in
    let g = c.args.graph.now in
    let f = c.loop-index.family in
    let ix = c.loop-index.index in
    let m = c.in-Some.merge in
    let sound = c.not_below.ensures.sound in
    let next : IsNextMerge ix c.not_below.result.now m = subst (λ (o : Option Merge). IsNext ix c.not_below.result.now o) c.in-Some.is c.in_ok-next.ensures in
    let (names, is) = c.in_ok-take_in.ensures.ok in
    let within : IsWithin f (greatest_of m) = next_within ix g f sound was.represents c.loop-index.clear c.not_below.result.now c.not_below.ensures.live m next in
    let settled : IsSettledBelow g f (greatest_of m) = settled_to_next ix g f sound was.represents c.loop-index.clear c.not_below.result.now c.not_below.ensures.live was.settled m next in
    record {
      room = (let room = c.take_in.ensures.room in omega (arith, room, was.room));
      no_more = (let no_more = c.take_in.ensures.no_more in omega (arith, no_more, was.no_more));
      sound = λ h. c.take_in.ensures.sound;
      reached = reach_on g (bodies c.args.family.now) (bodies f) (bodies c.take_in.new.family) was.reached c.take_in.ensures.reached;
      represents = c.in_ok-take_in.ensures.represents;
      within = subst (λ n. IsWithin c.take_in.new.family n) (sym c.greatest-clear.ensures)
          (subst (λ (h : Clusters). IsWithin h (greatest_of m)) (sym is) (within_after f names (greatest_of m) within));
      settled = subst (λ n. IsSettledBelow g c.take_in.new.family n) (sym c.greatest-clear.ensures)
          (subst (λ (h : Clusters). IsSettledBelow g h (greatest_of m)) (sym is) (settled_after g f sound names (greatest_of m) within settled));
    }

pub returns-in_err-take_in-clause-reached : goal.returns-in_err-take_in-clause-reached
returns-in_err-take_in-clause-reached c =
    reach_on c.args.graph.now (bodies c.args.family.now) (bodies c.loop-index.family) (bodies c.take_in.new.family) c.loop-index.invariant.reached c.take_in.ensures.reached
