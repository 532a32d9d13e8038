use Rattle.std.proofs.Common.{◌≡◌, List, [], ◌∷◌, ◌++◌, ap, sym, subst, ◌∙◌, arith, refl}
use Rattle.std.specs.Prelude.{map, Option, None}
use Rattle.sk_rules.proofs.Keeping.{reach_then}
use Rattle.sk_family.specs.Body.{initial_bodies}
use Rattle.sk_family.specs.Clusters.{Clusters, bodies}
use Rattle.sk_family.specs.declared.Merge.{Merge}
use Rattle.sk_rules.specs.declared.Taken.{Taken}
use Rattle.sk_rules.specs.Merges.{merged}
use Rattle.sk_rules.specs.Reach.{stays}
use Rattle.sk_rules.specs.Taking.{Leads}
use Rattle.sk_close_by_order.specs.Run.{PicksLead, merge_of}
use Rattle.sk_close_by_order.specs.Turns.{Answers}
use Rattle.sk_rules.proofs.Takable.{have_elements, reach_on, two_live}
use Rattle.sk_open_triples.proofs.Outcomes.{on_err}
use Rattle.sk_close_by_order.proofs.Runs.{none_closes, answer_can, picks_turn, picks_taken, leads_more}
use Rattle.sk_rules.proofs.NormalForm.{normal_same}
use Rattle.sk_close_by_order.proofs.close.close_with.Goals as goal

pub loop-taken-init : goal.loop-taken-init
loop-taken-init g c = record {
  room = c.requires.room;
  no_more = omega arith;
  reached = stays;
  leads = subst (λ (ts : List Taken). Leads c.args.graph.now c.args.family.now ts c.args.family.now) (sym c.new-taken.ensures) refl;
  follows = c.requires.follows;
  picks = subst (λ (ts : List Taken). PicksLead g.P.Picker.answer g.P.Picker.after c.args.graph.now c.args.family.now c.args.picker.now (map merge_of ts) c.args.family.now c.args.picker.now)
      (sym c.new-taken.ensures) (refl, refl);
}

-- where there is no choice
pub returns-in_default-clause-run : goal.returns-in_default-clause-run
returns-in_default-clause-run g c =
    let none : c.in_ok-choice.choice ≡ None = c.in_default.is in
    let answer = subst (λ (o : Option Merge). Answers g.P.Picker.answer g.P.Picker.after c.args.graph.now c.loop-taken.family c.loop-taken.picker o c.choice.new.picker) none
    (c.in_ok-choice.ensures.answer c.args.graph.now c.loop-taken.invariant.follows) in
    record {
      leads = subst (λ (q : g.row.P.Denot). PicksLead g.P.Picker.answer g.P.Picker.after c.args.graph.now c.args.family.now c.args.picker.now (map merge_of c.loop-taken.taken) c.loop-taken.family q)
          (sym answer.1) c.loop-taken.invariant.picks;
      ends = answer.0;
    }

pub returns-in_default-clause-closed : goal.returns-in_default-clause-closed
returns-in_default-clause-closed g c = none_closes c.args.graph.now c.loop-taken.family c.in_ok-choice.ensures.sound (returns-in_default-clause-run g c).ends

pub returns-in_default-clause-normal : goal.returns-in_default-clause-normal
returns-in_default-clause-normal g c before = record {
  reached = reach_on c.args.graph.now (initial_bodies c.args.graph.now) (bodies c.args.family.now) (bodies c.loop-taken.family) before c.loop-taken.invariant.reached;
  closed = returns-in_default-clause-closed g c;
}

pub returns-in_default-clause-only : goal.returns-in_default-clause-only
returns-in_default-clause-only g c rises before other normal =
    normal_same c.args.graph.now other (bodies c.loop-taken.family) rises normal (returns-in_default-clause-normal g c before)

pub returns-in_default-clause-follows : goal.returns-in_default-clause-follows
returns-in_default-clause-follows g c = c.in_ok-choice.ensures.follows c.args.graph.now c.loop-taken.invariant.follows

-- where there is one, it may be taken
pub take-requires-clause-can : goal.take-requires-clause-can
take-requires-clause-can g c =
    answer_can g.P.Picker.answer g.P.Picker.after c.args.graph.now c.loop-taken.family c.loop-taken.picker c.in-Some.merge c.choice.new.picker
    (subst (λ (o : Option Merge). Answers g.P.Picker.answer g.P.Picker.after c.args.graph.now c.loop-taken.family c.loop-taken.picker o c.choice.new.picker) c.in-Some.is
    (c.in_ok-choice.ensures.answer c.args.graph.now c.loop-taken.invariant.follows))

pub leave-requires-clause-follows : goal.leave-requires-clause-follows
leave-requires-clause-follows g c = (c.args.graph.now, c.in_ok-choice.ensures.follows c.args.graph.now c.loop-taken.invariant.follows)

pub leave-requires-clause-some : goal.leave-requires-clause-some
leave-requires-clause-some g c =
    have_elements c.args.graph.now c.loop-taken.family c.in_ok-choice.ensures.sound c.in-Some.merge
    (answer_can g.P.Picker.answer g.P.Picker.after c.args.graph.now c.loop-taken.family c.loop-taken.picker c.in-Some.merge c.choice.new.picker
    (subst (λ (o : Option Merge). Answers g.P.Picker.answer g.P.Picker.after c.args.graph.now c.loop-taken.family c.loop-taken.picker o c.choice.new.picker) c.in-Some.is
    (c.in_ok-choice.ensures.answer c.args.graph.now c.loop-taken.invariant.follows)))

pub take-requires-clause-room : goal.take-requires-clause-room
take-requires-clause-room g c =
    let two = two_live c.args.graph.now c.loop-taken.family c.in_ok-choice.ensures.sound c.in-Some.merge (take-requires-clause-can g c) in
    omega (arith, two, c.loop-taken.invariant.room)

pub enter-requires : goal.enter-requires
enter-requires g c = (
  c.args.graph.now,
  c.loop-taken.family,
  (
    c.in_ok-choice.ensures.sound,
    c.leave.ensures c.args.graph.now (c.in_ok-choice.ensures.follows c.args.graph.now c.loop-taken.invariant.follows),
    c.in_ok-done.ensures.ok,
  ),
)

pub returns-in_err-enter-clause-err : goal.returns-in_err-enter-clause-err
returns-in_err-enter-clause-err g c =
    on_err c.from_residual-in_err-enter.result (
      map merge_of c.loop-taken.taken ++ c.in-Some.merge ∷ [],
      c.choice.new.picker,
      picks_turn g.P.Picker.answer g.P.Picker.after c.args.graph.now c.args.family.now c.args.picker.now c.loop-taken.taken c.loop-taken.family c.loop-taken.picker c.loop-taken.invariant.picks
          c.in-Some.merge c.choice.new.picker
          (subst (λ (o : Option Merge). Answers g.P.Picker.answer g.P.Picker.after c.args.graph.now c.loop-taken.family c.loop-taken.picker o c.choice.new.picker) c.in-Some.is
          (c.in_ok-choice.ensures.answer c.args.graph.now c.loop-taken.invariant.follows))
          c.take.new.family c.in_ok-done.ensures.ok,
    )

pub returns-in_err-enter-clause-reached : goal.returns-in_err-enter-clause-reached
returns-in_err-enter-clause-reached g c =
    reach_then c.args.graph.now (bodies c.args.family.now) (bodies c.loop-taken.family) (bodies c.take.new.family) c.loop-taken.invariant.reached c.in_ok-done.ensures.step

pub returns-in_err-push-clause-err : goal.returns-in_err-push-clause-err
returns-in_err-push-clause-err g c =
    on_err c.from_residual-in_err-push.result (
      map merge_of c.loop-taken.taken ++ c.in-Some.merge ∷ [],
      c.choice.new.picker,
      picks_turn g.P.Picker.answer g.P.Picker.after c.args.graph.now c.args.family.now c.args.picker.now c.loop-taken.taken c.loop-taken.family c.loop-taken.picker c.loop-taken.invariant.picks
          c.in-Some.merge c.choice.new.picker
          (subst (λ (o : Option Merge). Answers g.P.Picker.answer g.P.Picker.after c.args.graph.now c.loop-taken.family c.loop-taken.picker o c.choice.new.picker) c.in-Some.is
          (c.in_ok-choice.ensures.answer c.args.graph.now c.loop-taken.invariant.follows))
          c.take.new.family c.in_ok-done.ensures.ok,
    )

pub returns-in_err-push-clause-reached : goal.returns-in_err-push-clause-reached
returns-in_err-push-clause-reached g c =
    reach_then c.args.graph.now (bodies c.args.family.now) (bodies c.loop-taken.family) (bodies c.take.new.family) c.loop-taken.invariant.reached c.in_ok-done.ensures.step

pub loop-taken-preserved : goal.loop-taken-preserved
loop-taken-preserved g c =
    let graph = c.args.graph.now in
    let family = c.loop-taken.family in
    let new = c.take.new.family in
    let done = c.in_ok-done.done in
    let ok = c.in_ok-done.ensures.ok in
    let same = c.in_ok-done.ensures.merge in
    record {
      room = (let next = ap (λ (f : Clusters). f.next_step) ok in let fewer = c.in_ok-done.ensures.fewer in omega (arith, next, fewer, c.loop-taken.invariant.room));
      no_more = (let fewer = c.in_ok-done.ensures.fewer in omega (arith, fewer, c.loop-taken.invariant.no_more));
      reached = reach_then graph (bodies c.args.family.now) (bodies family) (bodies new) c.loop-taken.invariant.reached c.in_ok-done.ensures.step;
      leads = subst (λ (ts : List Taken). Leads graph c.args.family.now ts new) (sym c.in_ok-push.ensures.ok)
          (subst (λ (e : Clusters). Leads graph c.args.family.now (c.loop-taken.taken ++ done ∷ []) e)
          (sym (ok ∙ ap (λ (m : Merge). merged family m) (sym same)))
          (leads_more graph c.args.family.now family c.loop-taken.taken done c.loop-taken.invariant.leads c.in_ok-done.ensures.taken));
      follows = c.in_ok-enter.ensures graph family c.in_ok-choice.ensures.sound
          (c.leave.ensures graph (c.in_ok-choice.ensures.follows graph c.loop-taken.invariant.follows)) ok;
      picks = subst (λ (ts : List Taken). PicksLead g.P.Picker.answer g.P.Picker.after graph c.args.family.now c.args.picker.now (map merge_of ts) new c.choice.new.picker)
          (sym c.in_ok-push.ensures.ok)
          (picks_taken g.P.Picker.answer g.P.Picker.after graph c.args.family.now c.args.picker.now c.loop-taken.taken done c.in-Some.merge same new c.choice.new.picker
          (picks_turn g.P.Picker.answer g.P.Picker.after graph c.args.family.now c.args.picker.now c.loop-taken.taken family c.loop-taken.picker c.loop-taken.invariant.picks
          c.in-Some.merge c.choice.new.picker
          (subst (λ (o : Option Merge). Answers g.P.Picker.answer g.P.Picker.after graph family c.loop-taken.picker o c.choice.new.picker) c.in-Some.is
          (c.in_ok-choice.ensures.answer graph c.loop-taken.invariant.follows))
          new ok));
    }
