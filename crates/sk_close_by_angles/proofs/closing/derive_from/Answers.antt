use Rattle.std.proofs.Common.{List, inr, sym, subst, ◌∙◌, ap, arith, length}
use Rattle.std.specs.Prelude.{Option, map}
use Rattle.sk_family.specs.Body.{initial_bodies}
use Rattle.sk_family.specs.Clusters.{Clusters, bodies}
use Rattle.sk_family.specs.declared.Merge.{Merge}
use Rattle.sk_rules.specs.declared.Taken.{Taken}
use Rattle.sk_rules.specs.Reach.{goes}
use Rattle.sk_close_by_order.specs.Run.{PicksLead, merge_of}
use Rattle.sk_close_by_angles.specs.Ties.{wide_rule}
use Rattle.sk_close_by_angles.specs.WideReach.{WideStep}
use Rattle.sk_close_by_angles.specs.WideChoices.{AreTieMerges}
use Rattle.sk_close_by_angles.specs.WideRun.{WidePicksLead}
use Rattle.sk_close_by_angles.specs.FollowedTies.{Takes}
use Rattle.sk_close_by_angles.proofs.WideForm.{reach_widens, wide_same}
use Rattle.sk_close_by_angles.proofs.WideRuns.{reach_by_on, picks_widen, picks_by_tie, tie_steps, tie_elements, tie_lessens, two_live, wide_closed, picked_can, empty_list}
use Rattle.sk_close_by_angles.proofs.Counting.{few_ties}
use Rattle.sk_close_by_angles.proofs.closing.derive_from.Goals as goal

pub loop-merge-init : goal.loop-merge-init
loop-merge-init g c =
    let graph = c.args.graph.now in
    let start = c.args.family in
    let family = c.close_with.new.family in
    let closing = c.in_ok-_taken.ensures in
    let taken = map merge_of c.in_ok-_taken._taken in
    record {
      room = closing.room;
      reached = reach_by_on (wide_rule graph) (initial_bodies graph) (bodies start) (bodies family) (reach_widens graph (initial_bodies graph) (bodies start) c.requires.reached) (reach_widens graph (bodies start) (bodies family) c.close_with.ensures.reached);
      follows = closing.follows;
      picks = (taken, picks_widen g.P.Picker.answer g.P.Picker.after graph start c.args.picker.now taken family c.close_with.new.picker closing.run.leads);
      none = closing.run.ends;
      closed = closing.closed;
      sound = c.in_ok-ties.ensures.sound;
      ties = c.in_ok-ties.ensures.ties;
    }

pub picked-requires : goal.picked-requires
picked-requires g c = few_ties c.args.graph.now c.loop-merge.family c.loop-merge.invariant.sound c.loop-merge.ties.merges c.loop-merge.invariant.ties.all

pub leave-requires-clause-follows : goal.leave-requires-clause-follows
leave-requires-clause-follows g c = (c.args.graph.now, c.loop-merge.invariant.follows)

pub take_by_tie-requires-clause-can : goal.take_by_tie-requires-clause-can
take_by_tie-requires-clause-can g c =
    let merges = c.loop-merge.ties.merges in (
      c.args.graph.now,
      picked_can c.args.graph.now c.loop-merge.family merges c.loop-merge.invariant.ties.all (g.P.Picker.answer c.loop-merge.picker (length merges)) c.in-Some.merge c.in-Some.ensures.0,
    )

pub leave-requires-clause-some : goal.leave-requires-clause-some
leave-requires-clause-some g c =
    let merges = c.loop-merge.ties.merges in
    tie_elements c.args.graph.now c.loop-merge.family c.loop-merge.invariant.sound c.in-Some.merge
    (picked_can c.args.graph.now c.loop-merge.family merges c.loop-merge.invariant.ties.all (g.P.Picker.answer c.loop-merge.picker (length merges)) c.in-Some.merge c.in-Some.ensures.0)

pub take_by_tie-requires-clause-room : goal.take_by_tie-requires-clause-room
take_by_tie-requires-clause-room g c =
    let merges = c.loop-merge.ties.merges in
    let can = picked_can c.args.graph.now c.loop-merge.family merges c.loop-merge.invariant.ties.all (g.P.Picker.answer c.loop-merge.picker (length merges)) c.in-Some.merge c.in-Some.ensures.0 in
    let two = two_live c.args.graph.now c.loop-merge.family c.loop-merge.invariant.sound c.in-Some.merge can in
    let room = c.loop-merge.invariant.room in
    omega (arith, two, room)

pub enter-requires : goal.enter-requires
enter-requires g c = (
  c.args.graph.now,
  c.loop-merge.family,
  (c.loop-merge.invariant.sound, c.leave.ensures c.args.graph.now c.loop-merge.invariant.follows, c.in_ok-_name.ensures.ok),
)

pub close_with-requires-in-Some-clause-room : goal.close_with-requires-in-Some-clause-room
close_with-requires-in-Some-clause-room g c =
    let merges = c.loop-merge.ties.merges in
    let can = picked_can c.args.graph.now c.loop-merge.family merges c.loop-merge.invariant.ties.all (g.P.Picker.answer c.loop-merge.picker (length merges)) c.in-Some.merge c.in-Some.ensures.0 in
    let less = tie_lessens c.args.graph.now c.loop-merge.family c.loop-merge.invariant.sound c.in-Some.merge can in
    let room = c.loop-merge.invariant.room in
    let is = ap (λ (f : Clusters). length f.live) c.in_ok-_name.ensures.ok in
    let next = ap (λ (f : Clusters). f.next_step) c.in_ok-_name.ensures.ok in
    omega (arith, less, room, is, next)

pub close_with-requires-in-Some-clause-follows : goal.close_with-requires-in-Some-clause-follows
close_with-requires-in-Some-clause-follows g c =
    c.in_ok-enter.ensures c.args.graph.now c.loop-merge.family c.loop-merge.invariant.sound (c.leave.ensures c.args.graph.now c.loop-merge.invariant.follows) c.in_ok-_name.ensures.ok

-- where nothing was taken, the family is as the merge left it
pub follow-requires-clause-alone : goal.follow-requires-clause-alone
follow-requires-clause-alone g c alone =
    let merges = c.loop-merge.ties.merges in
    let can = picked_can c.args.graph.now c.loop-merge.family merges c.loop-merge.invariant.ties.all (g.P.Picker.answer c.loop-merge.picker (length merges)) c.in-Some.merge c.in-Some.ensures.0 in
    let none = empty_list c.in_ok-taken.taken (sym c.is_empty.ensures ∙ alone) in
    let stays = subst (λ (ts : List Taken). PicksLead g.P.Picker.answer g.P.Picker.after c.args.graph.now c.take_by_tie.new.family c.picked.new.picker (map merge_of ts) c.close_with-in-Some.new.family c.close_with-in-Some.new.picker)
    none c.in_ok-taken.ensures.run.leads in
    (c.loop-merge.family, (c.loop-merge.invariant.sound, c.loop-merge.invariant.ties, can, stays.0 ∙ c.in_ok-_name.ensures.ok))

pub loop-merge-smaller : goal.loop-merge-smaller
loop-merge-smaller g c =
    let merges = c.loop-merge.ties.merges in
    let can = picked_can c.args.graph.now c.loop-merge.family merges c.loop-merge.invariant.ties.all (g.P.Picker.answer c.loop-merge.picker (length merges)) c.in-Some.merge c.in-Some.ensures.0 in
    let less = tie_lessens c.args.graph.now c.loop-merge.family c.loop-merge.invariant.sound c.in-Some.merge can in
    let no_more = c.in_ok-taken.ensures.no_more in
    let is = ap (λ (f : Clusters). length f.live) c.in_ok-_name.ensures.ok in
    omega (arith, less, no_more, is)

pub loop-merge-preserved : goal.loop-merge-preserved
loop-merge-preserved g c =
    let graph = c.args.graph.now in
    let old = c.loop-merge.family in
    let mid = c.take_by_tie.new.family in
    let end = c.close_with-in-Some.new.family in
    let so_far = c.loop-merge.invariant in
    let closing = c.in_ok-taken.ensures in
    let merge = c.in-Some.merge in
    let merges = c.loop-merge.ties.merges in
    let can = picked_can graph old merges so_far.ties.all (g.P.Picker.answer c.loop-merge.picker (length merges)) merge c.in-Some.ensures.0 in
    let step = subst (λ (f : Clusters). WideStep graph (bodies old) (bodies f)) (sym c.in_ok-_name.ensures.ok) (tie_steps graph old so_far.sound merge can) in
    let (ms, picks) = so_far.picks in
    record {
      room = closing.room;
      reached = reach_by_on (wide_rule graph) (initial_bodies graph) (bodies old) (bodies end) so_far.reached (goes step (reach_widens graph (bodies mid) (bodies end) c.close_with-in-Some.ensures.reached));
      follows = closing.follows;
      picks = picks_by_tie g.P.Picker.answer g.P.Picker.after graph c.args.family c.args.picker.now ms old c.loop-merge.picker picks so_far.none merges so_far.ties.all
          merge c.picked.new.picker c.in-Some.ensures mid c.in_ok-_name.ensures.ok (map merge_of c.in_ok-taken.taken) end c.close_with-in-Some.new.picker closing.run.leads;
      none = closing.run.ends;
      closed = closing.closed;
      sound = c.in_ok-follow.ensures.sound;
      ties = c.in_ok-follow.ensures.ties;
    }

pub returns-clause-run : goal.returns-clause-run
returns-clause-run g c =
    let graph = c.args.graph.now in
    let family = c.loop-merge.family in
    let none = subst (λ (o : Option Merge). Takes g.P.Picker.answer g.P.Picker.after c.loop-merge.ties.merges c.loop-merge.picker o c.picked.new.picker) c.in_default.is c.picked.ensures in
    let (ms, picks) = c.loop-merge.invariant.picks in (
      ms,
      record {
        leads = subst (λ (p : g.row.P.Denot). WidePicksLead g.P.Picker.answer g.P.Picker.after graph c.args.family c.args.picker.now ms family p) (sym none.1) picks;
        ends = inr (c.loop-merge.invariant.none, subst (λ (merges : List Merge). AreTieMerges graph family merges) none.0 c.loop-merge.invariant.ties.all);
      },
    )

pub returns-clause-sound : goal.returns-clause-sound
returns-clause-sound g c = c.loop-merge.invariant.sound

pub returns-clause-normal : goal.returns-clause-normal
returns-clause-normal g c =
    let graph = c.args.graph.now in
    let family = c.loop-merge.family in
    let none = subst (λ (o : Option Merge). Takes g.P.Picker.answer g.P.Picker.after c.loop-merge.ties.merges c.loop-merge.picker o c.picked.new.picker) c.in_default.is c.picked.ensures in
    record {
      reached = c.loop-merge.invariant.reached;
      closed = wide_closed graph family c.loop-merge.invariant.sound c.loop-merge.invariant.closed
          (subst (λ (merges : List Merge). AreTieMerges graph family merges) none.0 c.loop-merge.invariant.ties.all);
    }

pub returns-clause-only : goal.returns-clause-only
returns-clause-only g c other normal =
    wide_same c.args.graph.now other (bodies c.loop-merge.family) c.requires.graph.edges_rise normal (returns-clause-normal g c)
