use Rattle.std.proofs.Common.{◌≡◌, ◌≤◌, ◌++◌, [], ℕ, suc, length, inl, inr, refl, sym, ap, subst, ◌∙◌, arith, length-append}
use Rattle.std.specs.Io.KnownBytes.{Appends}
use Rattle.sk_io.specs.Causes.{AnswersFault}
use Rattle.sk_io.proofs.Moved.{Consumes-more}
use Rattle.sk_io.proofs.Reading.{unread, read_once}
use Rattle.sk_live_lines.proofs.Hearings.{goes_on_more}
use Rattle.sk_live_lines.proofs.Rooms.{room_more}
use Rattle.sk_live_lines.specs.declared.TurnEnd.TheVariants as turn_end
use Rattle.sk_live_lines.specs.Heard.{Heard}
use Rattle.sk_cli.specs.LiveAnswer.{begun, late_line, IsSaid, IsEnd}
use Rattle.sk_answers.specs.declared.Status.TheVariants.{ReadFault, WriteFault}
use Rattle.sk_cli.proofs.LiveEnds.{nothing_gained, live_taken, live_few, failed_status, begun_is, no_byte_taken, live_unbegun, nothing_taken, live_ends, live_room, live_within, late_fits, told_before, read_same, write_same, late_or_not, as_error, as_end, fault_of_end}
use Rattle.sk_cli.proofs.Sessions.{not_counted}
use Rattle.sk_cli.proofs.live.live.Goals as goal

pub returns-in_default-clause-outcome : goal.returns-in_default-clause-outcome
returns-in_default-clause-outcome g c = live_unbegun c.args.request (g.S.Source.left c.args.source.now) (g.K.Sink.written c.args.sink.now)

pub loop-end-init : goal.loop-end-init
loop-end-init g c = record {
  taken = [];
  takes = nothing_taken (g.S.Source.left c.args.source.now);
  count = ap (λ (h : Heard). h.taken) c.new-hearing.ensures;
  turns = 0;
  read_on = refl;
  bound = rw c.new-hearing.ensures (omega arith);
  goes_on = rw (c.new-hearing.ensures, c.in-Ok.ensures) (no_byte_taken IsSaid (begun c.args.request) (g.K.Sink.written c.args.sink.now));
  room = rw (c.new-hearing.ensures, c.in-Ok.ensures) (begun_is c.args.request (g.K.Sink.sure_room c.args.sink.now));
  steady = λ is. is;
  flushed = λ is. is;
  sure = λ is. is;
  read_kept = refl;
  write_kept = refl;
}

pub loop-end-preserved : goal.loop-end-preserved
loop-end-preserved g c =
    let here = c.loop-end.invariant in
    let on = c.in-Ok-turn.ensures.goes_on in
    let sum = length-append here.taken on.0 in record {
      taken = here.taken ++ on.0;
      takes = Consumes-more (g.S.Source.left c.args.source.now) (g.S.Source.left c.loop-end.source) (g.S.Source.left c.turn.new.source) here.taken on.0 here.takes on.2;
      count = omega (arith, on.3, here.count, sum);
      turns = suc here.turns;
      read_on = (c.loop-end.source, here.read_on, c.in-Ok-turn.ensures.on refl);
      bound = c.in-Ok-turn.ensures.bound;
      goes_on =
          goes_on_more IsSaid IsEnd [] c.loop-end.hearing.kept c.turn.new.hearing.kept (begun c.args.request) c.loop-end.sitting c.turn.new.replier
          (g.K.Sink.written c.args.sink.now) (g.K.Sink.written c.loop-end.sink) (g.K.Sink.written c.turn.new.sink) here.taken on.0 here.goes_on on.4;
      room =
          room_more IsSaid IsEnd [] c.loop-end.hearing.kept c.turn.new.hearing.kept (begun c.args.request) c.loop-end.sitting c.turn.new.replier
          (g.K.Sink.sure_room c.args.sink.now) (g.K.Sink.sure_room c.loop-end.sink) (g.K.Sink.sure_room c.turn.new.sink) here.taken on.0 here.room on.5;
      steady = λ is. c.in-Ok-turn.ensures.steady (here.steady is);
      flushed = λ is. c.in-Ok-turn.ensures.flushed (λ failed. cc) (here.flushed is);
      sure = λ is. (c.in-Ok-turn.ensures.sure_source (here.sure is)).0;
      read_kept = not_counted _ (g.S.Source.faults c.loop-end.source) (g.S.Source.faults c.turn.new.source) c.in-Ok-turn.ensures.read_fault (λ failed. cc) ∙ here.read_kept;
      write_kept = not_counted _ (g.K.Sink.faults c.loop-end.sink) (g.K.Sink.faults c.turn.new.sink) c.in-Ok-turn.ensures.write_fault (λ failed. cc) ∙ here.write_kept;
    }

pub returns-in-Err-clause-outcome : goal.returns-in-Err-clause-outcome
returns-in-Err-clause-outcome g c =
    let here = c.loop-end.invariant in
    live_ends c.args.request (g.S.Source.left c.args.source.now) (g.S.Source.left c.loop-end.source) (g.S.Source.left c.turn.new.source)
    (g.K.Sink.written c.args.sink.now) (g.K.Sink.written c.loop-end.sink) (g.K.Sink.written c.turn.new.sink) (g.K.Sink.written c.ended.new.sink)
    c.loop-end.hearing.kept c.loop-end.hearing.taken c.loop-end.sitting here.taken c.in-Err.end c.ended.result here.takes here.count here.goes_on c.in-Err.ensures.ended c.ended.ensures.told

pub returns-in-Err-clause-read_fault : goal.returns-in-Err-clause-read_fault
returns-in-Err-clause-read_fault g c =
    let here = c.loop-end.invariant in
    let both = read_same c.in-Err.end (g.K.Sink.written c.turn.new.sink) (g.K.Sink.written c.ended.new.sink) c.ended.result c.ended.ensures.told in
    subst (λ (n : ℕ). AnswersFault (c.ended.result ≡ ReadFault) n (g.S.Source.faults c.turn.new.source)) here.read_kept
    (fault_of_end c.in-Err.end turn_end.ReadFault c.ended.result ReadFault (g.S.Source.faults c.loop-end.source) (g.S.Source.faults c.turn.new.source) both.0 both.1 c.in-Err.ensures.read_fault)

pub returns-in-Err-clause-write_fault : goal.returns-in-Err-clause-write_fault
returns-in-Err-clause-write_fault g c =
    let here = c.loop-end.invariant in
    elim (late_or_not c.in-Err.end) [
      | inl late ↦
          let kept = not_counted _ (g.K.Sink.faults c.loop-end.sink) (g.K.Sink.faults c.turn.new.sink) c.in-Err.ensures.write_fault (λ failed. (let is = as_end c.in-Err.end turn_end.WriteFault failed in cc)) ∙ here.write_kept in
          subst (λ (n : ℕ). AnswersFault (c.ended.result ≡ WriteFault) n (g.K.Sink.faults c.ended.new.sink)) kept (c.ended.ensures.fault late)
      | inr other ↦
          let both = write_same c.in-Err.end (g.K.Sink.written c.turn.new.sink) (g.K.Sink.written c.ended.new.sink) c.ended.result c.ended.ensures.told other in
          let same = ap g.K.Sink.faults (c.ended.ensures.same other) in
          subst (λ (n : ℕ). AnswersFault (c.ended.result ≡ WriteFault) (g.K.Sink.faults c.args.sink.now) n) (sym same)
          (subst (λ (n : ℕ). AnswersFault (c.ended.result ≡ WriteFault) n (g.K.Sink.faults c.turn.new.sink)) here.write_kept
          (fault_of_end c.in-Err.end turn_end.WriteFault c.ended.result WriteFault (g.K.Sink.faults c.loop-end.sink) (g.K.Sink.faults c.turn.new.sink) both.0 both.1 c.in-Err.ensures.write_fault))
    ]

pub returns-in-Err-clause-sure_source : goal.returns-in-Err-clause-sure_source
returns-in-Err-clause-sure_source g c is =
    let here = c.loop-end.invariant in
    let both = read_same c.in-Err.end (g.K.Sink.written c.turn.new.sink) (g.K.Sink.written c.ended.new.sink) c.ended.result c.ended.ensures.told in
    let sure = c.in-Err.ensures.sure_source (here.sure is) in
    (sure.1 ∙ here.read_kept, λ failed. sure.2 (as_error c.in-Err.end turn_end.ReadFault (both.0 failed)))

pub returns-in-Err-clause-sure_sink : goal.returns-in-Err-clause-sure_sink
returns-in-Err-clause-sure_sink g c steady each failed =
    let here = c.loop-end.invariant in
    let fits : length here.taken ≤ 4294967295 = omega (arith, here.count, here.bound) in
    let has = live_room c.args.request (g.S.Source.left c.args.source.now) (g.S.Source.left c.loop-end.source) (g.K.Sink.sure_room c.args.sink.now) (g.K.Sink.sure_room c.loop-end.sink)
    c.loop-end.hearing.kept c.loop-end.sitting here.taken here.takes fits here.room each in
    elim (late_or_not c.in-Err.end) [
      | inl late ↦
          let told = c.in-Err.ensures.too_long (as_error c.in-Err.end turn_end.TooLong late) in
          let enough = late_fits c.args.request (g.S.Source.left c.args.source.now) (g.S.Source.left c.loop-end.source) (g.S.Source.left c.turn.new.source) (g.K.Sink.sure_room c.args.sink.now) (g.K.Sink.sure_room c.loop-end.sink)
          c.loop-end.hearing.kept c.loop-end.hearing.taken c.loop-end.sitting here.taken here.takes here.count each has told.1 in
          c.ended.ensures.sure late (subst g.K.Sink.is_steady (sym told.0) (here.steady steady)) (subst (λ k. length late_line ≤ g.K.Sink.sure_room k) (sym told.0) enough) failed
      | inr other ↦
          let both = write_same c.in-Err.end (g.K.Sink.written c.turn.new.sink) (g.K.Sink.written c.ended.new.sink) c.ended.result c.ended.ensures.told other in
          c.in-Err.ensures.sure_sink (here.steady steady) (begun c.args.request) here.taken (g.K.Sink.sure_room c.args.sink.now) here.count has
          (λ piece rest takes told.
          live_within c.args.request (g.S.Source.left c.args.source.now) (g.K.Sink.sure_room c.args.sink.now) (here.taken ++ (piece ++ rest)) each
          (told_before (g.S.Source.left c.args.source.now) (g.S.Source.left c.loop-end.source) here.taken (piece ++ rest) here.takes (told_before (g.S.Source.left c.loop-end.source) (g.S.Source.left c.turn.new.source) piece rest takes told)))
          (as_error c.in-Err.end turn_end.WriteFault (both.0 failed))
    ]

pub returns-in_default-clause-taken : goal.returns-in_default-clause-taken
returns-in_default-clause-taken g c = ([], nothing_gained (g.K.Sink.written c.args.sink.now), tt)

pub returns-in_default-clause-few : goal.returns-in_default-clause-few
returns-in_default-clause-few g c = ([], omega arith, nothing_taken (g.S.Source.left c.args.source.now))

pub returns-in-Err-clause-taken : goal.returns-in-Err-clause-taken
returns-in-Err-clause-taken g c =
    let here = c.loop-end.invariant in
    let (bytes, gained, told, appended, ends) = returns-in-Err-clause-outcome g c in
    live_taken c.args.request (g.S.Source.left c.args.source.now) (g.S.Source.left c.loop-end.source) (g.S.Source.left c.turn.new.source)
    (g.K.Sink.written c.args.sink.now) (g.K.Sink.written c.loop-end.sink) (g.K.Sink.written c.turn.new.sink) (g.K.Sink.written c.ended.new.sink)
    c.loop-end.hearing.kept c.loop-end.sitting here.taken gained c.in-Err.end c.ended.result here.takes here.goes_on
    (λ done. c.in-Err.ensures.done (as_error c.in-Err.end turn_end.Done done))
    (λ failed.
    (let unchanged = c.in-Err.ensures.read_failed (as_error c.in-Err.end turn_end.ReadFault failed) in
    (subst (λ k. Appends (g.K.Sink.written c.loop-end.sink) (g.K.Sink.written k) []) (sym unchanged.2) (nothing_gained (g.K.Sink.written c.loop-end.sink)), unchanged.3)))
    c.ended.ensures.told appended

pub returns-in_default-clause-reads : goal.returns-in_default-clause-reads
returns-in_default-clause-reads g c = unread g.S.Source.is_read_on g.S.Source.is_read_last c.args.source.now

pub returns-in-Err-clause-reads : goal.returns-in-Err-clause-reads
returns-in-Err-clause-reads g c =
    read_once g.S.Source.is_read_on g.S.Source.is_read_last c.loop-end.invariant.turns c.args.source.now c.loop-end.source c.turn.new.source c.loop-end.invariant.read_on c.in-Err.ensures.once

pub returns-in-Err-clause-few : goal.returns-in-Err-clause-few
returns-in-Err-clause-few g c =
    let here = c.loop-end.invariant in
    live_few (g.S.Source.left c.args.source.now) (g.S.Source.left c.loop-end.source) (g.S.Source.left c.turn.new.source) here.taken c.loop-end.hearing.taken here.takes here.count here.bound c.in-Err.ensures.within

pub returns-in-Err-clause-flushed : goal.returns-in-Err-clause-flushed
returns-in-Err-clause-flushed g c other flushed =
    c.ended.ensures.flushed other (c.in-Err.ensures.flushed (λ failed. other (failed_status c.in-Err.end (g.K.Sink.written c.turn.new.sink) (g.K.Sink.written c.ended.new.sink) c.ended.result c.ended.ensures.told (as_end c.in-Err.end turn_end.WriteFault failed)))
    (c.loop-end.invariant.flushed flushed))
