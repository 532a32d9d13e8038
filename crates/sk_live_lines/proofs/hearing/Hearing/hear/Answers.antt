use Rattle.std.proofs.Common.{◌≡◌, ◌++◌, [], ℕ, false, List, inl, inr, refl, sym, ap, subst, ◌∙◌, append_assoc}
use Rattle.std.specs.Prelude.{All}
use Rattle.std.proofs.lemmas.List.Elements.{All-append, All-nil}
use Rattle.sk_lines.specs.Lines.{is_line_feed}
use Rattle.sk_live_lines.specs.Heard.{IsRoomy, KeepsRoom, GoesOn, EndsHeard, EndsAmong}
use Rattle.sk_live_lines.proofs.Hearings.{same_heard, goes_on_more, ends_behind, among_behind}
use Rattle.sk_live_lines.proofs.Rooms.{room_same, room_more, roomy_behind}
use Rattle.sk_live_lines.specs.declared.ending.TurnEnd.TheVariants.{Done, WriteFault}
use Rattle.sk_live_lines.proofs.TurnEnds.{err_is, err_back, ends_as, nothing_gained, not_counted}
use Rattle.sk_live_lines.proofs.hearing.Hearing.hear.Goals as goal

pub loop-after-init : goal.loop-after-init
loop-after-init g c = record {
  taken = refl;
  front = [];
  cut = refl;
  goes_on = λ first taken text at. ([], nothing_gained (g.K.Sink.written c.args.sink.now), same_heard g.R.Replier.replies first taken c.args.self.now.kept c.args.replier.now text at);
  room = room_same g.R.Replier.replies g.R.Replier.ends c.args.self.now.kept c.args.replier.now (g.K.Sink.sure_room c.args.sink.now);
  steady = λ is. is;
  handed_on = inl (All-nil (λ b. is_line_feed b ≡ false));
  flushed = λ is. is;
  kept = refl;
}

pub returns-in_err-after-clause-ended : goal.returns-in_err-after-clause-ended
returns-in_err-after-clause-ended g c =
    let W = g.K.Sink.written c.args.sink.now in
    let V = g.K.Sink.written c.hear_line.new.sink in
    let end = c.in_err-after.field-0.0 in
    ends_as c.from_residual.result (EndsHeard g.R.Replier.replies g.R.Replier.ends c.args.self.now.kept c.args.replier.now W V c.args.piece.now) end c.from_residual.ensures
    (subst (λ (bytes : List ℕ). EndsHeard g.R.Replier.replies g.R.Replier.ends c.args.self.now.kept c.args.replier.now W V bytes end) (sym c.loop-after.invariant.cut)
    (ends_behind g.R.Replier.replies g.R.Replier.ends c.args.self.now.kept c.loop-after.self.kept c.args.replier.now c.loop-after.replier W (g.K.Sink.written c.loop-after.sink) V c.loop-after.invariant.front c.loop-after.rest.now end
    c.loop-after.invariant.goes_on c.in_err-after.ensures.ended))

pub loop-after-preserved : goal.loop-after-preserved
loop-after-preserved g c =
    let here = c.loop-after.invariant in
    let said = rw c.in-Some.is at c.in_ok-after.ensures.some in record {
      taken = c.in_ok-after.ensures.taken ∙ here.taken;
      front = here.front ++ said.0;
      cut = here.cut ∙ ap (λ (z : List ℕ). here.front ++ z) said.1.cut ∙ sym (append_assoc here.front said.0 c.in-Some.after.now);
      goes_on =
          goes_on_more g.R.Replier.replies g.R.Replier.ends c.args.self.now.kept c.loop-after.self.kept c.hear_line.new.self.kept c.args.replier.now c.loop-after.replier c.hear_line.new.replier
          (g.K.Sink.written c.args.sink.now) (g.K.Sink.written c.loop-after.sink) (g.K.Sink.written c.hear_line.new.sink) here.front said.0 here.goes_on said.2;
      room =
          room_more g.R.Replier.replies g.R.Replier.ends c.args.self.now.kept c.loop-after.self.kept c.hear_line.new.self.kept c.args.replier.now c.loop-after.replier c.hear_line.new.replier
          (g.K.Sink.sure_room c.args.sink.now) (g.K.Sink.sure_room c.loop-after.sink) (g.K.Sink.sure_room c.hear_line.new.sink) here.front said.0 here.room said.3;
      steady = λ is. c.in_ok-after.ensures.steady (here.steady is);
      handed_on = inr said.4;
      flushed = λ is. c.in_ok-after.ensures.flushed (λ failed. cc) (here.flushed is);
      kept = not_counted _ (g.K.Sink.faults c.loop-after.sink) (g.K.Sink.faults c.hear_line.new.sink) c.in_ok-after.ensures.fault (λ failed. cc) ∙ here.kept;
    }

pub returns-clause-goes_on : goal.returns-clause-goes_on
returns-clause-goes_on g c =
    let here = c.loop-after.invariant in
    let said = rw c.in_default.is at c.in_ok-after.ensures.none in
    subst (λ (bytes : List ℕ). GoesOn g.R.Replier.replies c.args.self.now.kept c.args.replier.now (g.K.Sink.written c.args.sink.now) c.hear_line.new.self.kept c.hear_line.new.replier (g.K.Sink.written c.hear_line.new.sink) bytes) (sym here.cut)
    (goes_on_more g.R.Replier.replies g.R.Replier.ends c.args.self.now.kept c.loop-after.self.kept c.hear_line.new.self.kept c.args.replier.now c.loop-after.replier c.hear_line.new.replier
    (g.K.Sink.written c.args.sink.now) (g.K.Sink.written c.loop-after.sink) (g.K.Sink.written c.hear_line.new.sink) here.front c.loop-after.rest.now here.goes_on said)

pub returns-clause-room : goal.returns-clause-room
returns-clause-room g c =
    let here = c.loop-after.invariant in
    let said = rw c.in_default.is at c.in_ok-after.ensures.room in
    subst (λ (bytes : List ℕ). KeepsRoom g.R.Replier.replies c.args.self.now.kept c.args.replier.now (g.K.Sink.sure_room c.args.sink.now) c.hear_line.new.self.kept c.hear_line.new.replier (g.K.Sink.sure_room c.hear_line.new.sink) bytes) (sym here.cut)
    (room_more g.R.Replier.replies g.R.Replier.ends c.args.self.now.kept c.loop-after.self.kept c.hear_line.new.self.kept c.args.replier.now c.loop-after.replier c.hear_line.new.replier
    (g.K.Sink.sure_room c.args.sink.now) (g.K.Sink.sure_room c.loop-after.sink) (g.K.Sink.sure_room c.hear_line.new.sink) here.front c.loop-after.rest.now here.room said)

pub returns-in_err-after-clause-sure : goal.returns-in_err-after-clause-sure
returns-in_err-after-clause-sure g c steady roomy failed =
    let here = c.loop-after.invariant in
    c.in_err-after.ensures.sure (here.steady steady)
    (roomy_behind g.R.Replier.replies g.R.Replier.ends c.args.self.now.kept c.loop-after.self.kept c.args.replier.now c.loop-after.replier (g.K.Sink.sure_room c.args.sink.now) (g.K.Sink.sure_room c.loop-after.sink) here.front c.loop-after.rest.now here.room
    (subst (λ (bytes : List ℕ). IsRoomy g.R.Replier.replies c.args.self.now.kept c.args.replier.now (g.K.Sink.sure_room c.args.sink.now) bytes) here.cut roomy))
    (err_is c.from_residual.result c.in_err-after.field-0.0 WriteFault c.from_residual.ensures failed)

pub returns-in_err-after-clause-flushed : goal.returns-in_err-after-clause-flushed
returns-in_err-after-clause-flushed g c other flushed =
    c.in_err-after.ensures.flushed (λ failed. other (err_back c.from_residual.result c.in_err-after.field-0.0 WriteFault c.from_residual.ensures failed)) (c.loop-after.invariant.flushed flushed)

pub returns-clause-flushed : goal.returns-clause-flushed
returns-clause-flushed g c other flushed = c.in_ok-after.ensures.flushed (λ failed. cc) (c.loop-after.invariant.flushed flushed)

pub returns-clause-handed_on : goal.returns-clause-handed_on
returns-clause-handed_on g c =
    let here = c.loop-after.invariant in
    let rest_solid = rw c.in_default.is at c.in_ok-after.ensures.solid in
    elim here.handed_on [
      | inl solid ↦ inl (subst (λ (bytes : List ℕ). All (λ b. is_line_feed b ≡ false) bytes) (sym here.cut) (All-append (λ b. is_line_feed b ≡ false) here.front c.loop-after.rest.now solid rest_solid))
      | inr flushed ↦ inr (c.in_ok-after.ensures.flushed (λ failed. cc) flushed)
    ]

pub returns-in_err-after-clause-at_line : goal.returns-in_err-after-clause-at_line
returns-in_err-after-clause-at_line g c done =
    let W = g.K.Sink.written c.args.sink.now in
    let V = g.K.Sink.written c.hear_line.new.sink in
    subst (λ (bytes : List ℕ). EndsAmong g.R.Replier.replies g.R.Replier.ends c.args.self.now.kept c.args.replier.now W V bytes) (sym c.loop-after.invariant.cut)
    (among_behind g.R.Replier.replies g.R.Replier.ends c.args.self.now.kept c.loop-after.self.kept c.args.replier.now c.loop-after.replier W (g.K.Sink.written c.loop-after.sink) V c.loop-after.invariant.front c.loop-after.rest.now
    c.loop-after.invariant.goes_on (c.in_err-after.ensures.at_line (err_is c.from_residual.result c.in_err-after.field-0.0 Done c.from_residual.ensures done)))
