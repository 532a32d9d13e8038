use Rattle.std.proofs.Common.{◌≡◌, ◌++◌, ◌∷◌, [], ℕ, List, take, refl, sym, ap, subst, ◌∙◌, arith, length-append}
use Rattle.sk_live_lines.specs.Heard.{Heard, KeepsRoom, GoesOn, EndsHeard, Stops}
use Rattle.sk_live_lines.specs.declared.ending.TurnEnd.{TurnEnd}
use Rattle.sk_live_lines.specs.declared.ending.TurnEnd.TheVariants.{Done, NoMemory, WriteFault}
use Rattle.sk_live_lines.proofs.Hearings.{part_heard, answered_at, ended_at, done_at, out_of_memory}
use Rattle.sk_live_lines.proofs.Rooms.{room_part, room_answered, reply_fits}
use Rattle.sk_live_lines.proofs.TurnEnds.{err_is, err_back, error_is, ends_as, nothing_gained}
use Rattle.sk_live_lines.proofs.hearing.Hearing.hear_line.Goals as goal

pub returns-in_err-keep-clause-ended : goal.returns-in_err-keep-clause-ended
returns-in_err-keep-clause-ended g c =
    let W = g.K.Sink.written c.args.sink.now in
    ends_as c.from_residual.result (EndsHeard g.R.Replier.replies g.R.Replier.ends c.args.self.now.kept c.args.replier.now W W c.args.bytes.now) NoMemory c.from_residual.ensures
    (out_of_memory g.R.Replier.replies g.R.Replier.ends c.args.self.now.kept c.args.replier.now W W c.args.bytes.now (nothing_gained W))

pub returns-in_err-keep-2-clause-ended : goal.returns-in_err-keep-2-clause-ended
returns-in_err-keep-2-clause-ended g c =
    let W = g.K.Sink.written c.args.sink.now in
    ends_as c.from_residual-in_err-keep-2.result (EndsHeard g.R.Replier.replies g.R.Replier.ends c.args.self.now.kept c.args.replier.now W W c.args.bytes.now) NoMemory c.from_residual-in_err-keep-2.ensures
    (out_of_memory g.R.Replier.replies g.R.Replier.ends c.args.self.now.kept c.args.replier.now W W c.args.bytes.now (nothing_gained W))

pub returns-in_err-put-clause-ended : goal.returns-in_err-put-clause-ended
returns-in_err-put-clause-ended g c =
    let W = g.K.Sink.written c.args.sink.now in
    ends_as c.from_residual-in_err-put.result (EndsHeard g.R.Replier.replies g.R.Replier.ends c.args.self.now.kept c.args.replier.now W W c.args.bytes.now) NoMemory c.from_residual-in_err-put.ensures
    (out_of_memory g.R.Replier.replies g.R.Replier.ends c.args.self.now.kept c.args.replier.now W W c.args.bytes.now (nothing_gained W))

pub returns-in_default-clause-none : goal.returns-in_default-clause-none
returns-in_default-clause-none g c =
    let W = g.K.Sink.written c.args.sink.now in
    subst (λ (k : List ℕ). GoesOn g.R.Replier.replies c.args.self.now.kept c.args.replier.now W k c.args.replier.now W c.args.bytes.now)
    (sym (ap (λ (h : Heard). h.kept) c.in_ok-keep.ensures.ok))
    (part_heard g.R.Replier.replies c.args.self.now.kept c.args.replier.now W W c.args.bytes.now c.in_default.ensures.none (nothing_gained W))

pub returns-in_err-answer-clause-ended : goal.returns-in_err-answer-clause-ended
returns-in_err-answer-clause-ended g c =
    let W = g.K.Sink.written c.args.sink.now in
    let V = g.K.Sink.written c.answer.new.sink in
    let kept_is = ap (λ (h : Heard). h.kept) c.in_ok-keep-2.ensures.ok in
    let text_is : c.as_bytes.result.now ≡ take 202 (c.args.self.now.kept ++ c.in-Some.front.now) ++ 10 ∷ [] =
    c.as_bytes.ensures ∙ c.in_ok-put.ensures.ok ∙ ap (λ (z : List ℕ). z ++ 10 ∷ []) (c.take_out-line.ensures.text ∙ kept_is) in
    let stopped = c.in_err-answer.ensures.err in
    ends_as c.from_residual-in_err-answer.result (EndsHeard g.R.Replier.replies g.R.Replier.ends c.args.self.now.kept c.args.replier.now W V c.args.bytes.now) c.in_err-answer.field-0.0 c.from_residual-in_err-answer.ensures
    (ended_at g.R.Replier.replies g.R.Replier.ends g.R.Replier.long_alike g.R.Replier.long_goes_on c.args.self.now.kept c.args.replier.now W V c.args.bytes.now c.in-Some.front.now c.in-Some.after.now
    c.in-Some.ensures.some.cut c.in-Some.ensures.some.solid c.as_bytes.result.now stopped.0 stopped.1 text_is stopped.2 c.in_err-answer.field-0.0 stopped.3)

pub returns-clause-some : goal.returns-clause-some
returns-clause-some g c =
    let W = g.K.Sink.written c.args.sink.now in
    let V = g.K.Sink.written c.answer.new.sink in
    let kept_is = ap (λ (h : Heard). h.kept) c.in_ok-keep-2.ensures.ok in
    let text_is : c.as_bytes.result.now ≡ take 202 (c.args.self.now.kept ++ c.in-Some.front.now) ++ 10 ∷ [] =
    c.as_bytes.ensures ∙ c.in_ok-put.ensures.ok ∙ ap (λ (z : List ℕ). z ++ 10 ∷ []) (c.take_out-line.ensures.text ∙ kept_is) in
    let said = c.in_ok-answer.ensures.ok in
    let size = length-append c.in-Some.front.now (10 ∷ []) in (
      c.in-Some.front.now ++ 10 ∷ [],
      record { cut = c.in-Some.ensures.some.cut; some = omega (arith, size) },
      subst (λ (k : List ℕ). GoesOn g.R.Replier.replies c.args.self.now.kept c.args.replier.now W k c.answer.new.replier V (c.in-Some.front.now ++ 10 ∷ []))
          (sym (ap (λ (h : Heard). h.kept) c.take_out-line.ensures.anew))
          (answered_at g.R.Replier.replies g.R.Replier.long_alike c.args.self.now.kept c.args.replier.now c.answer.new.replier W V c.in-Some.front.now c.as_bytes.result.now said.0 said.1 said.2
          c.in-Some.ensures.some.solid text_is said.3 said.4 said.5),
      subst (λ (k : List ℕ). KeepsRoom g.R.Replier.replies c.args.self.now.kept c.args.replier.now (g.K.Sink.sure_room c.args.sink.now) k c.answer.new.replier (g.K.Sink.sure_room c.answer.new.sink) (c.in-Some.front.now ++ 10 ∷ []))
          (sym (ap (λ (h : Heard). h.kept) c.take_out-line.ensures.anew))
          (room_answered g.R.Replier.replies g.R.Replier.ends g.R.Replier.long_alike c.args.self.now.kept c.args.replier.now c.answer.new.replier (g.K.Sink.sure_room c.args.sink.now) (g.K.Sink.sure_room c.answer.new.sink)
          c.in-Some.front.now c.as_bytes.result.now said.0 said.1 said.2 c.in-Some.ensures.some.solid text_is said.3 said.4 said.6),
      c.in_ok-answer.ensures.flushed refl,
    )

pub returns-in_default-clause-room : goal.returns-in_default-clause-room
returns-in_default-clause-room g c =
    subst (λ (k : List ℕ). KeepsRoom g.R.Replier.replies c.args.self.now.kept c.args.replier.now (g.K.Sink.sure_room c.args.sink.now) k c.args.replier.now (g.K.Sink.sure_room c.args.sink.now) c.args.bytes.now)
    (sym (ap (λ (h : Heard). h.kept) c.in_ok-keep.ensures.ok))
    (room_part g.R.Replier.replies g.R.Replier.ends c.args.self.now.kept c.args.replier.now (g.K.Sink.sure_room c.args.sink.now) c.args.bytes.now c.in_default.ensures.none)

pub returns-in_err-answer-clause-sure : goal.returns-in_err-answer-clause-sure
returns-in_err-answer-clause-sure g c steady roomy failed =
    let kept_is = ap (λ (h : Heard). h.kept) c.in_ok-keep-2.ensures.ok in
    let text_is : c.as_bytes.result.now ≡ take 202 (c.args.self.now.kept ++ c.in-Some.front.now) ++ 10 ∷ [] =
    c.as_bytes.ensures ∙ c.in_ok-put.ensures.ok ∙ ap (λ (z : List ℕ). z ++ 10 ∷ []) (c.take_out-line.ensures.text ∙ kept_is) in
    c.in_err-answer.ensures.sure steady
    (λ said more others new lines_are replied.
    reply_fits g.R.Replier.replies g.R.Replier.ends g.R.Replier.long_alike c.args.self.now.kept c.args.replier.now new (g.K.Sink.sure_room c.args.sink.now) c.args.bytes.now c.in-Some.front.now c.in-Some.after.now c.as_bytes.result.now said more others
    c.in-Some.ensures.some.cut c.in-Some.ensures.some.solid text_is lines_are replied roomy)
    (err_is c.from_residual-in_err-answer.result c.in_err-answer.field-0.0 WriteFault c.from_residual-in_err-answer.ensures failed)

pub returns-in_err-answer-clause-flushed : goal.returns-in_err-answer-clause-flushed
returns-in_err-answer-clause-flushed g c other flushed =
    c.in_err-answer.ensures.unheld (λ failed. other (err_back c.from_residual-in_err-answer.result c.in_err-answer.field-0.0 WriteFault c.from_residual-in_err-answer.ensures failed)) flushed

pub returns-in_err-answer-clause-at_line : goal.returns-in_err-answer-clause-at_line
returns-in_err-answer-clause-at_line g c done =
    let W = g.K.Sink.written c.args.sink.now in
    let V = g.K.Sink.written c.answer.new.sink in
    let kept_is = ap (λ (h : Heard). h.kept) c.in_ok-keep-2.ensures.ok in
    let text_is : c.as_bytes.result.now ≡ take 202 (c.args.self.now.kept ++ c.in-Some.front.now) ++ 10 ∷ [] =
    c.as_bytes.ensures ∙ c.in_ok-put.ensures.ok ∙ ap (λ (z : List ℕ). z ++ 10 ∷ []) (c.take_out-line.ensures.text ∙ kept_is) in
    let stopped = c.in_err-answer.ensures.err in
    let end_is = error_is c.from_residual-in_err-answer.result c.in_err-answer.field-0.0 Done c.from_residual-in_err-answer.ensures done in
    done_at g.R.Replier.replies g.R.Replier.ends g.R.Replier.long_goes_on c.args.self.now.kept c.args.replier.now W V c.args.bytes.now c.in-Some.front.now c.in-Some.after.now
    c.in-Some.ensures.some.cut c.in-Some.ensures.some.solid c.as_bytes.result.now stopped.0 stopped.1 text_is stopped.2
    (subst (λ (e : TurnEnd). Stops g.R.Replier.replies g.R.Replier.ends c.args.replier.now stopped.0 W V e) end_is stopped.3)
