use Rattle.std.proofs.Common.{◌≡◌, inl, inr, ℕ, List, [], refl, subst, ◌∙◌, arith}
use Rattle.std.proofs.lemmas.Bool.Decides.{nat_tests}
use Rattle.std.proofs.lemmas.List.{nil_from_length}
use Rattle.sk_lines.specs.Lines.{lines_in}
use Rattle.sk_session.specs.declared.Reply.TheVariants as reply
use Rattle.sk_cli.proofs.Sessions.{HasGained, ends_or_not, not_counted, gained_first, gained_next, fits_next, stopped_ends, ended_ends, spent_ends, begun_ends}
use Rattle.sk_cli.proofs.session.session.Goals as goal

pub returns-in_default-clause-written : goal.returns-in_default-clause-written
returns-in_default-clause-written g c = begun_ends c.args.request c.args.bytes.now (g.K.Sink.written c.args.sink.now) c.requires

pub loop-rest-init : goal.loop-rest-init
loop-rest-init g c = record {
  gained = gained_first c.args.request c.args.bytes.now c.in-Ok.session (g.K.Sink.written c.args.sink.now) (g.K.Sink.sure_room c.args.sink.now) c.in-Ok.ensures;
  kept = refl;
}

pub loop-rest-preserved : goal.loop-rest-preserved
loop-rest-preserved g c =
    let said = c.in-Ok-reply_to.ensures.ok in
    let gained = subst (λ (lines : List (List ℕ)). HasGained c.args.request c.args.bytes.now lines c.loop-rest.session (g.K.Sink.written c.args.sink.now) (g.K.Sink.written c.loop-rest.sink) (g.K.Sink.sure_room c.args.sink.now) (g.K.Sink.sure_room c.loop-rest.sink))
    c.split_line.ensures.lines c.loop-rest.invariant.gained in record {
      gained =
          gained_next c.args.request c.args.bytes.now c.split_line.result.0.now (lines_in c.split_line.result.1.now) c.loop-rest.session
          (g.K.Sink.written c.args.sink.now) (g.K.Sink.written c.loop-rest.sink) (g.K.Sink.written c.reply_to.new.sink)
          (g.K.Sink.sure_room c.args.sink.now) (g.K.Sink.sure_room c.loop-rest.sink) (g.K.Sink.sure_room c.reply_to.new.sink)
          c.requires gained c.reply_to.new.session said.0 said.1 said.2 (said.4.0 c.if-not-goes_on.false) said.3 said.5;
      kept = not_counted _ (g.K.Sink.faults c.loop-rest.sink) (g.K.Sink.faults c.reply_to.new.sink) c.in-Ok-reply_to.ensures.fault (λ failed. cc) ∙ c.loop-rest.invariant.kept;
    }

pub returns-then-not-goes_on-clause-written : goal.returns-then-not-goes_on-clause-written
returns-then-not-goes_on-clause-written g c =
    let said = c.in-Ok-reply_to.ensures.ok in
    let gained = subst (λ (lines : List (List ℕ)). HasGained c.args.request c.args.bytes.now lines c.loop-rest.session (g.K.Sink.written c.args.sink.now) (g.K.Sink.written c.loop-rest.sink) (g.K.Sink.sure_room c.args.sink.now) (g.K.Sink.sure_room c.loop-rest.sink))
    c.split_line.ensures.lines c.loop-rest.invariant.gained in
    let ends : said.0 ≡ reply.End = elim (ends_or_not said.0) [ inl is ↦ is | inr other ↦ absurd (let on = said.4.1 other in cc) ] in
    ended_ends c.args.request c.args.bytes.now c.split_line.result.0.now (lines_in c.split_line.result.1.now) c.loop-rest.session
    (g.K.Sink.written c.args.sink.now) (g.K.Sink.written c.loop-rest.sink) (g.K.Sink.written c.reply_to.new.sink)
    (g.K.Sink.sure_room c.args.sink.now) (g.K.Sink.sure_room c.loop-rest.sink) c.requires gained c.reply_to.new.session said.0 said.1 said.2 ends said.3

pub returns-in-Err-clause-written : goal.returns-in-Err-clause-written
returns-in-Err-clause-written g c =
    let gained = subst (λ (lines : List (List ℕ)). HasGained c.args.request c.args.bytes.now lines c.loop-rest.session (g.K.Sink.written c.args.sink.now) (g.K.Sink.written c.loop-rest.sink) (g.K.Sink.sure_room c.args.sink.now) (g.K.Sink.sure_room c.loop-rest.sink))
    c.split_line.ensures.lines c.loop-rest.invariant.gained in
    stopped_ends c.args.request c.args.bytes.now c.split_line.result.0.now (lines_in c.split_line.result.1.now) c.loop-rest.session
    (g.K.Sink.written c.args.sink.now) (g.K.Sink.written c.loop-rest.sink) (g.K.Sink.written c.reply_to.new.sink)
    (g.K.Sink.sure_room c.args.sink.now) (g.K.Sink.sure_room c.loop-rest.sink) c.requires gained c.reply_to.new.session c.in-Err.status c.in-Err.ensures.err

pub returns-in-Err-clause-sure : goal.returns-in-Err-clause-sure
returns-in-Err-clause-sure g c each =
    let gained = subst (λ (lines : List (List ℕ)). HasGained c.args.request c.args.bytes.now lines c.loop-rest.session (g.K.Sink.written c.args.sink.now) (g.K.Sink.written c.loop-rest.sink) (g.K.Sink.sure_room c.args.sink.now) (g.K.Sink.sure_room c.loop-rest.sink))
    c.split_line.ensures.lines c.loop-rest.invariant.gained in
    let sure = c.in-Err.ensures.sure (fits_next c.args.request c.args.bytes.now c.split_line.result.0.now (lines_in c.split_line.result.1.now) c.loop-rest.session
    (g.K.Sink.written c.args.sink.now) (g.K.Sink.written c.loop-rest.sink) (g.K.Sink.sure_room c.args.sink.now) (g.K.Sink.sure_room c.loop-rest.sink) c.requires gained each) in
    (sure.0 ∙ c.loop-rest.invariant.kept, λ failed. sure.1 (cc))

pub returns-clause-written : goal.returns-clause-written
returns-clause-written g c =
    let none : c.loop-rest.rest.now ≡ [] = nil_from_length c.loop-rest.rest.now (grind (arith, nat_tests)) in
    spent_ends c.args.request c.args.bytes.now c.loop-rest.session (g.K.Sink.written c.args.sink.now) (g.K.Sink.written c.loop-rest.sink) (g.K.Sink.sure_room c.args.sink.now) (g.K.Sink.sure_room c.loop-rest.sink) c.requires
    (subst (λ (rest : List ℕ). HasGained c.args.request c.args.bytes.now (lines_in rest) c.loop-rest.session (g.K.Sink.written c.args.sink.now) (g.K.Sink.written c.loop-rest.sink) (g.K.Sink.sure_room c.args.sink.now) (g.K.Sink.sure_room c.loop-rest.sink)) none c.loop-rest.invariant.gained)
