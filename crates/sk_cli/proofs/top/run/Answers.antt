use Rattle.std.proofs.Common.{◌∙◌, sym, refl, map, length, inl, inr}
use Rattle.std.proofs.lemmas.Bool.{cases_lt}
use Rattle.std.specs.Prelude.{string_bytes}
use Rattle.sk_io.proofs.Reading.{unread}
use Rattle.sk_answers.specs.declared.Status.TheVariants.{ReadFault, NoMemory}
use Rattle.sk_request.specs.Asking.{AskForInput}
use Rattle.sk_cli.proofs.Runs.{usage_ends, answer_ends, nothing_ends, no_form, answer_room, usage_room, no_fault, asked_input, read_told, session_takes, session_ends, session_room, as_live, not_live, live_takes, live_fits}
use Rattle.sk_cli.proofs.Sessions.{not_counted}
use Rattle.sk_request.proofs.Sizes.{size_fits}
use Rattle.sk_cli.proofs.top.run.Goals as goal

pub returns-in_default-clause-outcome : goal.returns-in_default-clause-outcome
returns-in_default-clause-outcome g c =
    usage_ends (map string_bytes c.args.words.now) (g.S.Source.left c.args.source.now) _ _ c.as_bytes.result.now c.send.result
    (no_form (map string_bytes c.args.words.now) c.in_default.ensures.none) c.as_bytes.ensures.value c.send.ensures.sent

pub returns-in_default-clause-read : goal.returns-in_default-clause-read
returns-in_default-clause-read g c is other has =
    absurd (no_form (map string_bytes c.args.words.now) c.in_default.ensures.none (is.0, is.1))

pub returns-in_default-clause-reads : goal.returns-in_default-clause-reads
returns-in_default-clause-reads g c = unread g.S.Source.is_read_on g.S.Source.is_read_last c.args.source.now

pub returns-in_default-clause-sure_sink : goal.returns-in_default-clause-sure_sink
returns-in_default-clause-sure_sink g c live each =
    let sure = c.send.ensures.sure (usage_room (map string_bytes c.args.words.now) (g.S.Source.left c.args.source.now) c.as_bytes.result.now _ each
    (no_form (map string_bytes c.args.words.now) c.in_default.ensures.none) c.as_bytes.ensures.value) in
    (sure.0, λ failed. cc (sure.1, failed))

pub returns-in-Err-ReadFault-clause-outcome : goal.returns-in-Err-ReadFault-clause-outcome
returns-in-Err-ReadFault-clause-outcome g c =
    let asks : AskForInput (map string_bytes c.args.words.now) = (c.in-Some.request, c.in-Some.ensures.some, c.in-Err-ReadFault.ensures.tried (rw c.in-Err-ReadFault.field-0-is refl)) in
    nothing_ends (map string_bytes c.args.words.now) (g.S.Source.left c.args.source.now) _ ReadFault (λ bytes. (asks, inl refl))

pub returns-in-Err-NoMemory-clause-outcome : goal.returns-in-Err-NoMemory-clause-outcome
returns-in-Err-NoMemory-clause-outcome g c =
    nothing_ends (map string_bytes c.args.words.now) (g.S.Source.left c.args.source.now) _ NoMemory (λ bytes. inl refl)

pub returns-in-Ok-answer-clause-outcome : goal.returns-in-Ok-answer-clause-outcome
returns-in-Ok-answer-clause-outcome g c =
    let answer = rw c.as_bytes-input.ensures at c.in-Ok-answer.ensures in
    let sent = rw c.as_bytes-in-Ok-answer.ensures at c.send-in-Ok-answer.ensures.sent in
    answer_ends (map string_bytes c.args.words.now) (g.S.Source.left c.args.source.now) _ _ _ c.in-Ok.bytes c.in-Some.request c.in-Ok-answer.answer.status c.in-Ok-answer.answer.text c.send-in-Ok-answer.result
    c.in-Some.ensures.some (λ is. (let asked = c.asks_for_live.ensures.1 is in cc)) c.in-Ok.ensures.bound c.in-Ok.ensures.taken answer sent

pub returns-in-Ok-answer-clause-sure_sink : goal.returns-in-Ok-answer-clause-sure_sink
returns-in-Ok-answer-clause-sure_sink g c live each =
    let answer = rw c.as_bytes-input.ensures at c.in-Ok-answer.ensures in
    let sure = c.send-in-Ok-answer.ensures.sure (rw c.as_bytes-in-Ok-answer.ensures
    (answer_room (map string_bytes c.args.words.now) (g.S.Source.left c.args.source.now) _ c.in-Ok.bytes c.in-Some.request c.in-Ok-answer.answer.status c.in-Ok-answer.answer.text _
    each c.in-Some.ensures.some (λ is. (let asked = c.asks_for_live.ensures.1 is in cc)) c.in-Ok.ensures.bound c.in-Ok.ensures.taken answer)) in
    (sure.0, λ failed. no_fault c.in-Some.request c.in-Ok.bytes c.in-Ok-answer.answer.status c.in-Ok-answer.answer.text answer (sym sure.1 ∙ failed))

pub returns-clause-outcome : goal.returns-clause-outcome
returns-clause-outcome g c =
    nothing_ends (map string_bytes c.args.words.now) (g.S.Source.left c.args.source.now) _ NoMemory (λ bytes. inl refl)

pub returns-in-Ok-answer-clause-read : goal.returns-in-Ok-answer-clause-read
returns-in-Ok-answer-clause-read g c asks other has =
    read_told (g.S.Source.left c.args.source.now) _ c.in-Ok.bytes
    (c.in-Ok.ensures.taken (asked_input (map string_bytes c.args.words.now) c.in-Some.request c.in-Some.ensures.some asks))

pub answer-requires-clause-size : goal.answer-requires-clause-size
answer-requires-clause-size g c = size_fits (map string_bytes c.args.words.now) c.in-Some.request c.in-Some.ensures.some

pub returns-in-Err-ReadFault-clause-untouched : goal.returns-in-Err-ReadFault-clause-untouched
returns-in-Err-ReadFault-clause-untouched g c other = c.input.ensures.untouched (λ takes. other (c.in-Some.request, c.in-Some.ensures.some, takes))

pub returns-in-Err-NoMemory-clause-untouched : goal.returns-in-Err-NoMemory-clause-untouched
returns-in-Err-NoMemory-clause-untouched g c other = c.input.ensures.untouched (λ takes. other (c.in-Some.request, c.in-Some.ensures.some, takes))

pub returns-in-Ok-answer-clause-untouched : goal.returns-in-Ok-answer-clause-untouched
returns-in-Ok-answer-clause-untouched g c other = c.input.ensures.untouched (λ takes. other (c.in-Some.request, c.in-Some.ensures.some, takes))

pub returns-clause-untouched : goal.returns-clause-untouched
returns-clause-untouched g c other = c.input.ensures.untouched (λ takes. other (c.in-Some.request, c.in-Some.ensures.some, takes))

pub returns-in-Ok-answer-clause-write_fault : goal.returns-in-Ok-answer-clause-write_fault
returns-in-Ok-answer-clause-write_fault g c =
    let answer = rw c.as_bytes-input.ensures at c.in-Ok-answer.ensures in
    c.send-in-Ok-answer.ensures.fault (no_fault c.in-Some.request c.in-Ok.bytes c.in-Ok-answer.answer.status c.in-Ok-answer.answer.text answer)

pub answer-requires-clause-long : goal.answer-requires-clause-long
answer-requires-clause-long g c is =
    elim (cases_lt 1048576 (length c.as_bytes-input.result.now)) [
      | inl more ↦ more
      | inr few ↦ (let asked = c.asks_for_session.ensures.1 (is, few) in cc)
    ]

pub returns-then-asks_for_session-clause-read : goal.returns-then-asks_for_session-clause-read
returns-then-asks_for_session-clause-read g c asks other has =
    read_told (g.S.Source.left c.args.source.now) _ c.in-Ok.bytes
    (c.in-Ok.ensures.taken (asked_input (map string_bytes c.args.words.now) c.in-Some.request c.in-Some.ensures.some asks))

pub returns-then-asks_for_session-clause-untouched : goal.returns-then-asks_for_session-clause-untouched
returns-then-asks_for_session-clause-untouched g c other = c.input.ensures.untouched (λ takes. other (c.in-Some.request, c.in-Some.ensures.some, takes))

pub returns-then-asks_for_session-clause-outcome : goal.returns-then-asks_for_session-clause-outcome
returns-then-asks_for_session-clause-outcome g c =
    let asked = rw c.as_bytes-input.ensures at (c.asks_for_session.ensures.0 c.if-asks_for_session.true) in
    let written = rw c.as_bytes-input.ensures at c.session.ensures.written in
    session_ends (map string_bytes c.args.words.now) (g.S.Source.left c.args.source.now) _ _ _ c.in-Ok.bytes c.in-Some.request c.session.result written.0
    c.in-Some.ensures.some asked.0 c.in-Ok.ensures.bound (c.in-Ok.ensures.taken (session_takes c.in-Some.request.command asked.0)) asked.1 written.1 written.2

pub returns-then-asks_for_session-clause-sure_sink : goal.returns-then-asks_for_session-clause-sure_sink
returns-then-asks_for_session-clause-sure_sink g c live each =
    let asked = rw c.as_bytes-input.ensures at (c.asks_for_session.ensures.0 c.if-asks_for_session.true) in
    let sure = rw c.as_bytes-input.ensures at c.session.ensures.sure in
    sure (session_room (map string_bytes c.args.words.now) (g.S.Source.left c.args.source.now) _ c.in-Ok.bytes c.in-Some.request _ each
    c.in-Some.ensures.some asked.0 c.in-Ok.ensures.bound (c.in-Ok.ensures.taken (session_takes c.in-Some.request.command asked.0)) asked.1)

pub answer-requires-clause-whole : goal.answer-requires-clause-whole
answer-requires-clause-whole g c is = let asked = c.asks_for_live.ensures.1 is in cc

pub returns-then-asks_for_live-clause-outcome : goal.returns-then-asks_for_live-clause-outcome
returns-then-asks_for_live-clause-outcome g c =
    let (bytes, gained, told, appended, ends) = c.live.ensures.outcome in
    (bytes, gained, told, appended, as_live (map string_bytes c.args.words.now) bytes c.in-Some.request c.live.result gained c.in-Some.ensures.some (c.asks_for_live.ensures.0 c.if-asks_for_live.true) ends)

pub returns-then-asks_for_live-clause-read : goal.returns-then-asks_for_live-clause-read
returns-then-asks_for_live-clause-read g c asks other has = absurd (other (c.in-Some.request, c.in-Some.ensures.some, c.asks_for_live.ensures.0 c.if-asks_for_live.true))

pub returns-then-asks_for_live-clause-untouched : goal.returns-then-asks_for_live-clause-untouched
returns-then-asks_for_live-clause-untouched g c other =
    absurd (other (c.in-Some.request, c.in-Some.ensures.some, live_takes c.in-Some.request.command (c.asks_for_live.ensures.0 c.if-asks_for_live.true)))

pub returns-then-asks_for_live-clause-sure_sink : goal.returns-then-asks_for_live-clause-sure_sink
returns-then-asks_for_live-clause-sure_sink g c steady each =
    let asked = c.asks_for_live.ensures.0 c.if-asks_for_live.true in
    let none = c.live.ensures.sure_sink (steady (c.in-Some.request, c.in-Some.ensures.some, asked))
    (live_fits (map string_bytes c.args.words.now) (g.S.Source.left c.args.source.now) c.in-Some.request (g.K.Sink.sure_room c.args.sink.now) each c.in-Some.ensures.some asked) in
    (not_counted _ (g.K.Sink.faults c.args.sink.now) (g.K.Sink.faults c.live.new.sink) c.live.ensures.write_fault none, none)

pub returns-in_default-clause-live_taken : goal.returns-in_default-clause-live_taken
returns-in_default-clause-live_taken g c live = absurd (c.in_default.ensures.none live.0 live.1)

pub returns-in-Err-ReadFault-clause-live_taken : goal.returns-in-Err-ReadFault-clause-live_taken
returns-in-Err-ReadFault-clause-live_taken g c live = absurd (not_live (map string_bytes c.args.words.now) c.in-Some.request c.in-Some.ensures.some (λ is. (let asked = c.asks_for_live.ensures.1 is in cc)) live)

pub returns-in-Err-NoMemory-clause-live_taken : goal.returns-in-Err-NoMemory-clause-live_taken
returns-in-Err-NoMemory-clause-live_taken g c live = absurd (not_live (map string_bytes c.args.words.now) c.in-Some.request c.in-Some.ensures.some (λ is. (let asked = c.asks_for_live.ensures.1 is in cc)) live)

pub returns-in-Ok-answer-clause-live_taken : goal.returns-in-Ok-answer-clause-live_taken
returns-in-Ok-answer-clause-live_taken g c live = absurd (not_live (map string_bytes c.args.words.now) c.in-Some.request c.in-Some.ensures.some (λ is. (let asked = c.asks_for_live.ensures.1 is in cc)) live)

pub returns-clause-live_taken : goal.returns-clause-live_taken
returns-clause-live_taken g c live = absurd (not_live (map string_bytes c.args.words.now) c.in-Some.request c.in-Some.ensures.some (λ is. (let asked = c.asks_for_live.ensures.1 is in cc)) live)

pub returns-then-asks_for_session-clause-live_taken : goal.returns-then-asks_for_session-clause-live_taken
returns-then-asks_for_session-clause-live_taken g c live = absurd (not_live (map string_bytes c.args.words.now) c.in-Some.request c.in-Some.ensures.some (λ is. (let asked = c.asks_for_live.ensures.1 is in cc)) live)

pub returns-then-asks_for_live-clause-live_taken : goal.returns-then-asks_for_live-clause-live_taken
returns-then-asks_for_live-clause-live_taken g c live = (c.in-Some.request, c.live.ensures.taken.0, c.in-Some.ensures.some, c.live.ensures.taken.1, c.live.ensures.taken.2)

pub returns-in_default-clause-live_few : goal.returns-in_default-clause-live_few
returns-in_default-clause-live_few g c live = absurd (c.in_default.ensures.none live.0 live.1)

pub returns-in-Err-ReadFault-clause-live_few : goal.returns-in-Err-ReadFault-clause-live_few
returns-in-Err-ReadFault-clause-live_few g c live = absurd (not_live (map string_bytes c.args.words.now) c.in-Some.request c.in-Some.ensures.some (λ is. (let asked = c.asks_for_live.ensures.1 is in cc)) live)

pub returns-in-Err-NoMemory-clause-live_few : goal.returns-in-Err-NoMemory-clause-live_few
returns-in-Err-NoMemory-clause-live_few g c live = absurd (not_live (map string_bytes c.args.words.now) c.in-Some.request c.in-Some.ensures.some (λ is. (let asked = c.asks_for_live.ensures.1 is in cc)) live)

pub returns-in-Ok-answer-clause-live_few : goal.returns-in-Ok-answer-clause-live_few
returns-in-Ok-answer-clause-live_few g c live = absurd (not_live (map string_bytes c.args.words.now) c.in-Some.request c.in-Some.ensures.some (λ is. (let asked = c.asks_for_live.ensures.1 is in cc)) live)

pub returns-clause-live_few : goal.returns-clause-live_few
returns-clause-live_few g c live = absurd (not_live (map string_bytes c.args.words.now) c.in-Some.request c.in-Some.ensures.some (λ is. (let asked = c.asks_for_live.ensures.1 is in cc)) live)

pub returns-then-asks_for_session-clause-live_few : goal.returns-then-asks_for_session-clause-live_few
returns-then-asks_for_session-clause-live_few g c live = absurd (not_live (map string_bytes c.args.words.now) c.in-Some.request c.in-Some.ensures.some (λ is. (let asked = c.asks_for_live.ensures.1 is in cc)) live)

pub returns-then-asks_for_live-clause-live_few : goal.returns-then-asks_for_live-clause-live_few
returns-then-asks_for_live-clause-live_few g c live = c.live.ensures.few

pub returns-in_default-clause-live_flushed : goal.returns-in_default-clause-live_flushed
returns-in_default-clause-live_flushed g c live other = absurd (c.in_default.ensures.none live.0 live.1)

pub returns-in-Err-ReadFault-clause-live_flushed : goal.returns-in-Err-ReadFault-clause-live_flushed
returns-in-Err-ReadFault-clause-live_flushed g c live other = absurd (not_live (map string_bytes c.args.words.now) c.in-Some.request c.in-Some.ensures.some (λ is. (let asked = c.asks_for_live.ensures.1 is in cc)) live)

pub returns-in-Err-NoMemory-clause-live_flushed : goal.returns-in-Err-NoMemory-clause-live_flushed
returns-in-Err-NoMemory-clause-live_flushed g c live other = absurd (not_live (map string_bytes c.args.words.now) c.in-Some.request c.in-Some.ensures.some (λ is. (let asked = c.asks_for_live.ensures.1 is in cc)) live)

pub returns-in-Ok-answer-clause-live_flushed : goal.returns-in-Ok-answer-clause-live_flushed
returns-in-Ok-answer-clause-live_flushed g c live other = absurd (not_live (map string_bytes c.args.words.now) c.in-Some.request c.in-Some.ensures.some (λ is. (let asked = c.asks_for_live.ensures.1 is in cc)) live)

pub returns-clause-live_flushed : goal.returns-clause-live_flushed
returns-clause-live_flushed g c live other = absurd (not_live (map string_bytes c.args.words.now) c.in-Some.request c.in-Some.ensures.some (λ is. (let asked = c.asks_for_live.ensures.1 is in cc)) live)

pub returns-then-asks_for_session-clause-live_flushed : goal.returns-then-asks_for_session-clause-live_flushed
returns-then-asks_for_session-clause-live_flushed g c live other = absurd (not_live (map string_bytes c.args.words.now) c.in-Some.request c.in-Some.ensures.some (λ is. (let asked = c.asks_for_live.ensures.1 is in cc)) live)

pub returns-then-asks_for_live-clause-live_flushed : goal.returns-then-asks_for_live-clause-live_flushed
returns-then-asks_for_live-clause-live_flushed g c live other = c.live.ensures.flushed other
