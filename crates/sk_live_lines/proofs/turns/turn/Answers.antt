use Rattle.std.proofs.Common.{◌≡◌, ◌≤◌, ◌<◌, ◌+◌, ◌-◌, ◌++◌, [], ℕ, List, length, take, inl, inr, refl, sym, ap, subst, arith, append-nil, length-append}
use Rattle.std.proofs.lemmas.Bool.Decides.{nat_tests}
use Rattle.std.proofs.lemmas.List.{length-take, length-take-le}
use Rattle.std.specs.Io.KnownBytes.{Consumes}
use Rattle.sk_live_lines.specs.Heard.{Heard, AreWithin, IsRoomy, KeepsRoom, GoesOn, EndsHeard, EndsAmong}
use Rattle.sk_live_lines.proofs.Rooms.{roomy_turn}
use Rattle.sk_live_lines.proofs.TurnEnds.{told_bytes, nothing_left, none_taken, few_taken, failed_turn, late_turn, late_so, on_ok_all, both_on_ok, finished_turn, heard_turn, on_ok_so, if_err_so}
use Rattle.sk_live_lines.proofs.turns.turn.Goals as goal

pub returns-in-Err-clause-ended : goal.returns-in-Err-clause-ended
returns-in-Err-clause-ended g c first taken text at count =
    let fits : length taken ≤ 4294967295 = grind (arith, c.taken-left.ensures.value, c.taken-left.ensures.bound, count) in
    failed_turn g.R.Replier.replies g.R.Replier.ends first taken c.args.hearing.now.kept c.args.replier.now text at fits
    (g.S.Source.left c.args.source.now) (g.S.Source.left c.read.new.self) (g.K.Sink.written c.args.sink.now) c.in-Err.ensures.bytes

pub returns-then-count-eq0-clause-ended : goal.returns-then-count-eq0-clause-ended
returns-then-count-eq0-clause-ended g c first taken text at count =
    let fits : length taken ≤ 4294967295 = grind (arith, c.taken-left.ensures.value, c.taken-left.ensures.bound, count) in
    let ended = c.finish.ensures.ended first taken text at fits in
    let long : 0 < length c.read.new.buf = grind (arith, nat_tests, c.read.auto.buf, c.room.ensures.some, c.room.ensures.most) in
    finished_turn g.R.Replier.replies g.R.Replier.ends first taken c.args.hearing.now.kept c.args.replier.now text at
    (g.S.Source.left c.args.source.now) (g.S.Source.left c.read.new.self) (g.K.Sink.written c.args.sink.now) (g.K.Sink.written c.finish.new.sink) c.finish.result
    (subst (λ (n : ℕ). Consumes (g.S.Source.left c.args.source.now) (g.S.Source.left c.read.new.self) (take n c.read.new.buf)) c.if-count-eq0.true c.in-Ok.ensures.bytes.0)
    (c.in-Ok.ensures.bytes.1 c.if-count-eq0.true long) ended.0 ended.1 ended.2

pub returns-then-left-eq0-clause-ended : goal.returns-then-left-eq0-clause-ended
returns-then-left-eq0-clause-ended g c first taken text at count =
    let full : length taken ≡ 4294967295 = grind (arith, c.taken-left.ensures.value, c.taken-left.ensures.bound, c.if-left-eq0.true, count) in
    let size = length-take-le c.in-Ok.count c.read.new.buf c.in-Ok.ensures.bound.0 in
    let some : 0 < length (take c.in-Ok.count c.read.new.buf) = grind (arith, size, c.if-count-eq0.false) in
    late_turn g.R.Replier.replies g.R.Replier.ends first taken c.args.hearing.now.kept c.args.replier.now text at full
    (g.S.Source.left c.args.source.now) (g.S.Source.left c.read.new.self) (g.K.Sink.written c.args.sink.now) (take c.in-Ok.count c.read.new.buf) some c.in-Ok.ensures.bytes.0

pub returns-clause-goes_on : goal.returns-clause-goes_on
returns-clause-goes_on g c =
    let size = length-take-le c.in-Ok.count c.read.new.buf c.in-Ok.ensures.bound.0 in
    let some : 0 < length (take c.in-Ok.count c.read.new.buf) = grind (arith, size, c.if-count-eq0.false) in
    let counted = ap (λ (h : Heard). h.taken) c.count.ensures in
    let kept_is = ap (λ (h : Heard). h.kept) c.count.ensures in
    let sum : c.hear.new.self.taken ≡ c.args.hearing.now.taken + length (take c.in-Ok.count c.read.new.buf) = grind (arith, c.hear.ensures.taken, counted, size) in
    on_ok_so c.hear.result _ _
    (λ on. (
      take c.in-Ok.count c.read.new.buf,
      some,
      c.in-Ok.ensures.bytes.0,
      sum,
      subst (λ (k : List ℕ). GoesOn g.R.Replier.replies k c.args.replier.now (g.K.Sink.written c.args.sink.now) c.hear.new.self.kept c.hear.new.replier (g.K.Sink.written c.hear.new.sink) (take c.in-Ok.count c.read.new.buf)) kept_is on.0,
      subst (λ (k : List ℕ). KeepsRoom g.R.Replier.replies k c.args.replier.now (g.K.Sink.sure_room c.args.sink.now) c.hear.new.self.kept c.hear.new.replier (g.K.Sink.sure_room c.hear.new.sink) (take c.in-Ok.count c.read.new.buf)) kept_is on.1.0,
      on.1.1,
    ))
    (both_on_ok c.hear.result _ _ c.hear.ensures.goes_on (both_on_ok c.hear.result _ _ c.hear.ensures.room c.hear.ensures.handed_on))

pub returns-clause-ended : goal.returns-clause-ended
returns-clause-ended g c =
    let size = length-take-le c.in-Ok.count c.read.new.buf c.in-Ok.ensures.bound.0 in
    let kept_is = ap (λ (h : Heard). h.kept) c.count.ensures in
    if_err_so c.hear.result _ _
    (λ end heard first taken text at count.
    (let some : 0 < 4294967295 - c.taken-left.result = grind (arith, c.if-left-eq0.false) in
    let within = c.room.ensures.within some in
    let room = rw length-take at c.read.auto.buf in
    let least : c.in-Ok.count ≤ c.room.result = omega (arith, c.in-Ok.ensures.bound.0, room) in
    let sum = length-append taken (take c.in-Ok.count c.read.new.buf) in
    let fits : length (taken ++ take c.in-Ok.count c.read.new.buf) ≤ 4294967295 = grind (arith, sum, size, least, within, c.taken-left.ensures.value, c.taken-left.ensures.bound, count) in
    heard_turn g.R.Replier.replies g.R.Replier.ends first taken c.args.hearing.now.kept c.args.replier.now text at
    (g.S.Source.left c.args.source.now) (g.S.Source.left c.read.new.self) (g.K.Sink.written c.args.sink.now) (g.K.Sink.written c.hear.new.sink) (take c.in-Ok.count c.read.new.buf) end c.in-Ok.ensures.bytes.0 fits
    (subst (λ (k : List ℕ). EndsHeard g.R.Replier.replies g.R.Replier.ends k c.args.replier.now (g.K.Sink.written c.args.sink.now) (g.K.Sink.written c.hear.new.sink) (take c.in-Ok.count c.read.new.buf) end) kept_is heard)))
    c.hear.ensures.ended

pub returns-then-left-eq0-clause-too_long : goal.returns-then-left-eq0-clause-too_long
returns-then-left-eq0-clause-too_long g c late = (
  refl,
  λ first taken text at count.
      (let full : length taken ≡ 4294967295 = grind (arith, c.taken-left.ensures.value, c.taken-left.ensures.bound, c.if-left-eq0.true, count) in
      let size = length-take-le c.in-Ok.count c.read.new.buf c.in-Ok.ensures.bound.0 in
      let some : 0 < length (take c.in-Ok.count c.read.new.buf) = grind (arith, size, c.if-count-eq0.false) in
      late_so g.R.Replier.replies g.R.Replier.ends first taken c.args.hearing.now.kept c.args.replier.now text at full
      (g.S.Source.left c.args.source.now) (g.S.Source.left c.read.new.self) (take c.in-Ok.count c.read.new.buf) some c.in-Ok.ensures.bytes.0),
)

pub returns-then-count-eq0-clause-sure_sink : goal.returns-then-count-eq0-clause-sure_sink
returns-then-count-eq0-clause-sure_sink g c steady first taken most count has each failed =
    let fits : length taken ≤ 4294967295 = grind (arith, c.taken-left.ensures.value, c.taken-left.ensures.bound, count) in
    let room = rw length-take at c.read.auto.buf in
    let long : 0 < length c.read.new.buf = omega (arith, room, c.room.ensures.some, c.room.ensures.most) in
    let takes = subst (λ (n : ℕ). Consumes (g.S.Source.left c.args.source.now) (g.S.Source.left c.read.new.self) (take n c.read.new.buf)) c.if-count-eq0.true c.in-Ok.ensures.bytes.0 in
    let within = each [] [] takes (nothing_left (g.S.Source.left c.read.new.self) (c.in-Ok.ensures.bytes.1 c.if-count-eq0.true long)) in
    c.finish.ensures.sure steady first taken most fits (subst (λ (z : List ℕ). AreWithin g.R.Replier.replies first z most) (append-nil taken) within) has (cc)

pub returns-clause-sure_sink : goal.returns-clause-sure_sink
returns-clause-sure_sink g c steady first taken most count has each failed =
    let size = length-take-le c.in-Ok.count c.read.new.buf c.in-Ok.ensures.bound.0 in
    let kept_is = ap (λ (h : Heard). h.kept) c.count.ensures in
    let some : 0 < 4294967295 - c.taken-left.result = grind (arith, c.if-left-eq0.false) in
    let within = c.room.ensures.within some in
    let room = rw length-take at c.read.auto.buf in
    let least : c.in-Ok.count ≤ c.room.result = omega (arith, c.in-Ok.ensures.bound.0, room) in
    let sum = length-append taken (take c.in-Ok.count c.read.new.buf) in
    let fits : length (taken ++ take c.in-Ok.count c.read.new.buf) ≤ 4294967295 = grind (arith, sum, size, least, within, c.taken-left.ensures.value, c.taken-left.ensures.bound, count) in
    let told = told_bytes (g.S.Source.left c.read.new.self) in
    let roomy = roomy_turn g.R.Replier.replies g.R.Replier.ends c.args.hearing.now.kept c.args.replier.now (g.K.Sink.sure_room c.args.sink.now) first taken (take c.in-Ok.count c.read.new.buf) told.0 most fits has
    (each (take c.in-Ok.count c.read.new.buf) told.0 c.in-Ok.ensures.bytes.0 told.1) in
    c.hear.ensures.sure steady (subst (λ (k : List ℕ). IsRoomy g.R.Replier.replies k c.args.replier.now (g.K.Sink.sure_room c.args.sink.now) (take c.in-Ok.count c.read.new.buf)) (sym kept_is) roomy) failed

pub returns-clause-bound : goal.returns-clause-bound
returns-clause-bound g c =
    let counted = ap (λ (h : Heard). h.taken) c.count.ensures in
    let room = rw length-take at c.read.auto.buf in
    let least : c.in-Ok.count ≤ c.room.result = omega (arith, c.in-Ok.ensures.bound.0, room) in
    let some : 0 < 4294967295 - c.taken-left.result = grind (arith, c.if-left-eq0.false) in
    let within = c.room.ensures.within some in
    on_ok_all c.hear.result (c.hear.new.self.taken ≤ 4294967295) (grind (arith, c.hear.ensures.taken, counted, least, within, c.taken-left.ensures.value, c.taken-left.ensures.bound))

pub returns-in-Err-clause-few : goal.returns-in-Err-clause-few
returns-in-Err-clause-few g c = ([], omega arith, none_taken (g.S.Source.left c.args.source.now) (g.S.Source.left c.read.new.self) c.in-Err.ensures.bytes)

pub returns-then-count-eq0-clause-few : goal.returns-then-count-eq0-clause-few
returns-then-count-eq0-clause-few g c =
    let room = rw length-take at c.read.auto.buf in
    few_taken 4096 (g.S.Source.left c.args.source.now) (g.S.Source.left c.read.new.self) c.in-Ok.count c.read.new.buf c.in-Ok.ensures.bound.0 (omega (arith, room, c.room.ensures.most)) c.in-Ok.ensures.bytes.0

pub returns-then-left-eq0-clause-few : goal.returns-then-left-eq0-clause-few
returns-then-left-eq0-clause-few g c =
    let room = rw length-take at c.read.auto.buf in
    few_taken 4096 (g.S.Source.left c.args.source.now) (g.S.Source.left c.read.new.self) c.in-Ok.count c.read.new.buf c.in-Ok.ensures.bound.0 (omega (arith, room, c.room.ensures.most)) c.in-Ok.ensures.bytes.0

pub returns-clause-few : goal.returns-clause-few
returns-clause-few g c =
    let room = rw length-take at c.read.auto.buf in
    few_taken 4096 (g.S.Source.left c.args.source.now) (g.S.Source.left c.read.new.self) c.in-Ok.count c.read.new.buf c.in-Ok.ensures.bound.0 (omega (arith, room, c.room.ensures.most)) c.in-Ok.ensures.bytes.0

pub returns-in-Err-clause-sure_sink : goal.returns-in-Err-clause-sure_sink
returns-in-Err-clause-sure_sink g c steady first taken most count has each failed = cc

pub returns-then-left-eq0-clause-sure_sink : goal.returns-then-left-eq0-clause-sure_sink
returns-then-left-eq0-clause-sure_sink g c steady first taken most count has each failed = cc

pub returns-in-Err-clause-too_long : goal.returns-in-Err-clause-too_long
returns-in-Err-clause-too_long g c late = absurd (cc)

pub returns-then-count-eq0-clause-too_long : goal.returns-then-count-eq0-clause-too_long
returns-then-count-eq0-clause-too_long g c late = absurd (c.finish.ensures.late (cc))

pub returns-clause-too_long : goal.returns-clause-too_long
returns-clause-too_long g c late = absurd (c.hear.ensures.late late)

pub returns-clause-steady : goal.returns-clause-steady
returns-clause-steady g c steady = on_ok_all c.hear.result (g.K.Sink.is_steady c.hear.new.sink) (c.hear.ensures.steady steady)

pub returns-then-count-eq0-clause-within : goal.returns-then-count-eq0-clause-within
returns-then-count-eq0-clause-within g c =
    let room = rw length-take at c.read.auto.buf in
    few_taken (4294967296 - c.args.hearing.now.taken) (g.S.Source.left c.args.source.now) (g.S.Source.left c.read.new.self) c.in-Ok.count c.read.new.buf c.in-Ok.ensures.bound.0
    (grind (arith, room, c.room.ensures.few, c.taken-left.ensures.value, c.taken-left.ensures.bound)) c.in-Ok.ensures.bytes.0

pub returns-then-left-eq0-clause-within : goal.returns-then-left-eq0-clause-within
returns-then-left-eq0-clause-within g c =
    let room = rw length-take at c.read.auto.buf in
    few_taken (4294967296 - c.args.hearing.now.taken) (g.S.Source.left c.args.source.now) (g.S.Source.left c.read.new.self) c.in-Ok.count c.read.new.buf c.in-Ok.ensures.bound.0
    (grind (arith, room, c.room.ensures.few, c.taken-left.ensures.value, c.taken-left.ensures.bound)) c.in-Ok.ensures.bytes.0

pub returns-clause-within : goal.returns-clause-within
returns-clause-within g c =
    let room = rw length-take at c.read.auto.buf in
    few_taken (4294967296 - c.args.hearing.now.taken) (g.S.Source.left c.args.source.now) (g.S.Source.left c.read.new.self) c.in-Ok.count c.read.new.buf c.in-Ok.ensures.bound.0
    (grind (arith, room, c.room.ensures.few, c.taken-left.ensures.value, c.taken-left.ensures.bound)) c.in-Ok.ensures.bytes.0

pub returns-in-Err-clause-within : goal.returns-in-Err-clause-within
returns-in-Err-clause-within g c = ([], omega arith, none_taken (g.S.Source.left c.args.source.now) (g.S.Source.left c.read.new.self) c.in-Err.ensures.bytes)

pub returns-in-Err-clause-done : goal.returns-in-Err-clause-done
returns-in-Err-clause-done g c done = absurd (cc)

pub returns-then-count-eq0-clause-done : goal.returns-then-count-eq0-clause-done
returns-then-count-eq0-clause-done g c done first taken text at =
    let long : 0 < length c.read.new.buf = grind (arith, nat_tests, c.read.auto.buf, c.room.ensures.some, c.room.ensures.most) in (
      [],
      omega arith,
      subst (λ (n : ℕ). Consumes (g.S.Source.left c.args.source.now) (g.S.Source.left c.read.new.self) (take n c.read.new.buf)) c.if-count-eq0.true c.in-Ok.ensures.bytes.0,
      inl (refl, c.in-Ok.ensures.bytes.1 c.if-count-eq0.true long),
    )

pub returns-then-left-eq0-clause-done : goal.returns-then-left-eq0-clause-done
returns-then-left-eq0-clause-done g c done = absurd (cc)

pub returns-clause-done : goal.returns-clause-done
returns-clause-done g c done first taken text at =
    let kept_is = ap (λ (h : Heard). h.kept) c.count.ensures in
    let size = length-take-le c.in-Ok.count c.read.new.buf c.in-Ok.ensures.bound.0 in
    let room = rw length-take at c.read.auto.buf in
    let ended = subst (λ (k : List ℕ). EndsAmong g.R.Replier.replies g.R.Replier.ends k c.args.replier.now (g.K.Sink.written c.args.sink.now) (g.K.Sink.written c.hear.new.sink) (take c.in-Ok.count c.read.new.buf)) kept_is (c.hear.ensures.at_line done) in (
      take c.in-Ok.count c.read.new.buf,
      omega (arith, size, room, c.in-Ok.ensures.bound.0, c.room.ensures.most),
      c.in-Ok.ensures.bytes.0,
      inr (ended first taken text at),
    )

pub returns-then-count-eq0-clause-read_failed : goal.returns-then-count-eq0-clause-read_failed
returns-then-count-eq0-clause-read_failed g c failed = absurd (c.finish.ensures.heard (cc))

pub returns-then-left-eq0-clause-read_failed : goal.returns-then-left-eq0-clause-read_failed
returns-then-left-eq0-clause-read_failed g c failed = absurd (cc)

pub returns-clause-read_failed : goal.returns-clause-read_failed
returns-clause-read_failed g c failed = absurd (c.hear.ensures.heard failed)

pub returns-in-Err-clause-read_failed : goal.returns-in-Err-clause-read_failed
returns-in-Err-clause-read_failed g c failed = (refl, refl, refl, c.in-Err.ensures.bytes)
