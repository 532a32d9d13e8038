use Rattle.std.proofs.Common.{◌-◌, ◌+◌, ◌<◌, ◌≤◌, length, refl, arith, length-append}
use Rattle.std.proofs.lemmas.List.{length-take}
use Rattle.sk_io.specs.Memory.{to_come}
use Rattle.sk_io.proofs.Passed.{none_listed, still_none, some_sure, room_after}
use Rattle.sk_io.proofs.mem_sink.MemSinkSink.write.Goals as goal
use Rattle.sk_io.proofs.mem_sink.MemSinkSink.write.Goals.{then-len-self-via-then-len-self, then-len-self-via-else-len-self+then-is_listed}

pub returns-then-len-self-clause-sure : goal.returns-then-len-self-clause-sure
returns-then-len-self-clause-sure c few =
    let some : 0 < length c.args.piece.now = grind (arith, c.if-is_empty.false, c.is_empty.ensures) in
    let sure = some_sure (to_come c.self.inside.calls c.self.inside.fails) (c.self.inside.room - length c.self.inside.bytes.items) (length c.args.piece.now) some (rw (← c.self.view_is) at few) in
    elim c.then-len-self.branch [
      | then-len-self-via-then-len-self w ↦ absurd (omega (arith, some, sure.1, w.if-len-self.true, c.len.ensures))
      | then-len-self-via-else-len-self+then-is_listed w ↦
          let listed = rw (w.as_slice.ensures, c.saturating_add-self-inside.ensures) at w.is_listed.ensures.0 w.if-is_listed.true in
          absurd (none_listed c.self.inside.calls c.self.inside.fails sure.0 listed)
    ]

pub returns-clause-sure : goal.returns-clause-sure
returns-clause-sure c few =
    let some : 0 < length c.args.piece.now = grind (arith, c.if-is_empty.false, c.is_empty.ensures) in
    let sure = some_sure (to_come c.self.inside.calls c.self.inside.fails) (c.self.inside.room - length c.self.inside.bytes.items) (length c.args.piece.now) some (rw (← c.self.view_is) at few) in
    let none = rw (← c.saturating_add-self-inside.ensures) at (still_none c.self.inside.calls c.self.inside.fails sure.0) in
    let items = rw c.unwrap.ensures at c.extend_from_slice.ensures.items in
    let room : c.self.inside.room - length c.self.inside.bytes.items ≤ c.self.inside.room - length c.extend_from_slice.new.self.items + c.min-count.result =
    rw (items, length-append, length-take) (omega (arith, c.min-count.ensures, c.len-2.ensures)) in
    let after = room_after (to_come c.self.inside.calls c.self.inside.fails) (to_come c.saturating_add-self-inside.result c.self.inside.fails) _ _ _ none room in
    (rw (← c.self.view_is) refl, refl, rw (← c.self.view_is) after)
