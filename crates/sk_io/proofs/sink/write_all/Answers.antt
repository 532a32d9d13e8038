use Rattle.std.proofs.Common.{◌≡◌, ◌-◌, length, take, drop, arith}
use Rattle.std.proofs.lemmas.List.{length-drop, take_rest}
use Rattle.sk_io.proofs.Moved.{next_front}
use Rattle.sk_io.proofs.sink.write_all.Goals as goal

pub loop-done-preserved : goal.loop-done-preserved
loop-done-preserved g c =
    let piece : length (take (length c.args.bytes.now - c.loop-done.done) (drop c.loop-done.done c.args.bytes.now)) ≡ length c.args.bytes.now - c.loop-done.done =
    simp (take_rest, length-drop) in
    let count = c.in_ok-done.ensures.bound.at_most in
    record {
      within = omega (arith, piece, count);
      appended = next_front _ _ _ c.args.bytes.now c.loop-done.done c.in_ok-done.field-0 c.loop-done.invariant.appended c.in_ok-done.ensures.bytes;
      kept = grind (arith, c.in_ok-done.ensures.fault.later, c.in_ok-done.ensures.fault.told, c.loop-done.invariant.kept);
      sure = λ room.
          let before = c.loop-done.invariant.sure room in
          let after = c.in_ok-done.ensures.sure (omega (arith, piece, before, room)) in
          omega (arith, before, after.2);
      steady = λ before. c.in_ok-done.ensures.steady (c.loop-done.invariant.steady before);
    }
