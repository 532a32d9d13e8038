use Rattle.std.proofs.Common.{◌++◌, ◌<◌, ◌≤◌, suc, length, take, arith, length-append}
use Rattle.std.proofs.lemmas.Grind.{common_steps}
use Rattle.std.proofs.lemmas.List.{length-take}
use Rattle.sk_io.proofs.Moved.{Consumes-more}
use Rattle.sk_io.proofs.Reading.{read_on_only}
use Rattle.sk_io.proofs.source.read_all.Goals as goal

pub returns-in_err-put-clause-few : goal.returns-in_err-put-clause-few
returns-in_err-put-clause-few g c =
    let room = rw length-take at c.read.auto.buf in
    let size : length (c.loop-chunk.text ++ take c.in_ok-count.count c.read.new.buf) ≤ c.args.most =
    rw (length-append, length-take) (omega (arith, room, c.in_ok-count.ensures.bound, c.loop-chunk.invariant.few, c.min-room.ensures, c.len-in-loop-chunk.ensures)) in
    (_, size, Consumes-more _ _ _ _ _ c.loop-chunk.invariant.taken c.in_ok-count.ensures.bytes.0)

pub returns-in_err-put-clause-reads : goal.returns-in_err-put-clause-reads
returns-in_err-put-clause-reads g c =
    let some : 0 < c.in_ok-count.count = grind (arith, c.if-count-eq0.false) in
    let (count, given) = c.loop-chunk.invariant.reads in
    read_on_only g.S.Source.is_read_on g.S.Source.is_read_last (suc count) c.args.source.now c.read.new.self (c.loop-chunk.source, given, c.in_ok-count.ensures.on some)

pub loop-chunk-preserved : goal.loop-chunk-preserved
loop-chunk-preserved g c =
    let here = c.loop-chunk.invariant in
    let room = rw length-take at c.read.auto.buf in
    let some : 0 < c.in_ok-count.count = grind (arith, c.if-count-eq0.false) in
    let (count, given) = here.reads in
    let taken = Consumes-more _ _ _ _ _ here.taken c.in_ok-count.ensures.bytes.0 in
    record {
      few = grind (arith, common_steps);
      chunk = grind (arith, common_steps);
      taken = grind (arith, common_steps);
      kept = grind (arith, c.in_ok-count.ensures.fault.later, c.in_ok-count.ensures.fault.told, here.kept);
      reads = (suc count, (c.loop-chunk.source, given, c.in_ok-count.ensures.on some));
      sure = λ is. (c.in_ok-count.ensures.sure (here.sure is)).0;
    }
