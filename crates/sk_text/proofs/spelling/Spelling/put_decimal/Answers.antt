use Rattle.std.proofs.Common.{◌++◌, length, ap, ◌∙◌, arith, length-append}
use Rattle.std.specs.Fmt.{decimal}
use Rattle.sk_text.proofs.LastDigits.{last_digit, one_digit, has_room, below_wide, at_most_39, whole_short}
use Rattle.sk_text.proofs.spelling.Spelling.put_decimal.Goals as goal

pub put_byte-requires : goal.put_byte-requires
put_byte-requires c =
    has_room c.loop-rest.rest 48 c.loop-rest.self (decimal c.args.n ++ c.args.self.now) (below_wide c.loop-rest.rest (omega arith)) c.loop-rest.invariant (whole_short c.args.n c.args.self.now (omega arith) c.requires)

pub loop-rest-preserved : goal.loop-rest-preserved
loop-rest-preserved c =
    rw c.put_byte.ensures (last_digit c.loop-rest.rest c.loop-rest.self (decimal c.args.n ++ c.args.self.now) c.loop-rest-test.true (below_wide c.loop-rest.rest (omega arith)) c.loop-rest.invariant)

pub put_byte-requires-2 : goal.put_byte-requires-2
put_byte-requires-2 c =
    has_room c.loop-rest.rest 48 c.loop-rest.self (decimal c.args.n ++ c.args.self.now) (below_wide c.loop-rest.rest (omega arith)) c.loop-rest.invariant (whole_short c.args.n c.args.self.now (omega arith) c.requires)

pub returns-clause-front : goal.returns-clause-front
returns-clause-front c = c.put_byte-2.ensures ∙ one_digit c.loop-rest.rest c.loop-rest.self (decimal c.args.n ++ c.args.self.now) (omega arith) c.loop-rest.invariant

pub returns-clause-len : goal.returns-clause-len
returns-clause-len c =
    let front = c.put_byte-2.ensures ∙ one_digit c.loop-rest.rest c.loop-rest.self (decimal c.args.n ++ c.args.self.now) (omega arith) c.loop-rest.invariant in
    let lengths = ap length front ∙ length-append (decimal c.args.n) c.args.self.now in
    let short = at_most_39 c.args.n (omega arith) in omega (arith, lengths, short)
