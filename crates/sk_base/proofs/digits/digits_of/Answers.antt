use Rattle.std.proofs.Common.{arith}
use Rattle.sk_base.proofs.Decimals.{is_digits_all, below_power}
use Rattle.sk_base.proofs.digits.digits_of.Goals as goal

pub decimal-requires-clause-digits : goal.decimal-requires-clause-digits
decimal-requires-clause-digits c = (is_digits_all c.args.most c.args.bytes.now cc).0

pub decimal-requires-clause-short : goal.decimal-requires-clause-short
decimal-requires-clause-short c =
    let short = (is_digits_all c.args.most c.args.bytes.now cc).1 in omega arith

pub returns-then-is_digits-clause-below : goal.returns-then-is_digits-clause-below
returns-then-is_digits-clause-below c =
    let is = is_digits_all c.args.most c.args.bytes.now cc in
    let below = below_power c.args.most c.args.bytes.now is.0 is.1 in omega arith
