use Rattle.std.proofs.Common.{ap, arith}
use Rattle.std.specs.Str.Parse.{digits_value}
use Rattle.std.proofs.lemmas.List.{take_all}
use Rattle.std.proofs.lemmas.Int.Digits.{digits_value_more, digits_value-lt}
use Rattle.sk_base.proofs.Decimals.{digit_at, front_below}
use Rattle.sk_base.proofs.digits.decimal.Goals as goal

pub overflow_mul-value : goal.overflow_mul-value
overflow_mul-value c =
    let bytes = c.args.bytes.now in
    let small = front_below bytes c.loop-b.b-index c.requires.digits c.requires.short (omega arith) in omega arith

pub overflow_sub-b : goal.overflow_sub-b
overflow_sub-b c = (digit_at c.args.bytes.now c.loop-b.b-index c.requires.digits (omega arith)).0

pub overflow_add-value : goal.overflow_add-value
overflow_add-value c =
    let bytes = c.args.bytes.now in
    let small = front_below bytes c.loop-b.b-index c.requires.digits c.requires.short (omega arith) in
    let digit = digit_at bytes c.loop-b.b-index c.requires.digits (omega arith) in omega arith

pub loop-b-preserved : goal.loop-b-preserved
loop-b-preserved c =
    let bytes = c.args.bytes.now in
    let more = digits_value_more 10 bytes c.loop-b.b-index (omega arith) in
    let digit = digit_at bytes c.loop-b.b-index c.requires.digits (omega arith) in omega arith

pub returns-clause-below : goal.returns-clause-below
returns-clause-below c =
    let bytes = c.args.bytes.now in
    let below = digits_value-lt 10 bytes c.requires.digits in
    let whole = ap (digits_value 10) (take_all c.loop-b.b-index bytes (omega arith)) in omega (arith, below)
