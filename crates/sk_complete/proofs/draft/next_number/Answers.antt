use Rattle.std.proofs.Common.{◌-◌, ◌<◌, length, sym, arith}
use Rattle.sk_complete.proofs.CountingOn.{above_last, last_is}
use Rattle.sk_complete.proofs.draft.next_number.Goals as goal

pub returns-in_ok-number-in-Some-clause-above : goal.returns-in_ok-number-in-Some-clause-above
returns-in_ok-number-in-Some-clause-above c =
    let some : 0 < length c.args.constraints.now = c.in-Some.ensures.item.3.0 in
    let next = c.in_ok-number-in-Some.ensures.1 in
    above_last c.args.constraints.now c.in-Some.last.now c.in_ok-number-in-Some.number c.requires (length c.args.constraints.now - 1) (omega (arith, some))
    (sym c.in-Some.ensures.item.1) (omega (arith, next))

pub returns-in_ok-number-in-Some-clause-next : goal.returns-in_ok-number-in-Some-clause-next
returns-in_ok-number-in-Some-clause-next c =
    let some : 0 < length c.args.constraints.now = c.in-Some.ensures.item.3.0 in
    let next = c.in_ok-number-in-Some.ensures.1 in
    let last = last_is 0 c.args.constraints.now c.in-Some.last.now (length c.args.constraints.now - 1) (omega (arith, some)) (sym c.in-Some.ensures.item.1) in
    omega (arith, next, last)
