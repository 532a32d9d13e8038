use Rattle.std.proofs.Common.{arith}
use Rattle.sk_request.specs.Asking.{LeadsWithZero}
use Rattle.sk_request.proofs.Strides.{if_spelled, no_zero_leads}
use Rattle.sk_request.proofs.settings.number_of.Goals as goal

pub returns-then-leads_with_zero-clause-none : goal.returns-then-leads_with_zero-clause-none
returns-then-leads_with_zero-clause-none c number few is =
    let small = c.requires.small in
    no_zero_leads c.args.value.now number (omega arith) is (c.leads_with_zero.ensures.0 c.if-leads_with_zero.true)

pub returns-clause-some : goal.returns-clause-some
returns-clause-some c =
    let plain : ¬ LeadsWithZero c.args.value.now = λ leads. (let yes = c.leads_with_zero.ensures.1 leads in cc) in
    (if_spelled c.args.most c.args.value.now c.digits_of.result (omega (arith, c.requires.some)) c.requires.small c.digits_of.ensures.value c.digits_of.ensures.below plain).0

pub returns-clause-none : goal.returns-clause-none
returns-clause-none c =
    let plain : ¬ LeadsWithZero c.args.value.now = λ leads. (let yes = c.leads_with_zero.ensures.1 leads in cc) in
    (if_spelled c.args.most c.args.value.now c.digits_of.result (omega (arith, c.requires.some)) c.requires.small c.digits_of.ensures.value c.digits_of.ensures.below plain).1
