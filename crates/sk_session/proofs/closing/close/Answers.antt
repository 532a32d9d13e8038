use Rattle.std.proofs.Common.{sym, subst}
use Rattle.std.specs.Prelude.{OnOk}
use Rattle.sk_family.proofs.Outcomes.{both_on_ok}
use Rattle.sk_session.specs.declared.closing.Closing.{Closing}
use Rattle.sk_session.specs.State.{EndsBy}
use Rattle.sk_session.proofs.closing.close.Goals as goal

pub returns-in-InAnyOrder-clause-ends : goal.returns-in-InAnyOrder-clause-ends
returns-in-InAnyOrder-clause-ends c =
    let f = c.args.family.now in
    let end = c.close_in_any_order.new.family in
    subst (λ (way : Closing). OnOk c.close_in_any_order.result (EndsBy way c.args.order c.args.graph.now f end)) (sym c.in-InAnyOrder.is)
    (both_on_ok c.close_in_any_order.result c.close_in_any_order.ensures.normal c.close_in_any_order.ensures.only (λ normal only.
    record { reached = c.close_in_any_order.ensures.reached; normal = normal c.requires.begun; only = only c.requires.rises c.requires.begun }))
