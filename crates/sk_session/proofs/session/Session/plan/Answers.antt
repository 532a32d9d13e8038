use Rattle.std.proofs.Common.{◌∙◌, subst, refl, inl}
use Rattle.sk_base.specs.declared.Sketch.{Sketch}
use Rattle.sk_plan.specs.PlanBy.{IsPlanBy}
use Rattle.sk_session.specs.State.{State}
use Rattle.sk_session.specs.Replies.{Plans}
use Rattle.sk_session.specs.declared.reply.Reply.TheVariants as reply
use Rattle.sk_session.proofs.session.Session.plan.Goals as goal

pub returns-in-Ok : goal.returns-in-Ok
returns-in-Ok c =
    let p = c.in-Ok.planned.plan in
    subst (λ (x : State). Plans x (reply.Planned p)) c.self.view_is
    (inl (p, refl, subst (λ (s : Sketch). IsPlanBy c.self.inside.order s p) (c.sketch.ensures ∙ c.self.invariant.sketch_is) c.in-Ok.ensures.plan))
