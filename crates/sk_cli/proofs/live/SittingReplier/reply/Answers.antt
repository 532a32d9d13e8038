use Rattle.std.proofs.Common.{◌≡◌, refl, subst, inl, inr}
use Rattle.sk_session.specs.declared.Reply.{Reply}
use Rattle.sk_session.specs.declared.Reply.TheVariants as reply
use Rattle.sk_session.specs.Replies.{Answers}
use Rattle.sk_cli.specs.LiveAnswer.{Sat}
use Rattle.sk_cli.proofs.Sessions.{ends_or_not}
use Rattle.sk_cli.proofs.live.SittingReplier.reply.Goals as goal

pub returns-clause-said : goal.returns-clause-said
returns-clause-said c =
    let sound = rw c.sketch.ensures.sketch at c.sketch.ensures.sound in
    let says = rw c.sketch.ensures.sketch at c.in_ok-text.ensures in
    rw (← c.self.view_is) (refl, (c.in_ok-reply.reply, record { answers = c.in_ok-reply.ensures.answer; sound = sound; says = says }, c.goes_on.ensures.0 c.if-not-goes_on.false))

pub returns-then-not-goes_on-clause-ended : goal.returns-then-not-goes_on-clause-ended
returns-then-not-goes_on-clause-ended c =
    let ends : c.in_ok-reply.reply ≡ reply.End = elim (ends_or_not c.in_ok-reply.reply) [ inl is ↦ is | inr other ↦ absurd (let on = c.goes_on.ensures.1 other in cc) ] in
    (c.command.new.self, subst (λ (z : Sat). Answers z.state c.args.line.now reply.End c.command.new.self) c.self.view_is (subst (λ (z : Reply). Answers c.self.inside.session c.args.line.now z c.command.new.self) ends c.in_ok-reply.ensures.answer))
