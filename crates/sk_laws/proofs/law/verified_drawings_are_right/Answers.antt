use Rattle.std.proofs.Common.{refl, subst, take, drop}
use Rattle.sk_graph.specs.SketchGraph.{graph_of}
use Rattle.sk_graph.proofs.Soundness.{graph_is_sound}
use Rattle.sk_claims.proofs.FittingClaims.{read_claim_fits}
use Rattle.sk_request.specs.declared.Command.{Command}
use Rattle.sk_verify.specs.AsClaimed.{plan_claimed}
use Rattle.sk_answers.specs.declared.Status.TheVariants.{Done}
use Rattle.sk_cli.specs.Outcome.{IsAnswerOf}
use Rattle.sk_laws.proofs.WhyEnds.{answer_about}
use Rattle.sk_laws.proofs.law.verified_drawings_are_right.Goals as goal

pub returns : goal.returns
returns c = λ words bytes text request outcome asks is.
    let (f, claim, has, accepted, text_is) = subst (λ (command : Command). IsAnswerOf command request bytes Done text) is (answer_about words bytes text Done request outcome asks) in
    let s = f.sketch in
    let g = graph_of s in
    let sound = graph_is_sound s (c.readable_is_sound.ensures.sound (take f.used bytes) s has.sketch.reads) in
    let fits = read_claim_fits s (drop f.used bytes) claim has.claimed in
    let legal = c.accepted.ensures.legal s g claim accepted in (
      f,
      claim,
      has,
      text_is,
      c.legal_plan.ensures.well g (plan_claimed g claim) sound legal,
      legal,
      c.accepted.ensures.drawn s g claim accepted,
      c.accepted.ensures.placed s g claim refl sound fits accepted,
      c.accepted.ensures.holds s g claim sound.blocks_rise sound.blocks_apart accepted,
      c.accepted.ensures.signs s g claim accepted,
    )
