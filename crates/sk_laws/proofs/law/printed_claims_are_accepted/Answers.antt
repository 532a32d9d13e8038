use Rattle.std.proofs.Common.{inl, refl, sym, subst, List, ℕ, drop}
use Rattle.sk_base.specs.declared.Sketch.{Sketch}
use Rattle.sk_graph.specs.SketchGraph.{graph_of}
use Rattle.sk_graph.proofs.Soundness.{graph_is_sound}
use Rattle.sk_claims.specs.ClaimReading.{ReadsClaim}
use Rattle.sk_verify.specs.Failing.{IsAccepted}
use Rattle.sk_verify.specs.Texts.{verified_line}
use Rattle.sk_request.specs.declared.Command.{Command}
use Rattle.sk_answers.specs.declared.Status.TheVariants.{Done}
use Rattle.sk_cli.specs.Outcome.{IsAnswerOf}
use Rattle.sk_laws.specs.PrintedClaim.{printed_claim}
use Rattle.sk_laws.proofs.OneOutcome.{LowerLaws}
use Rattle.sk_laws.proofs.PrintedClaims.{printed_reads, printed_accepted}
use Rattle.sk_laws.proofs.PrintedOutcomes.{printed_of_one}
use Rattle.sk_laws.proofs.WhyEnds.{answer_about}
use Rattle.sk_laws.proofs.law.printed_claims_are_accepted.Goals as goal

pub returns : goal.returns
returns c =
    let sound = c.readable_is_sound.ensures.sound in
    let numbered = c.readable_is_sound.ensures.numbered in
    let few = c.legal_plan.ensures.steps in
    let laws : LowerLaws = record {
      sound = sound;
      front = record { one_front = c.one_front.ensures.one_front; one_refusal = c.one_front.ensures.one_refusal; not_both = c.one_front.ensures.not_both };
      made = c.datum_sketch_is_sound.ensures;
      reply = c.one_reply.ensures;
      spares = c.one_list_of_spares.ensures;
      derived = c.one_derived_text.ensures;
    } in
    record {
      printed = λ planning solving bytes planned solved status planned_by solved_by asks is asks' is' same outcome outcome'.
          (let plan = subst (λ (command : Command). IsAnswerOf command planned_by bytes status planned) is (answer_about planning bytes planned status planned_by outcome asks) in
          let solve = subst (λ (command : Command). IsAnswerOf command solved_by bytes Done solved) is' (answer_about solving bytes solved Done solved_by outcome' asks') in
          let of = printed_of_one c.one_answer.ensures.one_sketch c.one_answer.ensures.not_both c.one_judgement.ensures laws planned_by solved_by bytes planned solved status same plan solve in
          let s = of.sketch in
          let graph = graph_is_sound s (sound bytes s of.reads) in (
            s,
            of.plan,
            of.at,
            of.tolerance,
            of.reads,
            of.done,
            of.planned_is,
            of.solved_is,
            of.holds,
            printed_reads s (sound bytes s of.reads) (numbered bytes s of.reads) solving solved_by asks' of.plan of.at of.tolerance of.holds (few (graph_of s) of.plan graph of.holds.plan.legal),
            printed_accepted s (sound bytes s of.reads) (numbered bytes s of.reads) solving solved_by asks' of.plan of.at of.tolerance of.holds,
          ));
      reads = λ words bytes request s p at t asks reads holds.
          printed_reads s (sound bytes s reads) (numbered bytes s reads) words request asks p at t holds (few (graph_of s) p (graph_is_sound s (sound bytes s reads)) holds.plan.legal);
      accepted = λ words bytes request s p at t asks reads holds.
          printed_accepted s (sound bytes s reads) (numbered bytes s reads) words request asks p at t holds;
      verified = λ words asked bytes input request checks s p at t f asks reads holds asks' is front same rest.
          (let claim = printed_claim s p at t in
          let read = printed_reads s (sound bytes s reads) (numbered bytes s reads) words request asks p at t holds (few (graph_of s) p (graph_is_sound s (sound bytes s reads)) holds.plan.legal) in
          let accepted = printed_accepted s (sound bytes s reads) (numbered bytes s reads) words request asks p at t holds in
          inl (
            checks,
            asks',
            subst (λ (command : Command). IsAnswerOf command checks input Done (verified_line claim)) (sym is) (
              f,
              claim,
              record {
                sketch = front;
                claimed = subst (λ (z : Sketch). ReadsClaim z (drop f.used input) claim) (sym same) (subst (λ (text : List ℕ). ReadsClaim s text claim) (sym rest) read);
              },
              subst (λ (z : Sketch). IsAccepted z (graph_of z) claim) (sym same) accepted,
              refl,
            ),
          ));
    }
