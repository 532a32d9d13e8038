use Rattle.std.proofs.Common.{refl, sym, subst}
use Rattle.std.specs.Prelude.{IsNone}
use Rattle.std.proofs.lemmas.Result.{IfOk-weaker}
use Rattle.sk_base.specs.declared.Graph.{Graph}
use Rattle.sk_graph.specs.SketchGraph.{graph_of}
use Rattle.sk_graph.proofs.Soundness.{graph_is_sound}
use Rattle.sk_measure.specs.Placing.{PlacesExactly}
use Rattle.sk_verify.specs.Failing.{AllTold}
use Rattle.sk_verify.proofs.Complete.{told_exactly}
use Rattle.sk_answers.specs.declared.answer.Answer.{Answer}
use Rattle.sk_answers.specs.MeasureAnswer.{IsMeasuredThere, IsMeasurement}
use Rattle.sk_answers.proofs.MeasureTold.{as_measurement}
use Rattle.sk_answers.proofs.measure.measurement.Goals as goal

pub measured_there-requires-clause-placed : goal.measured_there-requires-clause-placed
measured_there-requires-clause-placed c =
    let s = c.args.s.now in
    let all : AllTold c.args.claim.now s.elements = c.unplaced.ensures.none.0 (subst (λ o. IsNone o) (sym c.in-None.is) refl) in
    subst (λ (g : Graph). PlacesExactly g c.args.claim.now.at) (sym c.in_ok-graph-in-None.ensures.graph)
    (told_exactly s (graph_of s) refl (graph_is_sound s c.requires.sound) c.args.claim.now c.requires.fits all)

pub returns-in_ok-graph-in-None : goal.returns-in_ok-graph-in-None
returns-in_ok-graph-in-None c =
    let s = c.args.s.now in
    let claim = c.args.claim.now in
    let all : AllTold claim s.elements = c.unplaced.ensures.none.0 (subst (λ o. IsNone o) (sym c.in-None.is) refl) in
    IfOk-weaker c.measured_there.result (λ (answer : Answer). IsMeasuredThere c.args.limit s claim.at answer.status answer.text) (λ (answer : Answer). IsMeasurement c.args.limit s claim answer.status answer.text)
    (λ answer there. as_measurement c.args.limit s claim answer.status answer.text all there) c.measured_there.ensures
