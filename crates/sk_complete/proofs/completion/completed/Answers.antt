use Rattle.std.proofs.Common.{refl}
use Rattle.sk_graph.specs.SketchGraph.{graph_of}
use Rattle.sk_complete.specs.declared.completion.Reason.TheVariants.{Angles}
use Rattle.sk_complete.specs.Rings.{HasRing}
use Rattle.sk_complete.specs.Completions.{HasLinesAlone}
use Rattle.sk_complete.proofs.Reasons.{ring_told, found_tells, as_answered}
use Rattle.sk_complete.proofs.Verdicts.{several_not_well}
use Rattle.sk_complete.proofs.completion.completed.Goals as goal

pub hindrance-requires-clause-ring : goal.hindrance-requires-clause-ring
hindrance-requires-clause-ring c =
    ring_told c.args.s.now c.args.judgement.now c.in_ok-graph.graph c.as_slice-parts.result.now c.in_ok-is_told_twice.is_told_twice c.requires.judged c.in_ok-graph.ensures.graph c.as_slice-parts.ensures c.in_ok-is_told_twice.ensures

pub returns-in-Some-clause-completes : goal.returns-in-Some-clause-completes
returns-in-Some-clause-completes c =
    let told = c.in-Some.ensures in (
      several_not_well (graph_of c.args.s.now) c.args.judgement.now c.requires.judged c.requires.several,
      found_tells c.args.s.now c.in-Some.reason told.not_over told.lines told.angles told.enough told.not_stuck,
    )

pub returns-in-Some-clause-angles : goal.returns-in-Some-clause-angles
returns-in-Some-clause-angles c = as_answered ((¬ HasLinesAlone c.args.s.now) × HasRing c.args.s.now) c.in-Some.reason Angles c.in-Some.ensures.angles

pub returns-clause-completes : goal.returns-clause-completes
returns-clause-completes c = (several_not_well (graph_of c.args.s.now) c.args.judgement.now c.requires.judged c.requires.several, c.in_default.ensures.none refl)
