use Rattle.std.proofs.Common.{◌≡◌, ◌≢◌, ◌≤◌}
use Rattle.std.specs.Prelude.{◌↔◌}
use Rattle.std.proofs.lemmas.Result.{IfOk-weaker}
use Rattle.sk_graph.specs.SketchGraph.{graph_of}
use Rattle.sk_verdict.specs.declared.Verdict.TheVariants.{Well, Over, Several}
use Rattle.sk_complete.specs.declared.completion.Completion.{Completion}
use Rattle.sk_complete.specs.declared.completion.Completion.TheVariants.{Without}
use Rattle.sk_complete.specs.declared.completion.Reason.TheVariants as reason
use Rattle.sk_complete.specs.Rings.{HasRing}
use Rattle.sk_complete.specs.Weights.{weight_together, due_for}
use Rattle.sk_complete.specs.Completions.{HasLinesAlone, HasVerdict}
use Rattle.sk_complete.proofs.Extending.{completes_itself}
use Rattle.sk_complete.proofs.Hopeless.{few_lines}
use Rattle.sk_complete.proofs.Verdicts.{over_not_well, never_over, over_not_several, well_not_several}
use Rattle.sk_complete.proofs.completion.complete.Goals as goal

pub returns-in-Over-clause-completes : goal.returns-in-Over-clause-completes
returns-in-Over-clause-completes c = (
  over_not_well (graph_of c.args.s.now) c.in_ok-judgement.judgement c.in_ok-judgement.ensures c.in-Over.is,
  (c.in_ok-judgement.judgement, c.in_ok-judgement.ensures, c.in-Over.is),
)

pub returns-in-Well-clause-completes : goal.returns-in-Well-clause-completes
returns-in-Well-clause-completes c =
    completes_itself c.args.s.now c.in_ok-whole-in-Well.whole c.in_ok-whole-in-Well.ensures c.requires.sound c.requires.some
    (c.in_ok-judgement.judgement, c.in_ok-judgement.ensures, c.in-Well.is)

pub returns-in-Over-clause-lines : goal.returns-in-Over-clause-lines
returns-in-Over-clause-lines c = (
  λ is. absurd (cc),
  λ told. absurd (told.0 (c.in_ok-judgement.judgement, c.in_ok-judgement.ensures, c.in-Over.is)),
)

pub returns-in-Well-clause-lines : goal.returns-in-Well-clause-lines
returns-in-Well-clause-lines c = (
  λ is. absurd (cc),
  λ told. absurd (few_lines c.args.s.now c.requires.sound told.1.0 told.1.1 (c.in_ok-judgement.judgement, c.in_ok-judgement.ensures, c.in-Well.is)),
)

pub returns-clause-lines : goal.returns-clause-lines
returns-clause-lines c =
    IfOk-weaker c.completed.result (λ (d : Completion). (d ≡ Without reason.Lines) ↔ HasLinesAlone c.args.s.now)
    (λ (d : Completion). (d ≡ Without reason.Lines) ↔ ((¬ HasVerdict (graph_of c.args.s.now) Over) × HasLinesAlone c.args.s.now))
    (λ d lines. (
      (λ is. (
        (λ over. never_over (graph_of c.args.s.now) c.in_ok-judgement.judgement Several c.in_ok-judgement.ensures c.in-Several.is (λ same. cc) over),
        lines.0 is,
      )),
      (λ told. lines.1 told.1),
    ))
    c.completed.ensures.lines

pub returns-in-Well-clause-over : goal.returns-in-Well-clause-over
returns-in-Well-clause-over c = (
  λ is. absurd (cc),
  λ over. absurd (never_over (graph_of c.args.s.now) c.in_ok-judgement.judgement Well c.in_ok-judgement.ensures c.in-Well.is (λ same. cc) over),
)

pub returns-clause-over : goal.returns-clause-over
returns-clause-over c =
    IfOk-weaker c.completed.result (λ (d : Completion). d ≢ Without reason.Over)
    (λ (d : Completion). (d ≡ Without reason.Over) ↔ HasVerdict (graph_of c.args.s.now) Over)
    (λ d other. (
      (λ is. absurd (other is)),
      (λ over. absurd (never_over (graph_of c.args.s.now) c.in_ok-judgement.judgement Several c.in_ok-judgement.ensures c.in-Several.is (λ same. cc) over)),
    ))
    c.completed.ensures.not_over

pub returns-in-Over-clause-angles : goal.returns-in-Over-clause-angles
returns-in-Over-clause-angles c = (
  λ is. absurd (cc),
  λ told. absurd (over_not_several (graph_of c.args.s.now) c.in_ok-judgement.judgement c.in_ok-judgement.ensures c.in-Over.is told.0),
)

pub returns-in-Well-clause-angles : goal.returns-in-Well-clause-angles
returns-in-Well-clause-angles c = (
  λ is. absurd (cc),
  λ told. absurd (well_not_several (graph_of c.args.s.now) c.in_ok-judgement.judgement c.in_ok-judgement.ensures c.in-Well.is told.0),
)

pub returns-clause-angles : goal.returns-clause-angles
returns-clause-angles c =
    IfOk-weaker c.completed.result (λ (d : Completion). (d ≡ Without reason.Angles) ↔ ((¬ HasLinesAlone c.args.s.now) × HasRing c.args.s.now))
    (λ (d : Completion). (d ≡ Without reason.Angles) ↔ (HasVerdict (graph_of c.args.s.now) Several × (¬ HasLinesAlone c.args.s.now) × HasRing c.args.s.now))
    (λ d angles. (
      (λ is. (let told = angles.0 is in ((c.in_ok-judgement.judgement, c.in_ok-judgement.ensures, c.in-Several.is), told.0, told.1))),
      (λ told. angles.1 (told.1, told.2)),
    ))
    c.completed.ensures.angles

pub returns-in-Over-clause-enough : goal.returns-in-Over-clause-enough
returns-in-Over-clause-enough c = (
  λ is. absurd (cc),
  λ told. absurd (over_not_several (graph_of c.args.s.now) c.in_ok-judgement.judgement c.in_ok-judgement.ensures c.in-Over.is told.0),
)

pub returns-in-Well-clause-enough : goal.returns-in-Well-clause-enough
returns-in-Well-clause-enough c = (
  λ is. absurd (cc),
  λ told. absurd (well_not_several (graph_of c.args.s.now) c.in_ok-judgement.judgement c.in_ok-judgement.ensures c.in-Well.is told.0),
)

pub returns-clause-enough : goal.returns-clause-enough
returns-clause-enough c =
    IfOk-weaker c.completed.result
    (λ (d : Completion). (d ≡ Without reason.Enough) ↔ ((¬ HasLinesAlone c.args.s.now) × (¬ HasRing c.args.s.now) × (due_for c.args.s.now ≤ weight_together c.args.s.now.constraints)))
    (λ (d : Completion). (d ≡ Without reason.Enough) ↔ (HasVerdict (graph_of c.args.s.now) Several × (¬ HasLinesAlone c.args.s.now) × (¬ HasRing c.args.s.now) × (due_for c.args.s.now ≤ weight_together c.args.s.now.constraints)))
    (λ d enough. (
      (λ is. (let told = enough.0 is in ((c.in_ok-judgement.judgement, c.in_ok-judgement.ensures, c.in-Several.is), told.0, told.1, told.2))),
      (λ told. enough.1 (told.1, told.2, told.3)),
    ))
    c.completed.ensures.enough
