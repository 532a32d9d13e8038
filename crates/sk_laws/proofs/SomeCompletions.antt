-- A completion is given of each sketch, or it is told why there is none.
use Rattle.std.proofs.Common.{◌≡◌, ◌⊎◌, inl, inr, refl, ℕ, ◌<◌, ◌≤◌, List, length, arith}
use Rattle.std.proofs.lemmas.Bool.{cases_lt}
use Rattle.sk_base.specs.declared.Element.{Element}
use Rattle.sk_base.specs.declared.Shape.{Shape}
use Rattle.sk_base.specs.declared.Shape.TheVariants.{Point, Line, Circle}
use Rattle.sk_base.specs.declared.Sketch.{Sketch}
use Rattle.sk_base.specs.Drawn.{IsLine}
use Rattle.sk_base.specs.SoundSketch.{IsSoundSketch}
use Rattle.sk_base.proofs.Deciding.{Decided, both, all_decided, below_decided}
use Rattle.sk_graph.specs.SketchGraph.{graph_of}
use Rattle.sk_lang.specs.Reading.{Reads}
use Rattle.sk_plan.specs.Judged.{IsTheJudgement, IsWell}
use Rattle.sk_verdict.specs.declared.Judgement.{Judgement}
use Rattle.sk_verdict.specs.declared.Verdict.{Verdict}
use Rattle.sk_verdict.specs.declared.Verdict.TheVariants.{Well, Over, Several}
use Rattle.sk_complete.specs.declared.Completion.{Completion}
use Rattle.sk_complete.specs.declared.Completion.TheVariants.{Done, Without}
use Rattle.sk_complete.specs.declared.Reason.TheVariants as reason
use Rattle.sk_complete.specs.Weights.{weight_together, due_for}
use Rattle.sk_complete.specs.Completions.{HasLinesAlone, HasVerdict}
use Rattle.sk_complete.specs.Rings.{HasRing}
use Rattle.sk_complete.proofs.Extending.{completes_itself}
use Rattle.sk_complete.proofs.Hopeless.{few_lines}
use Rattle.sk_complete.proofs.SettledRings.{ring_decided}
use Rattle.sk_complete.proofs.Verdicts.{over_not_well, over_not_several, several_not_well, well_not_several, never_over}
use Rattle.sk_cli.specs.CompleteAnswer.{IsCompletionGiven, IsGiven, IsCompleteAnswer, completion_status}

line_decided : (shape : Shape) → Decided (IsLine shape)
line_decided (Point x y) = inr (λ h. h)
line_decided (Line x1 y1 x2 y2) = inl tt
line_decided (Circle x y r) = inr (λ h. h)

lines_decided : (s : Sketch) → Decided (HasLinesAlone s)
lines_decided s = both (below_decided 2 (length s.elements)) (all_decided (λ (e : Element). IsLine e.shape) (λ e. line_decided e.shape) s.elements)

-- of a sketch of several parts
of_several : (s : Sketch) → HasVerdict (graph_of s) Several → (¬ IsWell (graph_of s)) → (¬ HasVerdict (graph_of s) Over) → Decided (HasLinesAlone s) → Decided (HasRing s)
    → (weight_together s.constraints < due_for s) ⊎ (due_for s ≤ weight_together s.constraints) → (c : Completion) × IsCompletionGiven s c
of_several s several not_well not_over (inl lines) ring weight = (
  Without reason.Lines,
  record {
    completes = (not_well, lines);
    over = ((λ same. absurd (cc)), (λ over. absurd (not_over over)));
    lines = ((λ same. (not_over, lines)), (λ told. refl));
    angles = ((λ same. absurd (cc)), (λ told. absurd (told.1 lines)));
    enough = ((λ same. absurd (cc)), (λ told. absurd (told.1 lines)));
  },
)
of_several s several not_well not_over (inr others) (inl ring) weight = (
  Without reason.Angles,
  record {
    completes = (not_well, ring);
    over = ((λ same. absurd (cc)), (λ over. absurd (not_over over)));
    lines = ((λ same. absurd (cc)), (λ told. absurd (others told.1)));
    angles = ((λ same. (several, others, ring)), (λ told. refl));
    enough = ((λ same. absurd (cc)), (λ told. absurd (told.2 ring)));
  },
)
of_several s several not_well not_over (inr others) (inr none) (inl less) = (
  Without reason.Stuck,
  record {
    completes = (not_well, less);
    over = ((λ same. absurd (cc)), (λ over. absurd (not_over over)));
    lines = ((λ same. absurd (cc)), (λ told. absurd (others told.1)));
    angles = ((λ same. absurd (cc)), (λ told. absurd (none told.2)));
    enough = ((λ same. absurd (cc)), (λ told. (let much = told.3 in absurd (omega (arith, less, much)))));
  },
)
of_several s several not_well not_over (inr others) (inr none) (inr enough) = (
  Without reason.Enough,
  record {
    completes = (not_well, enough);
    over = ((λ same. absurd (cc)), (λ over. absurd (not_over over)));
    lines = ((λ same. absurd (cc)), (λ told. absurd (others told.1)));
    angles = ((λ same. absurd (cc)), (λ told. absurd (none told.2)));
    enough = ((λ same. (several, others, none, enough)), (λ told. refl));
  },
)

pub some_completion : (s : Sketch) → IsSoundSketch s → 0 < length s.elements → (j : Judgement) → IsTheJudgement (graph_of s) j → (c : Completion) × IsCompletionGiven s c
some_completion s sound some j judged = by j.verdict refl
  where
    by : (v : Verdict) → j.verdict ≡ v → (c : Completion) × IsCompletionGiven s c
    by Over is = (
      Without reason.Over,
      record {
        completes = (over_not_well (graph_of s) j judged is, (j, judged, is));
        over = ((λ same. (j, judged, is)), (λ over. refl));
        lines = ((λ same. absurd (cc)), (λ told. absurd (told.0 (j, judged, is))));
        angles = ((λ same. absurd (cc)), (λ told. absurd (over_not_several (graph_of s) j judged is told.0)));
        enough = ((λ same. absurd (cc)), (λ told. absurd (over_not_several (graph_of s) j judged is told.0)));
      },
    )
    by Well is = (
      Done s,
      record {
        completes = completes_itself s s refl sound some (j, judged, is);
        over = ((λ same. absurd (cc)), (λ over. absurd (never_over (graph_of s) j Well judged is (λ same. cc) over)));
        lines = ((λ same. absurd (cc)), (λ told. absurd (few_lines s sound told.1.0 told.1.1 (j, judged, is))));
        angles = ((λ same. absurd (cc)), (λ told. absurd (well_not_several (graph_of s) j judged is told.0)));
        enough = ((λ same. absurd (cc)), (λ told. absurd (well_not_several (graph_of s) j judged is told.0)));
      },
    )
    by Several is =
        of_several s (j, judged, is) (several_not_well (graph_of s) j judged is) (never_over (graph_of s) j Several judged is (λ same. cc))
        (lines_decided s) (ring_decided s j judged) (cases_lt (weight_together s.constraints) (due_for s))

-- what is given is an answer
pub given_so : (bytes text : List ℕ) (s : Sketch) → Reads bytes s → (c : Completion) → IsGiven s c text → IsCompleteAnswer bytes (completion_status c) text
given_so bytes text s reads (Done t) given = (s, reads, (Done t, given, refl))
given_so bytes text s reads (Without why) given = (s, reads, (Without why, given, refl))
