-- What a reason tells, by what is known of the sketch.
use Rattle.std.proofs.Common.{◌≡◌, ◌≢◌, ◌≤◌, Bool, List, refl, ap, sym, subst}
use Rattle.std.specs.Prelude.{◌↔◌, Some, IsTrue}
use Rattle.sk_base.specs.declared.Graph.{Graph}
use Rattle.sk_base.specs.declared.Sketch.{Sketch}
use Rattle.sk_graph.specs.SketchGraph.{graph_of}
use Rattle.sk_verdict.specs.declared.Judgement.{Judgement}
use Rattle.sk_verdict.specs.declared.Part.{Part}
use Rattle.sk_plan.specs.Judged.{IsTheJudgement}
use Rattle.sk_plan.proofs.TheJudgement.{one_judgement}
use Rattle.sk_complete.specs.declared.completion.Completion.TheVariants.{Without}
use Rattle.sk_complete.specs.declared.completion.Reason.{Reason}
use Rattle.sk_complete.specs.declared.completion.Reason.TheVariants.{Over, Lines, Angles, Enough, Stuck}
use Rattle.sk_complete.specs.Rings.{IsRing, HasRing}
use Rattle.sk_complete.specs.Weights.{weight_together, due_for}
use Rattle.sk_complete.specs.Completions.{HasLinesAlone, Tells}

-- a ring of the parts of its judgement is one of the sketch
pub ring_told : (s : Sketch) (j : Judgement) (h : Graph) (ps : List Part) (b : Bool) → IsTheJudgement (graph_of s) j → h ≡ graph_of s → ps ≡ j.parts → (IsTrue b ↔ IsRing h ps) → IsTrue b ↔ HasRing s
ring_told s j h ps b judged graph parts told = (
  (λ is. (j, judged, subst (λ (qs : List Part). IsRing (graph_of s) qs) parts (subst (λ (g : Graph). IsRing g ps) graph (told.0 is)))),
  (λ ring. (
      let (k, other, there) = ring in
      let same : k ≡ j = one_judgement (graph_of s) k j other judged in
      told.1 (subst (λ (g : Graph). IsRing g ps) (sym graph) (subst (λ (qs : List Part). IsRing (graph_of s) qs) (sym parts) (subst (λ (z : Judgement). IsRing (graph_of s) z.parts) same there))))),
)

-- what is found before any search tells what its reason says
pub found_tells : (s : Sketch) (why : Reason) → Some why ≢ Some Over → ((Some why ≡ Some Lines) ↔ HasLinesAlone s) → ((Some why ≡ Some Angles) ↔ ((¬ HasLinesAlone s) × HasRing s))
    → ((Some why ≡ Some Enough) ↔ ((¬ HasLinesAlone s) × (¬ HasRing s) × (due_for s ≤ weight_together s.constraints))) → Some why ≢ Some Stuck → Tells s why
found_tells s Over not_over lines angles enough not_stuck = absurd (not_over refl)
found_tells s Lines not_over lines angles enough not_stuck = lines.0 refl
found_tells s Angles not_over lines angles enough not_stuck = (angles.0 refl).1
found_tells s Enough not_over lines angles enough not_stuck = (enough.0 refl).2
found_tells s Stuck not_over lines angles enough not_stuck = absurd (not_stuck refl)

-- a reason that is found is the one that is answered
pub as_answered : (P : Type 0) (why other : Reason) → ((Some why ≡ Some other) ↔ P) → (Without why ≡ Without other) ↔ P
as_answered P why other told = (
  (λ is. (let same : why ≡ other = cc in told.0 (ap (λ (r : Reason). Some r) same))),
  (λ holds. (let is = told.1 holds in let same : why ≡ other = cc in ap (λ (r : Reason). Without r) same)),
)
