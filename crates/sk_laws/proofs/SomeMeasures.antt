-- Something is measured of places that are read.
use Rattle.std.proofs.Common.{◌≡◌, inl, inr, refl, ℕ, List, [], ◌++◌}
use Rattle.std.specs.Prelude.{Contains}
use Rattle.sk_base.specs.declared.ConId.{ConId}
use Rattle.sk_base.specs.declared.Constraint.{Constraint}
use Rattle.sk_base.specs.declared.Placed.{Placed}
use Rattle.sk_base.specs.declared.Sketch.{Sketch}
use Rattle.sk_base.specs.SoundSketch.{IsSoundSketch}
use Rattle.sk_base.proofs.Members.{mapped_from}
use Rattle.sk_graph.specs.SketchGraph.{graph_of}
use Rattle.sk_graph.proofs.Soundness.{graph_is_sound}
use Rattle.sk_measure.specs.Placing.{PlacesExactly}
use Rattle.sk_claims.specs.declared.claim.Claim.{Claim}
use Rattle.sk_claims.specs.Claims.{IsFitting}
use Rattle.sk_verify.proofs.Complete.{told_exactly}
use Rattle.sk_verify.proofs.SomeFailures.{told_or_first}
use Rattle.sk_tolerance.specs.Tolerances.{everything}
use Rattle.sk_tolerance.specs.Turns.{constraint_signs}
use Rattle.sk_tolerance.proofs.SomeMeasures.{own_everything, searched, compared}
use Rattle.sk_report.specs.FaultLines.{passed_line, turned_line}
use Rattle.sk_answers.specs.MeasureReport.{measured_line, unplaced_line}
use Rattle.sk_report.specs.SolveReport.{tolerance_lines}
use Rattle.sk_answers.specs.declared.Status.{Status}
use Rattle.sk_answers.specs.declared.Status.TheVariants.{Done, StepFault, Tolerance, NotVerified}
use Rattle.sk_answers.specs.MeasureAnswer.{all_numbers, TellsOffs, IsFaultThere, IsMeasurement}
use Rattle.sk_answers.specs.OffsThere.{AreOffsPut}
use Rattle.sk_answers.proofs.OffLines.{some_offs}
use Rattle.sk_answers.proofs.MeasureTold.{as_measurement}
use Rattle.sk_laws.proofs.SomePlacements.{some_tolerance}

module _ (s : Sketch) (sketch : IsSoundSketch s) (at : Placed) (exactly : PlacesExactly (graph_of s) at) where
  pub numbers_there : (k : ConId) → Contains (all_numbers s) k → (c : Constraint) × Contains s.constraints c × (c.number ≡ k)
  numbers_there k k_in = mapped_from (λ (c : Constraint). c.number) s.constraints k k_in

  -- each constraint is off by so much
  pub some_lines : (lines : List ℕ) × AreOffsPut (measured_line s) s at (all_numbers s) lines
  some_lines = some_offs (measured_line s) s sketch at exactly (all_numbers s) numbers_there

  some_offs_told : (text : List ℕ) × TellsOffs s at text
  some_offs_told =
      let lines = some_lines in
      let t = some_tolerance at (graph_of s) (graph_is_sound s sketch) exactly in
      (lines.0 ++ tolerance_lines s t.0, record { lines = lines.0; least = t.0; offs = lines.1; tolerance = t.1; is = refl })

  -- nothing fails, or something is the first
  some_fault : (limit : ℕ) → (status : Status) × (line : List ℕ) × IsFaultThere limit s at status line
  some_fault limit =
      let g = graph_of s in
      elim (searched at limit (everything g) (own_everything g at (graph_is_sound s sketch) exactly)) [
        | inr (b, first) ↦ (Tolerance, passed_line s b, (b, first, refl))
        | inl all ↦ elim (compared (constraint_signs s at s.constraints)) [
          | inr (t, first) ↦ (StepFault, turned_line t, (all, (t, first, refl)))
          | inl drawn ↦ (Done, [], (all, drawn, refl))
        ]
      ]

pub some_measurement : (limit : ℕ) (s : Sketch) → IsSoundSketch s → (c : Claim) → IsFitting (graph_of s) c → (status : Status) × (text : List ℕ) × IsMeasurement limit s c status text
some_measurement limit s sketch c fits =
    elim (told_or_first c s.elements) [
      | inr (e, first) ↦ (NotVerified, unplaced_line s e, (e, first, refl))
      | inl told ↦ (
          let exactly = told_exactly s (graph_of s) refl (graph_is_sound s sketch) c fits told in
          let offs = some_offs_told s sketch c.at exactly in
          let fault = some_fault s sketch c.at exactly limit in
          let text = offs.0 ++ fault.1 in
          (fault.0, text, as_measurement limit s c fault.0 text told (record { offs = offs.0; line = fault.1; told = offs.1; fault = fault.2; is = refl })))
    ]
