-- What `measure` answers, by its cases.
use Rattle.std.proofs.Common.{◌≡◌, ◌⊎◌, inl, inr, refl, ℕ, List}
use Rattle.sk_base.specs.declared.Elem.{Elem}
use Rattle.sk_base.specs.declared.Placed.{Placed}
use Rattle.sk_base.specs.declared.Sketch.{Sketch}
use Rattle.sk_claims.specs.declared.claim.Claim.{Claim}
use Rattle.sk_verify.specs.Failing.{AllTold, IsFirstUntold}
use Rattle.sk_answers.specs.MeasureReport.{unplaced_line}
use Rattle.sk_answers.specs.declared.status.Status.{Status}
use Rattle.sk_answers.specs.declared.status.Status.TheVariants.{Done, Refused, StepFault, Tolerance, NotVerified}
use Rattle.sk_answers.specs.MeasureAnswer.{IsFaultThere, IsMeasuredThere, IsMeasurement, IsMeasureRefusal, IsReadAndMeasured, IsMeasureAnswer}

-- a refusal, or what is told of places that are read
pub told_measure : (limit : ℕ) (bytes : List ℕ) (status : Status) (text : List ℕ) → IsMeasureAnswer limit bytes status text
    → ((status ≡ Refused) × IsMeasureRefusal bytes text) ⊎ IsReadAndMeasured limit bytes status text
told_measure limit bytes Refused text answer = inl (refl, answer)
told_measure limit bytes status text answer = inr answer

-- an element that isn't placed, or all are measured
pub told_measurement : (limit : ℕ) (s : Sketch) (c : Claim) (status : Status) (text : List ℕ) → IsMeasurement limit s c status text
    → ((status ≡ NotVerified) × ((e : Elem) × IsFirstUntold c s.elements e × (text ≡ unplaced_line s e))) ⊎ (AllTold c s.elements × IsMeasuredThere limit s c.at status text)
told_measurement limit s c NotVerified text measured = inl (refl, measured)
told_measurement limit s c status text measured = inr measured

-- nothing, something above the limit, or a turned sign
pub told_fault : (limit : ℕ) (s : Sketch) (at : Placed) (status : Status) (line : List ℕ) → IsFaultThere limit s at status line
    → ((status ≡ Done) × IsFaultThere limit s at Done line) ⊎ (((status ≡ Tolerance) × IsFaultThere limit s at Tolerance line) ⊎ ((status ≡ StepFault) × IsFaultThere limit s at StepFault line))
told_fault limit s at Done line fault = inl (refl, fault)
told_fault limit s at Tolerance line fault = inr (inl (refl, fault))
told_fault limit s at StepFault line fault = inr (inr (refl, fault))
told_fault limit s at status line fault = absurd fault

-- what is measured where all are told
pub as_measurement : (limit : ℕ) (s : Sketch) (c : Claim) (status : Status) (text : List ℕ) → AllTold c s.elements → IsMeasuredThere limit s c.at status text → IsMeasurement limit s c status text
as_measurement limit s c NotVerified text told there = absurd there.fault
as_measurement limit s c status text told there = (told, there)

pub as_answer : (limit : ℕ) (bytes : List ℕ) (status : Status) (text : List ℕ) → IsReadAndMeasured limit bytes status text → IsMeasureAnswer limit bytes status text
as_answer limit bytes Refused text read = absurd read.3.1.fault
as_answer limit bytes status text read = read
