-- What `verify` answers to a sketch and the claim behind it.
use Rattle.std.specs.Prelude.{◌≡◌, ℕ, List, drop}
use Rattle.sk_base.specs.declared.Sketch.{Sketch}
use Rattle.sk_lines.specs.declared.Code.{Code}
use Rattle.sk_lang.specs.declared.Front.{Front}
use Rattle.sk_lines.specs.declared.Refusal.{Refusal}
use Rattle.sk_lang.specs.Front.{ReadsFront}
use Rattle.sk_graph.specs.SketchGraph.{graph_of}
use Rattle.sk_report.specs.RefusalLine.{refusal_line}
use Rattle.sk_claims.specs.declared.claim.Claim.{Claim}
use Rattle.sk_verify.specs.declared.failure.Failure.{Failure}
use Rattle.sk_claims.specs.ClaimReading.{ReadsClaim, RefusesClaim}
use Rattle.sk_verify.specs.Failing.{IsAccepted, FailsFirst}
use Rattle.sk_verify.specs.Texts.{failure_line, verified_line}
use Rattle.sk_answers.specs.declared.status.Status.{Status}
use Rattle.sk_answers.specs.declared.status.Status.TheVariants.{Done, Refused, NotVerified}
use Rattle.sk_answers.specs.Fronts.{IsRefusedAt}

-- the sketch is read as it stands up to its `end`, and what follows as the claim
pub record HasClaim (bytes : List ℕ) (front : Front) (claim : Claim) : Type 0 where
  pub sketch : ReadsFront bytes front
  pub claimed : ReadsClaim front.sketch (drop front.used bytes) claim

-- the claim is accepted
abbrev pub IsVerified : List ℕ → List ℕ → Type 0
IsVerified bytes text =
    (front : Front) × (claim : Claim) × HasClaim bytes front claim × IsAccepted front.sketch (graph_of front.sketch) claim × (text ≡ verified_line claim)

-- something of the claim fails, and the first that does is named
abbrev pub IsNotVerified : List ℕ → List ℕ → Type 0
IsNotVerified bytes text =
    (front : Front) × (claim : Claim) × (f : Failure) × HasClaim bytes front claim × FailsFirst front.sketch (graph_of front.sketch) claim f
    × (text ≡ failure_line front.sketch f)

-- the claim is accepted, or the first that fails is named
abbrev pub IsJudged : Sketch → Claim → Status → List ℕ → Type 0
IsJudged s claim Done text = IsAccepted s (graph_of s) claim × (text ≡ verified_line claim)
IsJudged s claim NotVerified text = (f : Failure) × FailsFirst s (graph_of s) claim f × (text ≡ failure_line s f)
IsJudged s claim status text = ⊥

-- the text behind a sketch is refused as a claim, on a line that is counted from the first of the whole text
abbrev pub RefusesClaimBehind : Front → List ℕ → ℕ → Code → Type 0
RefusesClaimBehind front = RefusesClaim front.sketch front.lines

-- a line of the sketch or one of the claim is refused
abbrev pub IsVerifyRefusal : List ℕ → List ℕ → Type 0
IsVerifyRefusal bytes text = (r : Refusal) × IsRefusedAt RefusesClaimBehind bytes r × (text ≡ refusal_line r)

-- what `verify` answers to an input
abbrev pub IsVerifyAnswer : List ℕ → Status → List ℕ → Type 0
IsVerifyAnswer bytes Done text = IsVerified bytes text
IsVerifyAnswer bytes NotVerified text = IsNotVerified bytes text
IsVerifyAnswer bytes Refused text = IsVerifyRefusal bytes text
IsVerifyAnswer bytes status text = ⊥
