-- The judgement on a family.
use Rattle.std.specs.Prelude.{◌≡◌, ◌↔◌, ◌<◌, nat_lt, Bool, if◌then◌else◌, List, length, Contains}
use Rattle.std.specs.List.{list_any}
use Rattle.sk_base.specs.declared.Graph.{Graph}
use Rattle.sk_family.specs.Body.{Body}
use Rattle.sk_verdict.specs.declared.part.Part.{Part}
use Rattle.sk_verdict.specs.declared.judgement.Judgement.{Judgement}
use Rattle.sk_verdict.specs.declared.judgement.Verdict.{Verdict}
use Rattle.sk_verdict.specs.declared.judgement.Verdict.TheVariants.{Well, Over, Several}
use Rattle.sk_verdict.specs.Ordering.{AreInOrder}
use Rattle.sk_verdict.specs.Parts.{IsPart}

-- it holds more than is due
abbrev pub IsOver : Part → Type 0
IsOver p = p.due < p.held

-- whether some part is over
abbrev pub some_over : List Part → Bool
some_over parts = list_any (λ (p : Part). nat_lt p.due p.held) parts

-- over where some part is over, else several where there is more than one part, else well
abbrev pub verdict_on : List Part → Verdict
verdict_on parts =
    if some_over parts then Over
    else (if nat_lt 1 (length parts) then Several else Well)

-- all parts of the family in order of their elements, and the verdict on them
pub record IsJudgement (g : Graph) (f : List Body) (j : Judgement) : Type 0 where
  pub parts : (p : Part) → Contains j.parts p ↔ IsPart g f p
  pub in_order : AreInOrder j.parts
  pub verdict : j.verdict ≡ verdict_on j.parts
