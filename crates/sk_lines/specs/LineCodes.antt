-- Lines that have codes, each where those before it lead.
use Rattle.std.specs.Prelude.{◌≡◌, ℕ, ◌+◌, ⊤, List, [], ◌∷◌, ◌++◌, length, Option, Some, None}
use Rattle.sk_lines.specs.declared.code.Code.{Code}
use Rattle.sk_lines.specs.declared.code.ReadError.{ReadError}
use Rattle.sk_lines.specs.declared.code.ReadError.TheVariants.{Refused, NoMemory}

-- where the lines lead, by where each one leads
abbrev pub along : {P : Type 0} → (P → List ℕ → P) → P → List (List ℕ) → P
along lead place [] = place
along lead place (line ∷ lines) = along lead (lead place line) lines

-- no line has a code, each where those before it lead
abbrev pub HaveNone : {P : Type 0} → (P → List ℕ → Option Code) → (P → List ℕ → P) → P → List (List ℕ) → Type 0
HaveNone code_of lead place [] = ⊤
HaveNone code_of lead place (line ∷ lines) = (code_of place line ≡ None) × HaveNone code_of lead (lead place line) lines

-- the lines before this one have no code, and it has one where they lead
pub record HasFirst {P : Type 0} (code_of : P → List ℕ → Option Code) (lead : P → List ℕ → P) (start : P) (lines before : List (List ℕ)) (line : List ℕ) (code : Code) : Type 0 where
  pub after : List (List ℕ)
  pub parts : lines ≡ before ++ line ∷ after
  pub clean : HaveNone code_of lead start before
  pub code_is : code_of (along lead start before) line ≡ Some code

-- the lines lead from one place to another, by what each one may add
abbrev pub LeadTo : {P : Type 0} → (P → List ℕ → P → Type 0) → P → List (List ℕ) → P → Type 0
LeadTo adds place [] end = end ≡ place
LeadTo {P = P} adds place (line ∷ lines) end = (next : P) × adds place line next × LeadTo adds next lines end

-- the lines before this one lead to where it has the code; the lines are numbered from `first` + 1
pub record IsRefusedLine {P : Type 0} (code_of : P → List ℕ → Option Code) (adds : P → List ℕ → P → Type 0) (start : P) (first : ℕ) (lines : List (List ℕ)) (number : ℕ) (code : Code) : Type 0 where
  pub before : List (List ℕ)
  pub line : List ℕ
  pub after : List (List ℕ)
  pub place : P
  pub parts : lines ≡ before ++ line ∷ after
  pub led : LeadTo adds start before place
  pub code_is : code_of place line ≡ Some code
  pub count : number ≡ first + length before + 1

-- the error refuses such a line, or memory ran out
abbrev pub IsLineRefusal : {P : Type 0} → (P → List ℕ → Option Code) → (P → List ℕ → P → Type 0) → P → ℕ → List (List ℕ) → ReadError → Type 0
IsLineRefusal code_of adds start first lines (Refused refusal) = IsRefusedLine code_of adds start first lines refusal.line refusal.code
IsLineRefusal code_of adds start first lines NoMemory = ⊤
