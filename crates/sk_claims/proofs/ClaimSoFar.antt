-- What was read of a claim, line by line, and the one answer to its text.
use Rattle.std.proofs.Common.{◌≡◌, ◌⊎◌, inl, inr, ℕ, ◌+◌, List, length, Option, Some, None, refl, sym, ap, subst, ◌∙◌, arith}
use Rattle.sk_base.specs.declared.Placed.{Placed}
use Rattle.sk_base.specs.declared.Sketch.{Sketch}
use Rattle.sk_lines.specs.declared.Code.{Code}
use Rattle.sk_lines.specs.declared.Code.TheVariants.{E16}
use Rattle.sk_lines.specs.declared.ReadError.{ReadError}
use Rattle.sk_lines.specs.declared.ReadError.TheVariants.{Refused, NoMemory}
use Rattle.sk_lines.specs.ByteCodes.{byte_rows}
use Rattle.sk_lines.specs.LineCodes.{LeadTo, IsLineRefusal}
use Rattle.sk_lines.specs.Lines.{lines_in}
use Rattle.sk_lines.proofs.LineFaults.{IsClean, IsFault, clean_or_fault, no_fault, one_fault}
use Rattle.sk_lines.proofs.FirstCodes.{code_behind}
use Rattle.sk_lines.proofs.Leading.{led_along, refused_along}
use Rattle.sk_lines.specs.Words.{words_in}
use Rattle.sk_tree.specs.declared.PlanStep.{PlanStep}
use Rattle.sk_claims.specs.declared.claim.Claim.{Claim}
use Rattle.sk_claims.specs.declared.claim.Radius.{Radius}
use Rattle.sk_claims.specs.declared.claim_line.SoFar.{SoFar}
use Rattle.sk_claims.specs.declared.claim_line.Tolerances.{Tolerances}
use Rattle.sk_claims.specs.ClaimLines.{word_rows, code_of}
use Rattle.sk_claims.specs.ClaimReading.{nothing_yet, claimed_after, claimed_along, HaveNoCode, Adds, IsClaimOf, ReadsClaim, RefusesClaim, AtLine, NoTolerances, IsClaimRefusal}

abbrev end_of : Option Tolerances → Option Code
end_of None = Some E16
end_of (Some tolerances) = None

-- the code at the end of the lines, where no tolerances stand
abbrev pub end_code : SoFar → Option Code
end_code c = end_of c.tolerances

abbrev IsRead : Sketch → List ℕ → Type 0
IsRead s bytes = IsClean (code_of s) (claimed_after s) end_code nothing_yet (lines_in bytes)

abbrev IsFaulty : Sketch → List ℕ → ℕ → ℕ → Code → Type 0
IsFaulty s bytes n m code = IsFault (code_of s) (claimed_after s) end_code nothing_yet (lines_in bytes) n m code

missing : (t : Option Tolerances) (code : Code) → end_of t ≡ Some code → (t ≡ None) × (E16 ≡ code)
missing None code is = (refl, cc)
missing (Some t) code is = cc

standing : (t : Option Tolerances) → end_of t ≡ None → (tolerances : Tolerances) × (t ≡ Some tolerances)
standing None is = cc
standing (Some tolerances) is = (tolerances, refl)

-- a fault of the lines is a refusal of the text
refuses : (s : Sketch) (first : ℕ) (bytes : List ℕ) (n : ℕ) (code : Code) → IsFaulty s bytes (first + 1) n code → RefusesClaim s first bytes n code
refuses s first bytes n code (inl at) =
    let count : first + length at.before + 1 ≡ n = omega (arith, at.number) in
    subst (λ (m : ℕ). RefusesClaim s first bytes m code) count (AtLine at.before at.line code at.first)
refuses s first bytes n code (inr at) =
    let none = missing (claimed_along s nothing_yet (lines_in bytes)).tolerances code at.code_is in
    let count : first + length (lines_in bytes) + 1 ≡ n = omega (arith, at.number) in
    subst (λ (c : Code). RefusesClaim s first bytes n c) none.1 (subst (λ (m : ℕ). RefusesClaim s first bytes m E16) count (NoTolerances at.clean none.0))

-- and a refusal is a fault
faulty : (s : Sketch) (first : ℕ) (bytes : List ℕ) (n : ℕ) (code : Code) → RefusesClaim s first bytes n code → IsFaulty s bytes (first + 1) n code
faulty s first bytes n code (AtLine before line c found) = inl (record { before = before; line = line; first = found; number = omega arith })
faulty s first bytes n code (NoTolerances clean none) = inr (record { clean = clean; code_is = ap end_of none; number = omega arith })

-- a line that is added has no code, and claims just that
told : (s : Sketch) (so_far : SoFar) (line : List ℕ) (after : SoFar) → Adds s so_far line after → (code_of s so_far line ≡ None) × (after ≡ claimed_after s so_far line)
told s so_far line after adds = (code_behind (byte_rows line) (word_rows s so_far (words_in line)) adds.fine ∙ adds.words.clean, adds.words.claimed)

all_claimed : (s : Sketch) (lines : List (List ℕ)) (so_far : SoFar) → LeadTo (Adds s) nothing_yet lines so_far → HaveNoCode s nothing_yet lines × (claimed_along s nothing_yet lines ≡ so_far)
all_claimed s lines so_far led = led_along (code_of s) (Adds s) (claimed_after s) (told s) lines nothing_yet so_far led

pub read_refused : (s : Sketch) (first : ℕ) (bytes : List ℕ) (error : ReadError) → IsLineRefusal (code_of s) (Adds s) nothing_yet first (lines_in bytes) error → IsClaimRefusal s first bytes error
read_refused s first bytes (Refused refusal) at = refuses s first bytes refusal.line refusal.code (inl (refused_along (code_of s) (Adds s) (claimed_after s) (told s) nothing_yet (lines_in bytes) first refusal.line refusal.code at))
read_refused s first bytes NoMemory at = tt

-- the tolerances are missing at the end
pub read_unended : (s : Sketch) (bytes : List ℕ) (so_far : SoFar) (first number : ℕ) → LeadTo (Adds s) nothing_yet (lines_in bytes) so_far → number ≡ first + length (lines_in bytes) → so_far.tolerances ≡ None → RefusesClaim s first bytes (number + 1) E16
read_unended s bytes so_far first number led count none =
    let all = all_claimed s (lines_in bytes) so_far led in
    refuses s first bytes (number + 1) E16 (inr (record { clean = all.0; code_is = ap end_code all.1 ∙ ap end_of none; number = omega (arith, count) }))

-- and where they stand, the claim was read
pub read_ended : (s : Sketch) (bytes : List ℕ) (so_far : SoFar) (tolerances : Tolerances) → LeadTo (Adds s) nothing_yet (lines_in bytes) so_far → so_far.tolerances ≡ Some tolerances
    → ReadsClaim s bytes (record { steps = so_far.steps; at = so_far.at; radii = so_far.radii; t = tolerances.t; w = tolerances.w })
read_ended s bytes so_far tolerances led some =
    let all = all_claimed s (lines_in bytes) so_far led in
    let is : so_far ≡ claimed_along s nothing_yet (lines_in bytes) = sym all.1 in
    record {
      clean = all.0;
      read = record { steps = ap (λ (c : SoFar). c.steps) is; at = ap (λ (c : SoFar). c.at) is; radii = ap (λ (c : SoFar). c.radii) is; tolerances = ap (λ (c : SoFar). c.tolerances) all.1 ∙ some };
    }

-- ---- one answer

t_of : Option Tolerances → ℕ
t_of None = 0
t_of (Some tolerances) = tolerances.t

w_of : Option Tolerances → ℕ
w_of None = 0
w_of (Some tolerances) = tolerances.w

claim_of : List PlanStep → Placed → List Radius → ℕ → ℕ → Claim
claim_of steps at radii t w = record { steps = steps; at = at; radii = radii; t = t; w = w }

same_claim : (c : SoFar) (p q : Claim) → IsClaimOf c p → IsClaimOf c q → p ≡ q
unfolding t_of w_of claim_of
same_claim c p q left right =
    let tolerances = sym left.tolerances ∙ right.tolerances in
    ap (λ (steps : List PlanStep). claim_of steps p.at p.radii p.t p.w) (left.steps ∙ sym right.steps)
    ∙ ap (λ (at : Placed). claim_of q.steps at p.radii p.t p.w) (left.at ∙ sym right.at)
    ∙ ap (λ (radii : List Radius). claim_of q.steps q.at radii p.t p.w) (left.radii ∙ sym right.radii)
    ∙ ap (λ (t : ℕ). claim_of q.steps q.at q.radii t p.w) (ap t_of tolerances)
    ∙ ap (λ (w : ℕ). claim_of q.steps q.at q.radii q.t w) (ap w_of tolerances)

clean : (s : Sketch) (bytes : List ℕ) (claim : Claim) → ReadsClaim s bytes claim → IsRead s bytes
clean s bytes claim reads = record { clean = reads.clean; ended = ap end_of reads.read.tolerances }

read : (s : Sketch) (bytes : List ℕ) → IsRead s bytes → (claim : Claim) × ReadsClaim s bytes claim
read s bytes is =
    let c = claimed_along s nothing_yet (lines_in bytes) in
    let some = standing c.tolerances is.ended in (
      record { steps = c.steps; at = c.at; radii = c.radii; t = some.0.t; w = some.0.w },
      record { clean = is.clean; read = record { steps = refl; at = refl; radii = refl; tolerances = some.1 } },
    )

pub some_answer : (s : Sketch) (first : ℕ) (bytes : List ℕ) → ((claim : Claim) × ReadsClaim s bytes claim) ⊎ ((n : ℕ) × ((code : Code) × RefusesClaim s first bytes n code))
some_answer s first bytes =
    elim (clean_or_fault (code_of s) (claimed_after s) end_code (lines_in bytes) nothing_yet (first + 1)) [
      | inl is ↦ inl (read s bytes is)
      | inr (n, (code, fault)) ↦ inr (n, (code, refuses s first bytes n code fault))
    ]

pub one_claim : (s : Sketch) (bytes : List ℕ) (claim other : Claim) → ReadsClaim s bytes claim → ReadsClaim s bytes other → claim ≡ other
one_claim s bytes claim other left right = same_claim (claimed_along s nothing_yet (lines_in bytes)) claim other left.read right.read

pub one_refusal : (s : Sketch) (first : ℕ) (bytes : List ℕ) (n m : ℕ) (c d : Code) → RefusesClaim s first bytes n c → RefusesClaim s first bytes m d → (n ≡ m) × (c ≡ d)
one_refusal s first bytes n m c d left right =
    one_fault (code_of s) (claimed_after s) end_code nothing_yet (lines_in bytes) (first + 1) n m c d (faulty s first bytes n c left) (faulty s first bytes m d right)

pub not_both : (s : Sketch) (first : ℕ) (bytes : List ℕ) (claim : Claim) (n : ℕ) (code : Code) → ReadsClaim s bytes claim → RefusesClaim s first bytes n code → ⊥
not_both s first bytes claim n code reads refused =
    no_fault (code_of s) (claimed_after s) end_code nothing_yet (lines_in bytes) (first + 1) n code (clean s bytes claim reads) (faulty s first bytes n code refused)
