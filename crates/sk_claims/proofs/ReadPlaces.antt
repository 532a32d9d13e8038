-- What was read of places, line by line, and the one answer to their text.
use Rattle.std.proofs.Common.{◌≡◌, ◌⊎◌, inl, inr, ℕ, ◌+◌, List, length, Option, Some, None, refl, sym, ap, subst, ◌∙◌, arith}
use Rattle.sk_base.specs.declared.Sketch.{Sketch}
use Rattle.sk_lines.specs.declared.Code.{Code}
use Rattle.sk_lines.specs.declared.Code.TheVariants.{E16}
use Rattle.sk_lines.specs.declared.ReadError.{ReadError}
use Rattle.sk_lines.specs.declared.ReadError.TheVariants.{Refused, NoMemory}
use Rattle.sk_lines.specs.ByteCodes.{byte_rows}
use Rattle.sk_lines.specs.LineCodes.{LeadTo, IsLineRefusal}
use Rattle.sk_lines.specs.Lines.{lines_in}
use Rattle.sk_lines.proofs.LineFaults.{IsClean, IsFault, clean_or_fault, no_fault, one_fault}
use Rattle.sk_lines.proofs.FirstCodes.{code_behind}
use Rattle.sk_lines.proofs.Leading.{led_along, refused_along}
use Rattle.sk_lines.specs.Words.{words_in}
use Rattle.sk_claims.specs.declared.claim.Claim.{Claim}
use Rattle.sk_claims.specs.declared.place_line.PlacesSoFar.{PlacesSoFar}
use Rattle.sk_claims.specs.declared.place_line.Stage.{Stage}
use Rattle.sk_claims.specs.declared.place_line.Stage.TheVariants.{Among, Past}
use Rattle.sk_claims.specs.PlaceLines.{word_rows, code_of, with_line}
use Rattle.sk_claims.specs.PlaceReading.{nothing_yet, said_by, HaveNoCode, places_claimed, Adds, ReadsPlaces, RefusesPlaces, AtLine, NoEnd, IsPlacesRefusal}

abbrev end_of : Stage → Option Code
end_of Among = Some E16
end_of Past = None

-- the code at the end of the lines, where no `end` has come
abbrev end_code : PlacesSoFar → Option Code
end_code so_far = end_of so_far.stage

abbrev IsRead : Sketch → List ℕ → Type 0
IsRead s bytes = IsClean (code_of s) (with_line s) end_code nothing_yet (lines_in bytes)

abbrev IsFaulty : Sketch → List ℕ → ℕ → ℕ → Code → Type 0
IsFaulty s bytes n m code = IsFault (code_of s) (with_line s) end_code nothing_yet (lines_in bytes) n m code

missing : (stage : Stage) (code : Code) → end_of stage ≡ Some code → (stage ≡ Among) × (E16 ≡ code)
missing Among code is = (refl, cc)
missing Past code is = cc

passed : (stage : Stage) → end_of stage ≡ None → stage ≡ Past
passed Among is = cc
passed Past is = refl

-- a fault of the lines is a refusal of the text
refuses : (s : Sketch) (first : ℕ) (bytes : List ℕ) (n : ℕ) (code : Code) → IsFaulty s bytes (first + 1) n code → RefusesPlaces s first bytes n code
refuses s first bytes n code (inl at) =
    let count : first + length at.before + 1 ≡ n = omega (arith, at.number) in
    subst (λ (m : ℕ). RefusesPlaces s first bytes m code) count (AtLine at.before at.line code at.first)
refuses s first bytes n code (inr at) =
    let none = missing (said_by s (lines_in bytes)).stage code at.code_is in
    let count : first + length (lines_in bytes) + 1 ≡ n = omega (arith, at.number) in
    subst (λ (c : Code). RefusesPlaces s first bytes n c) none.1 (subst (λ (m : ℕ). RefusesPlaces s first bytes m E16) count (NoEnd at.clean none.0))

-- and a refusal is a fault
faulty : (s : Sketch) (first : ℕ) (bytes : List ℕ) (n : ℕ) (code : Code) → RefusesPlaces s first bytes n code → IsFaulty s bytes (first + 1) n code
faulty s first bytes n code (AtLine before line c found) = inl (record { before = before; line = line; first = found; number = omega arith })
faulty s first bytes n code (NoEnd clean among) = inr (record { clean = clean; code_is = ap end_of among; number = omega arith })

-- a line that is added has no code, and says just that
told : (s : Sketch) (so_far : PlacesSoFar) (line : List ℕ) (after : PlacesSoFar) → Adds s so_far line after → (code_of s so_far line ≡ None) × (after ≡ with_line s so_far line)
told s so_far line after adds = (code_behind (byte_rows line) (word_rows s so_far (words_in line)) adds.fine ∙ adds.words.clean, adds.words.read)

all_said : (s : Sketch) (lines : List (List ℕ)) (so_far : PlacesSoFar) → LeadTo (Adds s) nothing_yet lines so_far → HaveNoCode s lines × (said_by s lines ≡ so_far)
all_said s lines so_far led = led_along (code_of s) (Adds s) (with_line s) (told s) lines nothing_yet so_far led

pub read_refused : (s : Sketch) (first : ℕ) (bytes : List ℕ) (error : ReadError) → IsLineRefusal (code_of s) (Adds s) nothing_yet first (lines_in bytes) error → IsPlacesRefusal s first bytes error
read_refused s first bytes (Refused refusal) at = refuses s first bytes refusal.line refusal.code (inl (refused_along (code_of s) (Adds s) (with_line s) (told s) nothing_yet (lines_in bytes) first refusal.line refusal.code at))
read_refused s first bytes NoMemory at = tt

-- no `end` has come at the end
pub read_unended : (s : Sketch) (bytes : List ℕ) (so_far : PlacesSoFar) (first number : ℕ) → LeadTo (Adds s) nothing_yet (lines_in bytes) so_far → number ≡ first + length (lines_in bytes) → so_far.stage ≡ Among → RefusesPlaces s first bytes (number + 1) E16
read_unended s bytes so_far first number led count among =
    let all = all_said s (lines_in bytes) so_far led in
    refuses s first bytes (number + 1) E16 (inr (record { clean = all.0; code_is = ap end_code all.1 ∙ ap end_of among; number = omega (arith, count) }))

-- and where it has, the places were read
pub read_ended : (s : Sketch) (bytes : List ℕ) (so_far : PlacesSoFar) → LeadTo (Adds s) nothing_yet (lines_in bytes) so_far → so_far.stage ≡ Past → ReadsPlaces s bytes (places_claimed so_far.claim)
read_ended s bytes so_far led past =
    let all = all_said s (lines_in bytes) so_far led in
    record { clean = all.0; ended = ap (λ (c : PlacesSoFar). c.stage) all.1 ∙ past; said = ap (λ (c : PlacesSoFar). places_claimed c.claim) (sym all.1) }

-- ---- one answer

read : (s : Sketch) (bytes : List ℕ) → IsRead s bytes → (claim : Claim) × ReadsPlaces s bytes claim
read s bytes is =
    let said = said_by s (lines_in bytes) in
    (places_claimed said.claim, record { clean = is.clean; ended = passed said.stage is.ended; said = refl })

pub some_answer : (s : Sketch) (first : ℕ) (bytes : List ℕ) → ((claim : Claim) × ReadsPlaces s bytes claim) ⊎ ((n : ℕ) × ((code : Code) × RefusesPlaces s first bytes n code))
some_answer s first bytes =
    elim (clean_or_fault (code_of s) (with_line s) end_code (lines_in bytes) nothing_yet (first + 1)) [
      | inl is ↦ inl (read s bytes is)
      | inr (n, (code, fault)) ↦ inr (n, (code, refuses s first bytes n code fault))
    ]

pub one_claim : (s : Sketch) (bytes : List ℕ) (claim other : Claim) → ReadsPlaces s bytes claim → ReadsPlaces s bytes other → claim ≡ other
one_claim s bytes claim other left right = left.said ∙ sym right.said

pub one_refusal : (s : Sketch) (first : ℕ) (bytes : List ℕ) (n m : ℕ) (c d : Code) → RefusesPlaces s first bytes n c → RefusesPlaces s first bytes m d → (n ≡ m) × (c ≡ d)
one_refusal s first bytes n m c d left right =
    one_fault (code_of s) (with_line s) end_code nothing_yet (lines_in bytes) (first + 1) n m c d (faulty s first bytes n c left) (faulty s first bytes m d right)

pub not_both : (s : Sketch) (first : ℕ) (bytes : List ℕ) (claim : Claim) (n : ℕ) (code : Code) → ReadsPlaces s bytes claim → RefusesPlaces s first bytes n code → ⊥
not_both s first bytes claim n code reads refused =
    no_fault (code_of s) (with_line s) end_code nothing_yet (lines_in bytes) (first + 1) n code (record { clean = reads.clean; ended = ap end_of reads.ended }) (faulty s first bytes n code refused)
