-- What was read of the text behind a sketch, line by line, as flips.
use Rattle.std.proofs.Common.{◌≡◌, ◌⊎◌, inl, inr, ℕ, ◌+◌, List, length, Option, None, Some, Result, Ok, Err, IsErr, IsErrAnd, IfErr, refl, sym, ap, subst, ◌∙◌, arith}
use Rattle.sk_base.specs.declared.Name.{Name}
use Rattle.sk_lines.specs.Words.{words_in}
use Rattle.sk_lines.specs.declared.Code.{Code}
use Rattle.sk_lines.specs.declared.Code.TheVariants.{E16}
use Rattle.sk_lines.specs.declared.ReadError.{ReadError}
use Rattle.sk_lines.specs.declared.ReadError.TheVariants as read
use Rattle.sk_lines.specs.ByteCodes.{byte_rows}
use Rattle.sk_lines.specs.Lines.{lines_in}
use Rattle.sk_lines.proofs.FirstCodes.{code_behind}
use Rattle.sk_lines.specs.LineCodes.{LeadTo, IsLineRefusal}
use Rattle.sk_lines.proofs.Leading.{led_along, refused_along}
use Rattle.sk_lines.proofs.LineFaults.{IsClean, IsFault, clean_or_fault, no_fault, one_fault}
use Rattle.sk_flips.specs.declared.flip_line.Place.{Place}
use Rattle.sk_flips.specs.declared.flip_line.Place.TheVariants.{Among, Past}
use Rattle.sk_flips.specs.declared.flip_line.SoFar.{SoFar}
use Rattle.sk_flips.specs.FlipLines.{word_rows, code_of, with_line}
use Rattle.sk_flips.specs.FlipReading.{nothing_yet, said_by, HaveNoCode, ReadsFlips, RefusesFlips, AtLine, NoEnd, IsFlipRefusal, Adds}

abbrev end_of : Place → Option Code
end_of Among = Some E16
end_of Past = None

-- the code at the end of the lines, where no `end` has come
abbrev end_code : SoFar → Option Code
end_code so_far = end_of so_far.place

abbrev IsWhole : List ℕ → Type 0
IsWhole bytes = IsClean code_of with_line end_code nothing_yet (lines_in bytes)

abbrev IsFaulty : List ℕ → ℕ → ℕ → Code → Type 0
IsFaulty bytes n m code = IsFault code_of with_line end_code nothing_yet (lines_in bytes) n m code

missing : (place : Place) (code : Code) → end_of place ≡ Some code → (place ≡ Among) × (E16 ≡ code)
missing Among code is = (refl, cc)
missing Past code is = cc

ended : (place : Place) → end_of place ≡ None → place ≡ Past
ended Among is = cc
ended Past is = refl

-- a fault of the lines is a refusal of the text
refuses : (first : ℕ) (bytes : List ℕ) (n : ℕ) (code : Code) → IsFaulty bytes (first + 1) n code → RefusesFlips first bytes n code
refuses first bytes n code (inl at) =
    let count : first + length at.before + 1 ≡ n = omega (arith, at.number) in
    subst (λ (m : ℕ). RefusesFlips first bytes m code) count (AtLine at.before at.line code at.first)
refuses first bytes n code (inr at) =
    let none = missing (said_by (lines_in bytes)).place code at.code_is in
    let count : first + length (lines_in bytes) + 1 ≡ n = omega (arith, at.number) in
    subst (λ (c : Code). RefusesFlips first bytes n c) none.1 (subst (λ (m : ℕ). RefusesFlips first bytes m E16) count (NoEnd at.clean none.0))

-- and a refusal is a fault
faulty : (first : ℕ) (bytes : List ℕ) (n : ℕ) (code : Code) → RefusesFlips first bytes n code → IsFaulty bytes (first + 1) n code
faulty first bytes n code (AtLine before line c found) = inl (record { before = before; line = line; first = found; number = omega arith })
faulty first bytes n code (NoEnd clean among) = inr (record { clean = clean; code_is = ap end_of among; number = omega arith })

-- a line that is added has no code, and says just that
told : (so_far : SoFar) (line : List ℕ) (after : SoFar) → Adds so_far line after → (code_of so_far line ≡ None) × (after ≡ with_line so_far line)
told so_far line after adds = (code_behind (byte_rows line) (word_rows so_far (words_in line)) adds.fine ∙ adds.words.clean, adds.words.added)

pub all_said : (lines : List (List ℕ)) (so_far : SoFar) → LeadTo Adds nothing_yet lines so_far → HaveNoCode lines × (said_by lines ≡ so_far)
all_said lines so_far led = led_along code_of Adds with_line told lines nothing_yet so_far led

pub read_refused : (first : ℕ) (bytes : List ℕ) (error : ReadError) → IsLineRefusal code_of Adds nothing_yet first (lines_in bytes) error → IsFlipRefusal first bytes error
read_refused first bytes (read.Refused refusal) at = refuses first bytes refusal.line refusal.code (inl (refused_along code_of Adds with_line told nothing_yet (lines_in bytes) first refusal.line refusal.code at))
read_refused first bytes read.NoMemory at = tt

pub text_refused : {X : Type 0} (r : Result X ReadError) (error : ReadError) (first : ℕ) (bytes : List ℕ) → IsErr r × IsErrAnd r (λ e. e ≡ error) → IsFlipRefusal first bytes error → IfErr r (IsFlipRefusal first bytes)
text_refused (Ok x) error first bytes is refused = tt
text_refused (Err e) error first bytes is refused = subst (IsFlipRefusal first bytes) (sym is.1) refused

-- no `end` has come at the end
pub read_unended : (bytes : List ℕ) (so_far : SoFar) (first number : ℕ) → LeadTo Adds nothing_yet (lines_in bytes) so_far → number ≡ first + length (lines_in bytes) → so_far.place ≡ Among → RefusesFlips first bytes (number + 1) E16
read_unended bytes so_far first number led count among =
    let all = all_said (lines_in bytes) so_far led in
    refuses first bytes (number + 1) E16 (inr (record { clean = all.0; code_is = ap end_code all.1 ∙ ap end_of among; number = omega (arith, count) }))

past_is : (so_far : SoFar) (lists : List (List Name)) → so_far.place ≡ Past → so_far.flips ≡ lists → so_far ≡ record { place = Past; flips = lists }
past_is so_far lists place flips = ap (λ (at : Place). let made : SoFar = record { place = at; flips = so_far.flips } in made) place ∙ ap (λ (fs : List (List Name)). let made : SoFar = record { place = Past; flips = fs } in made) flips

-- the `end` has come
pub read_ended : (bytes : List ℕ) (so_far : SoFar) → LeadTo Adds nothing_yet (lines_in bytes) so_far → so_far.place ≡ Past → ReadsFlips bytes so_far.flips
read_ended bytes so_far led past = let all = all_said (lines_in bytes) so_far led in record { clean = all.0; said = all.1 ∙ past_is so_far so_far.flips past refl }

whole : (bytes : List ℕ) (lists : List (List Name)) → ReadsFlips bytes lists → IsWhole bytes
whole bytes lists reads = record { clean = reads.clean; ended = ap end_code reads.said }

-- exactly one of the two holds, with one list of flips or one refusal
pub some_reading : (first : ℕ) (bytes : List ℕ) → ((lists : List (List Name)) × ReadsFlips bytes lists) ⊎ ((n : ℕ) × ((code : Code) × RefusesFlips first bytes n code))
some_reading first bytes =
    elim (clean_or_fault code_of with_line end_code (lines_in bytes) nothing_yet (first + 1)) [
      | inl clean ↦
          let said = said_by (lines_in bytes) in
          inl (said.flips, record { clean = clean.clean; said = past_is said said.flips (ended said.place clean.ended) refl })
      | inr (n, (code, fault)) ↦ inr (n, (code, refuses first bytes n code fault))
    ]

pub same_flips : (bytes : List ℕ) (lists others : List (List Name)) → ReadsFlips bytes lists → ReadsFlips bytes others → lists ≡ others
same_flips bytes lists others one other = ap (λ (so_far : SoFar). so_far.flips) (sym one.said ∙ other.said)

pub same_refusal : (first : ℕ) (bytes : List ℕ) (n m : ℕ) (c d : Code) → RefusesFlips first bytes n c → RefusesFlips first bytes m d → (n ≡ m) × (c ≡ d)
same_refusal first bytes n m c d one other =
    one_fault code_of with_line end_code nothing_yet (lines_in bytes) (first + 1) n m c d (faulty first bytes n c one) (faulty first bytes m d other)

pub read_or_refused : (first : ℕ) (bytes : List ℕ) (lists : List (List Name)) (n : ℕ) (code : Code) → ReadsFlips bytes lists → RefusesFlips first bytes n code → ⊥
read_or_refused first bytes lists n code reads refused =
    no_fault code_of with_line end_code nothing_yet (lines_in bytes) (first + 1) n code (whole bytes lists reads) (faulty first bytes n code refused)
