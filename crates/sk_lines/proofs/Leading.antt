-- Lines that are read one after another, by what each one adds.
use Rattle.std.proofs.Common.{◌≡◌, ℕ, ◌+◌, List, [], ◌∷◌, ◌++◌, length, Option, None, refl, sym, ap, ◌∙◌, subst, arith, append_assoc, append-nil, length-append}
use Rattle.sk_lines.specs.declared.code.Code.{Code}
use Rattle.sk_lines.specs.declared.error.EntryError.{EntryError}
use Rattle.sk_lines.specs.declared.error.EntryError.TheVariants.{Refused, NoMemory}
use Rattle.sk_lines.specs.LineCodes.{along, HaveNone, LeadTo, IsRefusedLine, IsLineRefusal}
use Rattle.sk_lines.specs.Refusals.{IsRefusal, error_at}
use Rattle.sk_lines.proofs.LineFaults.{IsFaultOfLine}

module _ {P : Type 0} (code_of : P → List ℕ → Option Code) (adds : P → List ℕ → P → Type 0) where
  -- the lines before the rest lead here
  pub record HasLed (start : P) (lines rest : List (List ℕ)) (place : P) (first number : ℕ) : Type 0 where
    pub before : List (List ℕ)
    pub parts : lines ≡ before ++ rest
    pub led : LeadTo adds start before place
    pub count : number ≡ first + length before

  pub led_first : (start : P) (lines : List (List ℕ)) (first : ℕ) → HasLed start lines lines start first first
  led_first start lines first = record { before = []; parts = refl; led = refl; count = omega arith }

  led_push : (before : List (List ℕ)) (line : List ℕ) (start place after : P) → LeadTo adds start before place → adds place line after → LeadTo adds start (before ++ line ∷ []) after
  led_push [] line start place after led more = (after, subst (λ (p : P). adds p line after) led more, refl)
  led_push (one ∷ before) line start place after led more = (led.0, led.1, led_push before line led.0 place after led.2 more)

  -- one line further
  pub led_next : (start : P) (lines rest : List (List ℕ)) (line : List ℕ) (more : List (List ℕ)) (place after : P) (first number : ℕ)
      → HasLed start lines rest place first number → rest ≡ line ∷ more → adds place line after → HasLed start lines more after first (number + 1)
  led_next start lines rest line more place after first number at is added = record {
    before = at.before ++ line ∷ [];
    parts = at.parts ∙ ap (λ (ls : List (List ℕ)). at.before ++ ls) is ∙ sym (append_assoc at.before (line ∷ []) more);
    led = led_push at.before line start place after at.led added;
    count = let long = length-append at.before (line ∷ []) in omega (arith, long, at.count);
  }

  -- the line here is refused
  pub led_refused : (start : P) (lines rest : List (List ℕ)) (line : List ℕ) (more : List (List ℕ)) (place : P) (first number : ℕ) (error : EntryError)
      → HasLed start lines rest place first number → rest ≡ line ∷ more → IsRefusal (code_of place line) error → IsLineRefusal code_of adds start first lines (error_at (number + 1) error)
  led_refused start lines rest line more place first number NoMemory at is code_is = tt
  led_refused start lines rest line more place first number (Refused code) at is code_is = record {
    before = at.before;
    line = line;
    after = more;
    place = place;
    parts = at.parts ∙ ap (λ (ls : List (List ℕ)). at.before ++ ls) is;
    led = at.led;
    code_is = code_is;
    count = omega (arith, at.count);
  }

  -- at the end all lines were read
  pub led_all : (start : P) (lines : List (List ℕ)) (place : P) (first number : ℕ) → HasLed start lines [] place first number → LeadTo adds start lines place × (number ≡ first + length lines)
  led_all start lines place first number at =
      let all : at.before ≡ lines = sym (at.parts ∙ append-nil at.before) in
      (subst (λ (ls : List (List ℕ)). LeadTo adds start ls place) all at.led, (let long = ap length all in omega (arith, at.count, long)))

  -- where a line leads is told by a function
  module _ (lead : P → List ℕ → P) (told : (place : P) (line : List ℕ) (after : P) → adds place line after → (code_of place line ≡ None) × (after ≡ lead place line)) where
    pub led_along : (lines : List (List ℕ)) (start end : P) → LeadTo adds start lines end → HaveNone code_of lead start lines × (along lead start lines ≡ end)
    led_along [] start end led = (tt, sym led)
    led_along (line ∷ lines) start end led =
        let here = told start line led.0 led.1 in
        let rest = led_along lines led.0 end led.2 in
        ((here.0, subst (λ (p : P). HaveNone code_of lead p lines) here.1 rest.0), ap (λ (p : P). along lead p lines) (sym here.1) ∙ rest.1)

    -- a line that is refused is the first with a code
    pub refused_along : (start : P) (lines : List (List ℕ)) (first number : ℕ) (code : Code) → IsRefusedLine code_of adds start first lines number code → IsFaultOfLine code_of lead start lines (first + 1) number code
    refused_along start lines first number code at =
        let led = led_along at.before start at.place at.led in record {
          before = at.before;
          line = at.line;
          first = record {
            after = at.after;
            parts = at.parts;
            clean = led.0;
            code_is = ap (λ (p : P). code_of p at.line) led.1 ∙ at.code_is;
          };
          number = omega (arith, at.count);
        }
