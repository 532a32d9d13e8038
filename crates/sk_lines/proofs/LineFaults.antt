-- Lines that are read one after another: the first of them with a code, or none.
use Rattle.std.proofs.Common.{◌≡◌, ◌⊎◌, inl, inr, ℕ, ◌+◌, List, [], ◌∷◌, ◌++◌, length, Option, Some, None, refl, sym, ap, ◌∙◌, arith}
use Rattle.sk_lines.specs.declared.code.Code.{Code}
use Rattle.sk_lines.specs.LineCodes.{along, HaveNone, HasFirst}

-- no line has a code, and the end has none where they lead
pub record IsClean {P : Type 0} (code_of : P → List ℕ → Option Code) (lead : P → List ℕ → P) (at_end : P → Option Code) (start : P) (lines : List (List ℕ)) : Type 0 where
  pub clean : HaveNone code_of lead start lines
  pub ended : at_end (along lead start lines) ≡ None

-- the first line with a code, where the first of all has the number n
pub record IsFaultOfLine {P : Type 0} (code_of : P → List ℕ → Option Code) (lead : P → List ℕ → P) (start : P) (lines : List (List ℕ)) (n m : ℕ) (code : Code) : Type 0 where
  pub before : List (List ℕ)
  pub line : List ℕ
  pub first : HasFirst code_of lead start lines before line code
  pub number : m ≡ n + length before

-- no line has a code, but the end has
pub record IsFaultOfEnd {P : Type 0} (code_of : P → List ℕ → Option Code) (lead : P → List ℕ → P) (at_end : P → Option Code) (start : P) (lines : List (List ℕ)) (n m : ℕ) (code : Code) : Type 0 where
  pub clean : HaveNone code_of lead start lines
  pub code_is : at_end (along lead start lines) ≡ Some code
  pub number : m ≡ n + length lines

abbrev Fault : Type 0
Fault = Option (ℕ × Code)

abbrev or_code : Option Code → ℕ → Fault → Fault
or_code None n rest = rest
or_code (Some code) n rest = Some (n, code)

-- the line of the refusal and its code, if the lines from number n on are refused
abbrev fault_from : {P : Type 0} → (P → List ℕ → Option Code) → (P → List ℕ → P) → (P → Option Code) → P → ℕ → List (List ℕ) → Fault
fault_from code_of lead at_end place n [] = or_code (at_end place) n None
fault_from code_of lead at_end place n (line ∷ lines) = or_code (code_of place line) n (fault_from code_of lead at_end (lead place line) (n + 1) lines)

line_of : Fault → ℕ
line_of None = 0
line_of (Some fault) = fault.0

code_in : Code → Fault → Code
code_in code None = code
code_in code (Some fault) = fault.1

-- two faults that are one
same_fault : (n m : ℕ) (c d : Code) (a : Fault) → a ≡ Some (n, c) → a ≡ Some (m, d) → (n ≡ m) × (c ≡ d)
unfolding line_of code_in
same_fault n m c d a is_a is_b = (ap line_of (sym is_a) ∙ ap line_of is_b, ap (code_in c) (sym is_a) ∙ ap (code_in c) is_b)

module _ {P : Type 0} (code_of : P → List ℕ → Option Code) (lead : P → List ℕ → P) where
  module _ (at_end : P → Option Code) where
    none_here : (lines : List (List ℕ)) (start : P) (n : ℕ) → HaveNone code_of lead start lines → fault_from code_of lead at_end start n lines ≡ or_code (at_end (along lead start lines)) (n + length lines) None
    none_here [] start n clean = let none : n ≡ n + 0 = omega arith in ap (λ (k : ℕ). or_code (at_end start) k None) none
    none_here (line ∷ lines) start n clean =
        let count : n + 1 + length lines ≡ n + length (line ∷ lines) = omega arith in
        ap (λ code. or_code code n (fault_from code_of lead at_end (lead start line) (n + 1) lines)) clean.0 ∙ none_here lines (lead start line) (n + 1) clean.1
        ∙ ap (λ (k : ℕ). or_code (at_end (along lead (lead start line) lines)) k None) count

    first_here : (before : List (List ℕ)) (line : List ℕ) (after : List (List ℕ)) (start : P) (n : ℕ) (code : Code) → HaveNone code_of lead start before → code_of (along lead start before) line ≡ Some code
        → fault_from code_of lead at_end start n (before ++ line ∷ after) ≡ Some (n + length before, code)
    first_here [] line after start n code clean is =
        let none : n ≡ n + 0 = omega arith in
        ap (λ found. or_code found n (fault_from code_of lead at_end (lead start line) (n + 1) after)) is ∙ ap (λ (m : ℕ). let fault : Fault = Some (m, code) in fault) none
    first_here (first ∷ before) line after start n code clean is =
        let count : n + 1 + length before ≡ n + length (first ∷ before) = omega arith in
        ap (λ found. or_code found n (fault_from code_of lead at_end (lead start first) (n + 1) (before ++ line ∷ after))) clean.0 ∙ first_here before line after (lead start first) (n + 1) code clean.1 is
        ∙ ap (λ (m : ℕ). let fault : Fault = Some (m, code) in fault) count

    abbrev pub IsFault : P → List (List ℕ) → ℕ → ℕ → Code → Type 0
    IsFault start lines n m code = IsFaultOfLine code_of lead start lines n m code ⊎ IsFaultOfEnd code_of lead at_end start lines n m code

    clean_none : (start : P) (lines : List (List ℕ)) (n : ℕ) → IsClean code_of lead at_end start lines → fault_from code_of lead at_end start n lines ≡ None
    clean_none start lines n clean = none_here lines start n clean.clean ∙ ap (λ code. or_code code (n + length lines) None) clean.ended

    fault_some : (start : P) (lines : List (List ℕ)) (n m : ℕ) (code : Code) → IsFault start lines n m code → fault_from code_of lead at_end start n lines ≡ Some (m, code)
    fault_some start lines n m code (inl at) =
        ap (fault_from code_of lead at_end start n) at.first.parts ∙ first_here at.before at.line at.first.after start n code at.first.clean at.first.code_is
        ∙ ap (λ (k : ℕ). let fault : Fault = Some (k, code) in fault) (sym at.number)
    fault_some start lines n m code (inr at) =
        none_here lines start n at.clean ∙ ap (λ found. or_code found (n + length lines) None) at.code_is ∙ ap (λ (k : ℕ). let fault : Fault = Some (k, code) in fault) (sym at.number)

    -- lines are clean, or have a fault
    pub clean_or_fault : (lines : List (List ℕ)) (start : P) (n : ℕ) → IsClean code_of lead at_end start lines ⊎ ((m : ℕ) × ((code : Code) × IsFault start lines n m code))
    clean_or_fault [] start n = by (at_end start) refl
      where
        by : (code : Option Code) → at_end start ≡ code → IsClean code_of lead at_end start [] ⊎ ((m : ℕ) × ((code : Code) × IsFault start [] n m code))
        by None is = inl (record { clean = tt; ended = is })
        by (Some code) is = inr (n, (code, inr (record { clean = tt; code_is = is; number = omega arith })))
    clean_or_fault (line ∷ lines) start n = by (clean_or_fault lines (lead start line) (n + 1)) (code_of start line) refl
      where
        further : code_of start line ≡ None → (m : ℕ) (code : Code) → IsFault (lead start line) lines (n + 1) m code → IsFault start (line ∷ lines) n m code
        further none m code (inl at) = inl (record {
          before = line ∷ at.before;
          line = at.line;
          first = record { after = at.first.after; parts = ap (λ ls. line ∷ ls) at.first.parts; clean = (none, at.first.clean); code_is = at.first.code_is };
          number = omega (arith, at.number);
        })
        further none m code (inr at) = inr (record { clean = (none, at.clean); code_is = at.code_is; number = omega (arith, at.number) })

        by : IsClean code_of lead at_end (lead start line) lines ⊎ ((m : ℕ) × ((code : Code) × IsFault (lead start line) lines (n + 1) m code)) → (code : Option Code) → code_of start line ≡ code → IsClean code_of lead at_end start (line ∷ lines) ⊎ ((m : ℕ) × ((code : Code) × IsFault start (line ∷ lines) n m code))
        by rest (Some code) is = inr (
          n,
          (
            code,
            inl (record {
              before = [];
              line = line;
              first = record { after = lines; parts = refl; clean = tt; code_is = is };
              number = omega arith;
            }),
          ),
        )
        by (inl clean) None is = inl (record { clean = (is, clean.clean); ended = clean.ended })
        by (inr (m, (code, fault))) None is = inr (m, (code, further is m code fault))

    -- not both, and one fault at most
    pub no_fault : (start : P) (lines : List (List ℕ)) (n m : ℕ) (code : Code) → IsClean code_of lead at_end start lines → IsFault start lines n m code → ⊥
    no_fault start lines n m code clean fault = let none = clean_none start lines n clean in let some = fault_some start lines n m code fault in cc

    pub one_fault : (start : P) (lines : List (List ℕ)) (n m k : ℕ) (c d : Code) → IsFault start lines n m c → IsFault start lines n k d → (m ≡ k) × (c ≡ d)
    one_fault start lines n m k c d left right = same_fault m k c d (fault_from code_of lead at_end start n lines) (fault_some start lines n m c left) (fault_some start lines n k d right)
