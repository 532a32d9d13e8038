-- Numbers that count on.
use Rattle.std.proofs.Common.{◌≡◌, inl, inr, ℕ, zero, suc, ◌+◌, ◌<◌, List, [], ◌∷◌, ◌++◌, length, refl, ap, sym, subst, ◌∙◌, arith}
use Rattle.std.specs.Prelude.{All, slice_index_or}
use Rattle.std.proofs.lemmas.Bool.{cases_lt}
use Rattle.std.proofs.lemmas.List.{get_or_default}
use Rattle.sk_base.specs.declared.Constraint.{Constraint}
use Rattle.sk_base.specs.declared.Element.{Element}
use Rattle.sk_base.specs.declared.Sketch.{Sketch}
use Rattle.sk_base.specs.Rising.{IsRising}
use Rattle.sk_lang.specs.Canonical.{canonical}
use Rattle.sk_lang.specs.Reading.{Reads}
use Rattle.sk_lang.specs.Renumbered.{elements_from, rule_renumbered, constraints_from}
use Rattle.sk_lang.proofs.Readable.{readable_sound, readable_numbered}
use Rattle.sk_lang.proofs.SameNumbers.{CountOn, renumbered_same}
use Rattle.sk_lang.proofs.WrittenBack.{reads_canonical}
use Rattle.sk_complete.specs.Begun.{last_from, last_number, AreNumberedBehind}
use Rattle.sk_complete.specs.Completions.{Completes}

pub last_along : (n : ℕ) (xs ys : List Constraint) → last_from n (xs ++ ys) ≡ last_from (last_from n xs) ys
last_along n [] ys = refl
last_along n (x ∷ xs) ys = last_along x.number.0 xs ys

-- one more behind the last
pub numbered_more : (n : ℕ) (cs : List Constraint) (c : Constraint) → AreNumberedBehind n cs → c.number.0 ≡ last_from n cs + 1 → AreNumberedBehind n (cs ++ c ∷ [])
numbered_more n [] c all is = (is, tt)
numbered_more n (d ∷ cs) c all is = (all.0, numbered_more (n + 1) cs c all.1 (is ∙ ap (λ (m : ℕ). last_from m cs + 1) all.0))

-- the number of the one in the last place
pub last_is : (n : ℕ) (cs : List Constraint) (last : Constraint) (i : ℕ) → i + 1 ≡ length cs → slice_index_or cs i last ≡ last → last_from n cs ≡ last.number.0
last_is n [] last i is at = absurd (omega (arith, is))
last_is n (c ∷ []) last zero is at = ap (λ (d : Constraint). d.number.0) at
last_is n (c ∷ []) last (suc i) is at = absurd (omega (arith, is))
last_is n (c ∷ d ∷ cs) last zero is at = absurd (omega (arith, is))
last_is n (c ∷ d ∷ cs) last (suc i) is at = last_is c.number.0 (d ∷ cs) last i (omega (arith, is)) at

-- a number above the last of rising ones is above all
pub above_last : (cs : List Constraint) (last : Constraint) (k : ℕ) → IsRising (λ (c : Constraint). c.number.0) cs → (i : ℕ) → i + 1 ≡ length cs → slice_index_or cs i last ≡ last → last.number.0 < k
    → All (λ (c : Constraint). c.number.0 < k) cs
above_last cs last k rise i is_last is below j d j_in =
    elim (cases_lt j i) [
      | inl early ↦ (
          let less = rise j i d early (omega (arith, is_last)) in
          let same : slice_index_or cs i d ≡ last = get_or_default cs i d last (omega (arith, is_last)) ∙ is in
          let level : (slice_index_or cs i d).number.0 ≡ last.number.0 = ap (λ (c : Constraint). c.number.0) same in
          omega (arith, less, level, below))
      | inr late ↦ (
          let at : j ≡ i = omega (arith, late, j_in, is_last) in
          let same : slice_index_or cs j d ≡ last = ap (λ n. slice_index_or cs n d) at ∙ get_or_default cs i d last (omega (arith, is_last)) ∙ is in
          let level : (slice_index_or cs j d).number.0 ≡ last.number.0 = ap (λ (c : Constraint). c.number.0) same in
          omega (arith, level, below))
    ]

abbrev number_of : Constraint → ℕ
number_of c = c.number.0

-- of those that count on from one number behind the last
counted_last : (n : ℕ) (cs : List Constraint) → CountOn number_of (n + 1) cs → last_from n cs ≡ n + length cs
counted_last n [] all = omega arith
counted_last n (c ∷ cs) all =
    let rest = counted_last (n + 1) cs all.1 in
    let first : last_from c.number.0 cs ≡ last_from (n + 1) cs = ap (λ (m : ℕ). last_from m cs) all.0 in
    omega (arith, rest, first)

counted_behind : (n : ℕ) (cs : List Constraint) → AreNumberedBehind n cs → CountOn number_of (n + 1) cs
counted_behind n [] all = tt
counted_behind n (c ∷ cs) all = (all.0, counted_behind (n + 1) cs all.1)

counted_both : (n : ℕ) (cs ds : List Constraint) → CountOn number_of n cs → CountOn number_of (n + length cs) ds → CountOn number_of n (cs ++ ds)
counted_both n [] ds all more = (let is : n + 0 ≡ n = omega arith in subst (λ (m : ℕ). CountOn number_of m ds) is more)
counted_both n (c ∷ cs) ds all more =
    let is : n + length (c ∷ cs) ≡ (n + 1) + length cs = omega arith in
    (all.0, counted_both (n + 1) cs ds all.1 (subst (λ (m : ℕ). CountOn number_of m ds) is more))

-- what is its own renumbering counts on
counted_constraints : (s : Sketch) (n : ℕ) (cs : List Constraint) → constraints_from s n cs ≡ cs → CountOn number_of n cs
counted_constraints s n [] is = tt
counted_constraints s n (c ∷ cs) is =
    let again : Constraint = record { number = record { 0 = n }; rule = rule_renumbered s c.rule } in
    let first : again ≡ c = cc in
    let rest : constraints_from s (n + 1) cs ≡ cs = cc in
    (sym (ap number_of first), counted_constraints s (n + 1) cs rest)

counted_elements : (n : ℕ) (es : List Element) → elements_from n es ≡ es → CountOn (λ (x : Element). x.number.0) n es
counted_elements n [] is = tt
counted_elements n (e ∷ es) is =
    let again : Element = record e { number = record { 0 = n } } in
    let first : again ≡ e = cc in
    let rest : elements_from (n + 1) es ≡ es = cc in
    (sym (ap (λ (x : Element). x.number.0) first), counted_elements (n + 1) es rest)

-- what is written of a completion is read as that completion
pub completion_reads : (bytes : List ℕ) (s t : Sketch) → Reads bytes s → Completes s t → Reads (canonical t) t
completion_reads bytes s t reads done =
    let same = readable_numbered bytes s reads in
    let of_constraints : CountOn number_of 1 s.constraints = counted_constraints s 1 s.constraints (ap (λ (z : Sketch). z.constraints) same) in
    let of_elements : CountOn (λ (x : Element). x.number.0) 1 s.elements = counted_elements 1 s.elements (ap (λ (z : Sketch). z.elements) same) in
    let counted = counted_last 0 s.constraints of_constraints in
    let last : last_number s.constraints ≡ length s.constraints = omega (arith, counted) in
    let behind : CountOn number_of (1 + length s.constraints) done.added =
    subst (λ (m : ℕ). CountOn number_of m done.added) (omega (arith, last)) (counted_behind (last_number s.constraints) done.added done.numbered) in
    let constraints : CountOn number_of 1 t.constraints =
    subst (λ (cs : List Constraint). CountOn number_of 1 cs) (sym done.more.constraints) (counted_both 1 s.constraints done.added of_constraints behind) in
    let elements : CountOn (λ (x : Element). x.number.0) 1 t.elements =
    subst (λ (es : List Element). CountOn (λ (x : Element). x.number.0) 1 es) (sym done.more.elements) of_elements in
    let some : 0 < length t.elements = subst (λ (es : List Element). 0 < length es) (sym done.more.elements) (readable_sound bytes s reads).1 in
    subst (λ (z : Sketch). Reads (canonical t) z) (renumbered_same t done.sound elements constraints) (reads_canonical t done.sound some)
