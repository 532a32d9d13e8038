-- Each constraint that is left out has a line in the text of `excess`, and one in that of `measure`, and both tell the same.
use Rattle.std.proofs.Common.{◌≡◌, inl, inr, refl, ℕ, List, [], ◌∷◌, ◌++◌, codes, ap, sym, subst, ◌∙◌, append_assoc}
use Rattle.std.specs.Prelude.{Contains}
use Rattle.sk_base.specs.declared.ConId.{ConId}
use Rattle.sk_base.specs.declared.Constraint.{Constraint}
use Rattle.sk_base.specs.declared.Placed.{Placed}
use Rattle.sk_base.specs.declared.Sketch.{Sketch}
use Rattle.sk_base.specs.Spelling.{whole_text}
use Rattle.sk_base.proofs.Members.{contains_none, contains_cases, contains_mapped}
use Rattle.sk_lines.specs.Lines.{EndsLine}
use Rattle.sk_tolerance.specs.declared.OffBy.{OffBy}
use Rattle.sk_lang.specs.Renumbered.{renumbered}
use Rattle.sk_report.specs.ExcessReport.{left_words, line_of_off, off_line, off_unit, turned_words, is_repeat, repeat_word}
use Rattle.sk_report.specs.SolveReport.{tolerance_lines}
use Rattle.sk_request.specs.declared.Request.{Request}
use Rattle.sk_answers.specs.MeasureAnswer.{all_numbers}
use Rattle.sk_answers.specs.OffsThere.{IsOffThere, AreOffsPut}
use Rattle.sk_cli.specs.ExcessReport.{IsMeasuredLeft}
use Rattle.sk_laws.specs.NewNumbers.{new_constraint, tolerance_renumbered, line_renumbered, TellsOffsRenumbered, StandsIn, TellsAlike}
use Rattle.sk_laws.proofs.OneOutcome.{of_that_number, same_off}

stands_before : (line text more : List ℕ) → StandsIn line text → StandsIn line (text ++ more)
stands_before line text more (before, after, whole, is) =
    (before, after ++ more, whole, ap (λ (words : List ℕ). words ++ more) is ∙ append_assoc before (line ++ after) more ∙ ap (λ (words : List ℕ). before ++ words) (append_assoc line after more))

-- each of these constraints has its line
module _ (line : ConId → OffBy → List ℕ) (ends : (k : ConId) (off : OffBy) → (words : List ℕ) × (line k off ≡ words ++ 10 ∷ [])) (s : Sketch) (at : Placed) where
  has_line : (front : List ℕ) → EndsLine front → (ks : List ConId) (text : List ℕ) → AreOffsPut line s at ks text → (k : ConId) → Contains ks k
      → (off : OffBy) × IsOffThere at s k off × StandsIn (line k off) (front ++ text)
  has_line front whole [] text put k k_in = absurd (contains_none k k_in)
  has_line front whole (j ∷ ks) text (off, more, there, rest, is) k k_in =
      elim (contains_cases j ks k k_in) [
        | inl here ↦ subst (λ (i : ConId). (o : OffBy) × IsOffThere at s i o × StandsIn (line i o) (front ++ text)) here (off, there, (front, more, whole, ap (λ (words : List ℕ). front ++ words) is))
        | inr later ↦ (
            let end = ends j off in
            let ended : EndsLine (front ++ line j off) = inr (front ++ end.0, ap (λ (words : List ℕ). front ++ words) end.1 ∙ sym (append_assoc front end.0 (10 ∷ []))) in
            let found = has_line (front ++ line j off) ended ks more rest k later in
            let same : (front ++ line j off) ++ more ≡ front ++ text = append_assoc front (line j off) more ∙ ap (λ (words : List ℕ). front ++ words) (sym is) in
            (found.0, found.1, subst (λ (words : List ℕ). StandsIn (line k found.0) words) same found.2))
      ]

ends_so : (s : Sketch) (words : List ℕ) (k : ConId) (off : OffBy) → (front : List ℕ) × (line_of_off s words k off ≡ front ++ 10 ∷ [])
ends_so s words k off = ((((left_words s k ++ words) ++ 32 ∷ whole_text off.off) ++ off_unit off.length) ++ turned_words off.turned, refl)

pub told_alike : (request : Request) (own : Sketch) (left : List ConId) (told : List ℕ) (m : IsMeasuredLeft request own left told) (offs line : List ℕ) → TellsOffsRenumbered own m.at offs
    → (k : ConId) → Contains left k → TellsAlike request.within own m.at told (offs ++ line) k
told_alike request own left told m offs line measured k k_in =
    let one = has_line (off_line own request.within) (λ j off. ends_so own (repeat_word (is_repeat request.within off)) j off) own m.at [] (inl refl) left told m.told k k_in in
    let (c_in, named) = of_that_number own k one.1.constraint one.1.numbered in
    let there : Contains (all_numbers own) k = subst (λ (j : ConId). Contains (all_numbers own) j) named (contains_mapped (λ (c : Constraint). c.number) own.constraints one.1.constraint c_in) in
    let other = has_line (line_renumbered own) (λ j off. ends_so (renumbered own) (codes " off") (new_constraint own j) off) own m.at [] (inl refl) (all_numbers own) measured.lines measured.offs k there in
    let least = tolerance_lines (renumbered own) (tolerance_renumbered own measured.least) in
    let stands : StandsIn (line_renumbered own k other.0) offs = subst (λ (words : List ℕ). StandsIn (line_renumbered own k other.0) words) (sym measured.is) (stands_before (line_renumbered own k other.0) measured.lines least other.2) in
    record {
      off = one.0;
      there = one.1;
      left = one.2;
      measured = subst (λ (off : OffBy). StandsIn (line_renumbered own k off) (offs ++ line)) (same_off m.at own k other.0 one.0 other.1 one.1)
          (stands_before (line_renumbered own k other.0) offs line stands);
    }
