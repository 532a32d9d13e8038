-- What is told of the parts that are over, one behind another.
use Rattle.std.proofs.Common.{◌≡◌, inl, inr, refl, ℕ, suc, ◌+◌, ◌<◌, List, [], ◌∷◌, ◌++◌, length, get_or, take, ap, sym, subst, ◌∙◌, arith, append_assoc}
use Rattle.std.specs.Prelude.{Contains}
use Rattle.std.proofs.lemmas.List.{append-nil, length-take-le}
use Rattle.std.proofs.Math.Seq.{take-suc}
use Rattle.sk_base.specs.declared.Elem.{Elem}
use Rattle.sk_base.specs.declared.Sketch.{Sketch}
use Rattle.sk_base.proofs.Members.{contains_head, contains_later}
use Rattle.sk_report.specs.CheckReport.{part_line}
use Rattle.sk_parts.specs.OwnSketch.{part_sketch}
use Rattle.sk_verdict.specs.declared.Part.{Part}
use Rattle.sk_why.specs.OverParts.{StandsForOver, EachOverStands}

module _ (IsWritten : Sketch → List ℕ → Type 0) (s : Sketch) where
  -- one part more
  each_more : (parts : List Part) (number : ℕ) (p : Part) (lines here : List ℕ) → EachOverStands IsWritten s number parts lines → StandsForOver IsWritten s (number + length parts) p here
      → EachOverStands IsWritten s number (parts ++ p ∷ []) (lines ++ here)
  each_more [] number p lines here none told =
      let number_is : number + 0 ≡ number = omega arith in
      (here, [], subst (λ n. StandsForOver IsWritten s n p here) number_is told, refl, ap (λ l. l ++ here) none ∙ sym (append-nil here))
  each_more (q ∷ parts) number p lines here (first, more, first_told, rest, is) told =
      let number_is : number + length (q ∷ parts) ≡ (number + 1) + length parts = omega arith in (
        first,
        more ++ here,
        first_told,
        each_more parts (number + 1) p more here rest (subst (λ n. StandsForOver IsWritten s n p here) number_is told),
        ap (λ l. l ++ here) is ∙ append_assoc first more here,
      )

  -- the text so far, with a part more
  pub put_each : (parts : List Part) (i : ℕ) (z : Part) → i < length parts → (start old new here : List ℕ)
      → (lines : List ℕ) × EachOverStands IsWritten s 1 (take i parts) lines × (old ≡ start ++ lines)
      → StandsForOver IsWritten s (i + 1) (get_or parts i z) here → new ≡ old ++ here
      → (lines : List ℕ) × EachOverStands IsWritten s 1 (take (i + 1) parts) lines × (new ≡ start ++ lines)
  put_each parts i z i_in start old new here (lines, told, old_is) here_told new_is =
      let p = get_or parts i z in
      let size : length (take i parts) ≡ i = length-take-le i parts (omega arith) in
      let number_is : i + 1 ≡ 1 + length (take i parts) = omega (arith, size) in
      let front_is : take (i + 1) parts ≡ take i parts ++ p ∷ [] = (let next_is : i + 1 ≡ suc i = omega arith in ap (λ n. take n parts) next_is ∙ take-suc parts i z i_in) in (
        lines ++ here,
        subst (λ ps. EachOverStands IsWritten s 1 ps (lines ++ here)) (sym front_is) (each_more (take i parts) 1 p lines here told (subst (λ n. StandsForOver IsWritten s n p here) number_is here_told)),
        new_is ∙ ap (λ t. t ++ here) old_is ∙ append_assoc start lines here,
      )

  -- each list of parts is told of
  pub some_each : (parts : List Part) → ((p : Part) (number : ℕ) → Contains parts p → (here : List ℕ) × StandsForOver IsWritten s number p here) → (number : ℕ) → (lines : List ℕ) × EachOverStands IsWritten s number parts lines
  some_each [] each number = ([], refl)
  some_each (p ∷ parts) each number =
      let here = each p number (contains_head p parts) in
      let rest = some_each parts (λ q n q_in. each q n (contains_later p parts q q_in)) (number + 1) in
      (here.0 ++ rest.0, (here.0, rest.0, here.1, rest.1, refl))

  -- where one text is written of each own sketch, the parts have one text
  module _ (same : (xs : List Elem) (one other : List ℕ) → IsWritten (part_sketch s xs) one → IsWritten (part_sketch s xs) other → one ≡ other) where
    one_part : (number : ℕ) (p : Part) (one other : List ℕ) → StandsForOver IsWritten s number p one → StandsForOver IsWritten s number p other → one ≡ other
    one_part number p one other (inl (over, (below, told, is))) (inl (over', (below', told', is'))) =
        is ∙ ap (λ t. part_line s number p ++ t) (same p.elements below below' told told') ∙ sym is'
    one_part number p one other (inl (over, told)) (inr (not, is)) = absurd (not over)
    one_part number p one other (inr (not, is)) (inl (over, told)) = absurd (not over)
    one_part number p one other (inr (not, is)) (inr (not', is')) = is ∙ sym is'

    pub one_each : (parts : List Part) (number : ℕ) (one other : List ℕ) → EachOverStands IsWritten s number parts one → EachOverStands IsWritten s number parts other → one ≡ other
    one_each [] number one other is is' = is ∙ sym is'
    one_each (p ∷ parts) number one other (here, more, told, rest, is) (here', more', told', rest', is') =
        is ∙ ap (λ t. t ++ more) (one_part number p here here' told told')
        ∙ ap (λ t. here' ++ t) (one_each parts (number + 1) more more' rest rest') ∙ sym is'

-- what is told of each part that is over, in other words
pub over_each : (Told Other : Sketch → List ℕ → Type 0) (s : Sketch) → ((xs : List Elem) (text : List ℕ) → Told (part_sketch s xs) text → Other (part_sketch s xs) text)
    → (parts : List Part) (number : ℕ) (text : List ℕ) → EachOverStands Told s number parts text → EachOverStands Other s number parts text
over_each Told Other s each [] number text none = none
over_each Told Other s each (p ∷ parts) number text (here, more, told, rest, is) = (here, more, one told, over_each Told Other s each parts (number + 1) more rest, is)
  where
    one : StandsForOver Told s number p here → StandsForOver Other s number p here
    one (inl (over, (below, written, below_is))) = inl (over, (below, each p.elements below written, below_is))
    one (inr not_over) = inr not_over
