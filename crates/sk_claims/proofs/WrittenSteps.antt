-- The line of a step is read as that step.
use Rattle.std.proofs.Common.{◌≡◌, ℕ, ◌≤◌, true, false, List, [], ◌∷◌, ◌++◌, Some, None, is_none, codes, refl, ap, arith}
use Rattle.std.specs.List.{list_any}
use Rattle.sk_base.specs.declared.Name.{Name}
use Rattle.sk_base.specs.declared.Sign.TheVariants.{Plus, Minus}
use Rattle.sk_base.specs.declared.Sketch.{Sketch}
use Rattle.sk_base.specs.declared.Spot.{Spot}
use Rattle.sk_base.specs.ElementNames.{name_of as element_name}
use Rattle.sk_base.specs.SoundSketch.{IsSoundSketch}
use Rattle.sk_base.specs.Spelling.{spaced}
use Rattle.sk_lines.specs.declared.Code.TheVariants.{E4}
use Rattle.sk_lines.specs.ClusterWords.{cluster_named, is_bad_name}
use Rattle.sk_lines.specs.FirstCode.{first_code}
use Rattle.sk_entry.specs.Named.{number_named}
use Rattle.sk_lines.proofs.LineWords.{extent}
use Rattle.sk_lines.proofs.SolidLines.{IsSolidWord, AreSolidWords, IsLineOf, literal, solid, solid_line, name_spelled}
use Rattle.sk_text.specs.ClusterName.{cluster_name}
use Rattle.sk_tree.specs.declared.Choice.{Choice}
use Rattle.sk_tree.specs.declared.Choice.TheVariants.{Turn, Advance, Nothing}
use Rattle.sk_tree.specs.declared.PlanStep.{PlanStep}
use Rattle.sk_claims.specs.declared.claim.Radius.{Radius}
use Rattle.sk_claims.specs.declared.claim_line.SoFar.{SoFar}
use Rattle.sk_claims.specs.ClaimLines.{choice_of, is_choice_long, is_no_name, is_unknown, corner_rows, step_said, word_rows, claimed_with}
use Rattle.sk_claims.specs.ClaimText.{choice_words, step_words, CanBeSaid}
use Rattle.sk_claims.specs.Printed.{HasPlainNumber}
use Rattle.sk_claims.proofs.PrintedWords.{cluster_back}
use Rattle.sk_claims.proofs.SaidElements.{IsCalled, called, no_wrong_name, known, its_number}
use Rattle.sk_claims.proofs.SpelledNumbers.{cluster_spelled}
use Rattle.sk_claims.proofs.StepWords.{no_code}

-- what was read so far, before the tolerances
abbrev pub so_far : List PlanStep → List Spot → List Radius → SoFar
so_far steps spots radii = record { steps = steps; at = record { spots = spots }; radii = radii; tolerances = None }

-- the words stand on a line, have no code behind what was read, and add this to it
pub record ReadsOn (s : Sketch) (from to : SoFar) (words : List (List ℕ)) : Type 0 where
  pub line : IsLineOf (spaced words) words
  pub clean : first_code (word_rows s from words) ≡ None
  pub leads : claimed_with s from words ≡ to

-- ---- the choice

choice_back : (c : Choice) → choice_of (choice_words c) ≡ Some c
choice_back (Turn Plus) = refl
choice_back (Turn Minus) = refl
choice_back (Advance Plus) = refl
choice_back (Advance Minus) = refl
choice_back Nothing = refl

choice_long : (c : Choice) → is_choice_long (choice_words c) ≡ true
choice_long (Turn Plus) = refl
choice_long (Turn Minus) = refl
choice_long (Advance Plus) = refl
choice_long (Advance Minus) = refl
choice_long Nothing = refl

choice_extent : (c : Choice) → extent (choice_words c) ≤ 10
choice_extent (Turn Plus) = omega arith
choice_extent (Turn Minus) = omega arith
choice_extent (Advance Plus) = omega arith
choice_extent (Advance Minus) = omega arith
choice_extent Nothing = omega arith

turn_word : IsSolidWord (codes "turn")
turn_word = record { some = omega arith; solid = (refl, (refl, (refl, (refl, tt)))) }

advance_word : IsSolidWord (codes "advance")
advance_word = record { some = omega arith; solid = (refl, (refl, (refl, (refl, (refl, (refl, (refl, tt))))))) }

plus_word : IsSolidWord (codes "+")
plus_word = record { some = omega arith; solid = (refl, tt) }

minus_word : IsSolidWord (codes "-")
minus_word = record { some = omega arith; solid = (refl, tt) }

none_word : IsSolidWord (codes "none")
none_word = record { some = omega arith; solid = (refl, (refl, (refl, (refl, tt)))) }

choice_solid : (c : Choice) → AreSolidWords (choice_words c)
choice_solid (Turn Plus) = (turn_word, (plus_word, tt))
choice_solid (Turn Minus) = (turn_word, (minus_word, tt))
choice_solid (Advance Plus) = (advance_word, (plus_word, tt))
choice_solid (Advance Minus) = (advance_word, (minus_word, tt))
choice_solid Nothing = (none_word, tt)

-- ---- the other words

good_name : (n : Name) → HasPlainNumber n → is_bad_name (cluster_name n) ≡ false
good_name n plain = ap is_none (cluster_back n plain)

five_names : (a b c d e : List ℕ) → is_bad_name a ≡ false → is_bad_name b ≡ false → is_bad_name c ≡ false → is_bad_name d ≡ false → is_bad_name e ≡ false
    → first_code ((list_any is_bad_name (a ∷ b ∷ c ∷ d ∷ e ∷ []), E4) ∷ []) ≡ None
five_names a b c d e p q r u v = rw (p, q, r, u, v) refl

three_corners : (s : Sketch) (a b c : List ℕ) → is_no_name a ≡ false → is_no_name b ≡ false → is_no_name c ≡ false → is_unknown s a ≡ false → is_unknown s b ≡ false → is_unknown s c ≡ false
    → first_code (corner_rows s (a ∷ b ∷ c ∷ [])) ≡ None
three_corners s a b c p q r u v w = rw (p, q, r, u, v, w) refl

-- the words say the step
said_by : (s : Sketch) (x : PlanStep) (name joins one two three at a b c keeps kept : List ℕ) (choice : List (List ℕ))
    → cluster_named name ≡ Some x.step → cluster_named one ≡ Some x.one → cluster_named two ≡ Some x.two → cluster_named three ≡ Some x.three → number_named s a ≡ x.a → number_named s b ≡ x.b → number_named s c ≡ x.c
    → cluster_named kept ≡ Some x.keeps → choice_of choice ≡ Some x.choice
    → step_said s (name ∷ joins ∷ one ∷ two ∷ three ∷ at ∷ a ∷ b ∷ c ∷ keeps ∷ kept ∷ choice) ≡ x ∷ []
said_by s x name joins one two three at a b c keeps kept choice n1 n2 n3 n4 e1 e2 e3 n5 says = rw (n1, n2, n3, n4, e1, e2, e3, n5, says) refl

module _ (s : Sketch) (sound : IsSoundSketch s) (x : PlanStep) (can : CanBeSaid s x) where
  a_called : IsCalled s x.a (element_name s x.a)
  a_called = called s sound x.a can.a

  b_called : IsCalled s x.b (element_name s x.b)
  b_called = called s sound x.b can.b

  c_called : IsCalled s x.c (element_name s x.c)
  c_called = called s sound x.c can.c

  step_line : IsLineOf (spaced (step_words s x)) (step_words s x)
  step_line =
      let step = cluster_spelled x.step can.step in
      let one = cluster_spelled x.one can.one in
      let two = cluster_spelled x.two can.two in
      let three = cluster_spelled x.three can.three in
      let keeps = cluster_spelled x.keeps can.keeps in
      let a = name_spelled (element_name s x.a) a_called.spelled in
      let b = name_spelled (element_name s x.b) b_called.spelled in
      let c = name_spelled (element_name s x.c) c_called.spelled in
      let step_few = step.few in
      let one_few = one.few in
      let two_few = two.few in
      let three_few = three.few in
      let keeps_few = keeps.few in
      let a_few = a.few in
      let b_few = b.few in
      let c_few = c.few in
      let choice_few = choice_extent x.choice in
      solid_line (codes "step") _ (
        solid (codes "step") (literal (codes "step") 5 (omega arith) (omega arith) refl),
        (
          solid (cluster_name x.step) step,
          (
            solid (codes "joins") (literal (codes "joins") 5 (omega arith) (omega arith) refl),
            (
              solid (cluster_name x.one) one,
              (
                solid (cluster_name x.two) two,
                (
                  solid (cluster_name x.three) three,
                  (
                    solid (codes "at") (literal (codes "at") 5 (omega arith) (omega arith) refl),
                    (
                      solid (element_name s x.a) a,
                      (
                        solid (element_name s x.b) b,
                        (
                          solid (element_name s x.c) c,
                          (
                            solid (codes "keeps") (literal (codes "keeps") 5 (omega arith) (omega arith) refl),
                            (
                              solid (cluster_name x.keeps) keeps,
                              choice_solid x.choice,
                            ),
                          ),
                        ),
                      ),
                    ),
                  ),
                ),
              ),
            ),
          ),
        ),
      ) (omega arith)

  pub step_reads : (steps : List PlanStep) (spots : List Spot) (radii : List Radius) → ReadsOn s (so_far steps spots radii) (so_far (steps ++ x ∷ []) spots radii) (step_words s x)
  step_reads steps spots radii = record {
    line = step_line;
    clean =
        no_code s (cluster_name x.step) (codes "joins") (cluster_name x.one) (cluster_name x.two) (cluster_name x.three) (codes "at")
        (element_name s x.a) (element_name s x.b) (element_name s x.c) (codes "keeps") (cluster_name x.keeps) (choice_words x.choice)
        (choice_long x.choice) refl (ap is_none (choice_back x.choice))
        (five_names (cluster_name x.step) (cluster_name x.one) (cluster_name x.two) (cluster_name x.three) (cluster_name x.keeps)
        (good_name x.step can.step) (good_name x.one can.one) (good_name x.two can.two) (good_name x.three can.three) (good_name x.keeps can.keeps))
        (three_corners s (element_name s x.a) (element_name s x.b) (element_name s x.c)
        (no_wrong_name s x.a _ a_called) (no_wrong_name s x.b _ b_called) (no_wrong_name s x.c _ c_called) (known s x.a _ a_called) (known s x.b _ b_called) (known s x.c _ c_called));
    leads = ap (λ (more : List PlanStep). so_far (steps ++ more) spots radii)
        (said_by s x (cluster_name x.step) (codes "joins") (cluster_name x.one) (cluster_name x.two) (cluster_name x.three) (codes "at")
        (element_name s x.a) (element_name s x.b) (element_name s x.c) (codes "keeps") (cluster_name x.keeps) (choice_words x.choice)
        (cluster_back x.step can.step) (cluster_back x.one can.one) (cluster_back x.two can.two) (cluster_back x.three can.three)
        (its_number s x.a _ a_called) (its_number s x.b _ b_called) (its_number s x.c _ c_called) (cluster_back x.keeps can.keeps) (choice_back x.choice));
  }
