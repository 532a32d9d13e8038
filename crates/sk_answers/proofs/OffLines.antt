-- How far off constraints are, line by line.
use Rattle.std.proofs.Common.{◌≡◌, ◌==◌, refl, ℕ, suc, ◌+◌, ◌<◌, List, [], ◌∷◌, ◌++◌, length, get_or, take, ap, sym, subst, ◌∙◌, arith, append_assoc}
use Rattle.std.specs.Prelude.{Contains, Some}
use Rattle.std.proofs.lemmas.Bool.Decides.{nat_tests}
use Rattle.std.proofs.lemmas.List.{append-nil}
use Rattle.std.proofs.Math.Seq.{take-suc}
use Rattle.sk_base.specs.declared.ConId.{ConId}
use Rattle.sk_base.specs.declared.Constraint.{Constraint}
use Rattle.sk_base.specs.declared.Placed.{Placed}
use Rattle.sk_base.specs.declared.Sketch.{Sketch}
use Rattle.sk_base.specs.SoundSketch.{IsSoundSketch}
use Rattle.sk_base.specs.declared.Graph.{Graph}
use Rattle.sk_base.specs.Numbering.{con_exact}
use Rattle.sk_base.proofs.Finding.{found_in, found_rising}
use Rattle.sk_base.proofs.Members.{contains_head, contains_later}
use Rattle.sk_graph.specs.SketchGraph.{graph_of}
use Rattle.sk_graph.proofs.Soundness.{graph_is_sound}
use Rattle.sk_measure.specs.Placing.{PlacesExactly}
use Rattle.sk_entry.specs.NumberedConstraint.{constraint_of}
use Rattle.sk_tolerance.specs.declared.OffBy.{OffBy}
use Rattle.sk_tolerance.specs.Offs.{IsOff, HasNumber}
use Rattle.sk_tolerance.specs.Telling.{IsCompared}
use Rattle.sk_tolerance.specs.Turns.{senses}
use Rattle.sk_tolerance.proofs.Numbered.{number_there}
use Rattle.sk_tolerance.proofs.OneOff.{some_off, some_compared}
use Rattle.sk_answers.specs.OffsThere.{IsOffThere, AreOffsPut}

module _ (own : Sketch) (sound : IsSoundSketch own) where
  -- a constraint of the sketch by its number
  pub numbered : (c : Constraint) → Contains own.constraints c → (k : ConId) → c.number ≡ k → constraint_of own k ≡ Some c
  numbered c c_in k is = subst (λ (j : ConId). constraint_of own j ≡ Some c) is (found_rising (λ (x : Constraint). x.number.0) own.constraints sound.constraints_rise c c_in)

  module _ (at : Placed) (exactly : PlacesExactly (graph_of own) at) where
    -- there is one way in which a constraint is off
    pub some_there : (c : Constraint) → Contains own.constraints c → (k : ConId) → c.number ≡ k → (off : OffBy) × IsOffThere at own k off
    some_there c c_in k named =
        let turned = some_compared (senses own at k c.rule) in
        let has : HasNumber (graph_of own) k = subst (λ (j : ConId). HasNumber (graph_of own) j) named (number_there own c c_in) in
        let off = some_off (graph_of own) (graph_is_sound own sound) at exactly k has turned.0 in
        (off.0, record { constraint = c; numbered = numbered c c_in k named; by = off.1; turned = subst (λ o. IsCompared (senses own at k c.rule) o) (sym off.2) turned.1 })

-- what is measured of the constraint of that number
pub off_there : (at : Placed) (own : Sketch) (g : Graph) (k : ConId) (x : Constraint) (off : OffBy) → g ≡ graph_of own → constraint_of own k ≡ Some x → IsOff at g x.number off
    → IsCompared (senses own at x.number x.rule) off.turned → IsOffThere at own k off
off_there at own g k x off g_is numbered by turned =
    let found = found_in (λ (y : Constraint). y.number.0 == k.0) own.constraints x numbered in
    let named : x.number ≡ k = con_exact x.number k (grind (arith, nat_tests, found.1)) in record {
      constraint = x;
      numbered = numbered;
      by = subst (λ (j : ConId). IsOff at (graph_of own) j off) named (subst (λ (h : Graph). IsOff at h x.number off) g_is by);
      turned = subst (λ (j : ConId). IsCompared (senses own at j x.rule) off.turned) named turned;
    }

-- one line more
pub offs_more : (line : ConId → OffBy → List ℕ) (s : Sketch) (at : Placed) (left : List ConId) (k : ConId) (off : OffBy) (lines : List ℕ) → AreOffsPut line s at left lines → IsOffThere at s k off
    → AreOffsPut line s at (left ++ k ∷ []) (lines ++ line k off)
offs_more line s at [] k off lines none there = (off, [], there, refl, ap (λ l. l ++ line k off) none ∙ sym (append-nil (line k off)))
offs_more line s at (j ∷ left) k off lines (first, more, first_there, rest, is) there = (
  first,
  more ++ line k off,
  first_there,
  offs_more line s at left k off more rest there,
  ap (λ l. l ++ line k off) is ∙ append_assoc (line j first) more (line k off),
)

-- the text so far, with a line more
pub put_line : (line : ConId → OffBy → List ℕ) (s : Sketch) (at : Placed) (left : List ConId) (i : ℕ) (d : ConId) → i < length left → (start old new : List ℕ)
    → (lines : List ℕ) × AreOffsPut line s at (take i left) lines × (old ≡ start ++ lines)
    → (off : OffBy) × IsOffThere at s (get_or left i d) off × (new ≡ old ++ line (get_or left i d) off)
    → (lines : List ℕ) × AreOffsPut line s at (take (i + 1) left) lines × (new ≡ start ++ lines)
put_line line s at left i d i_in start old new (lines, told, old_is) (off, there, new_is) =
    let k = get_or left i d in
    let front_is : take (i + 1) left ≡ take i left ++ k ∷ [] = (let next_is : i + 1 ≡ suc i = omega arith in ap (λ n. take n left) next_is ∙ take-suc left i d i_in) in (
      lines ++ line k off,
      subst (λ ks. AreOffsPut line s at ks (lines ++ line k off)) (sym front_is) (offs_more line s at (take i left) k off lines told there),
      new_is ∙ ap (λ t. t ++ line k off) old_is ∙ append_assoc start lines (line k off),
    )

-- how far off each is that is left out
pub some_offs : (line : ConId → OffBy → List ℕ) (own : Sketch) → IsSoundSketch own → (at : Placed) → PlacesExactly (graph_of own) at → (left : List ConId)
    → ((k : ConId) → Contains left k → (c : Constraint) × Contains own.constraints c × (c.number ≡ k)) → (text : List ℕ) × AreOffsPut line own at left text
some_offs line own sound at exactly [] each = ([], refl)
some_offs line own sound at exactly (k ∷ left) each =
    let (c, c_in, named) = each k (contains_head k left) in
    let off = some_there own sound at exactly c c_in k named in
    let rest = some_offs line own sound at exactly left (λ j j_in. each j (contains_later k left j j_in)) in
    (line k off.0 ++ rest.0, (off.0, rest.0, off.1, rest.1, refl))
