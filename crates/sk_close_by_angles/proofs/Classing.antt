-- Renaming a class for another whose lines are tied to it keeps what classes tell.
use Rattle.std.proofs.Common.{◌≡◌, ◌⊎◌, inl, inr, ℕ, ◌+◌, ◌<◌, List, sym, subst, ◌∙◌, arith, take, length, get_or}
use Rattle.std.specs.Prelude.{◌++◌, drop}
use Rattle.std.proofs.Math.Seq.{take-append_seam}
use Rattle.sk_base.specs.declared.Elem.{Elem}
use Rattle.sk_base.specs.declared.Node.{Node}
use Rattle.sk_base.specs.declared.Graph.{Graph}
use Rattle.sk_family.specs.Body.{Body}
use Rattle.sk_triangles.proofs.Fronts.{front_more}
use Rattle.sk_close_by_angles.specs.Ties.{AreTied}
use Rattle.sk_close_by_angles.specs.Classes.{class_of, line_node, AreRenamed, AreAlone, AddsNode, Coarsens, AreTogether, TellTies, IsClassAmong, IsClassOfOne}
use Rattle.sk_close_by_angles.proofs.Tying.{tied_on, tied_back}

pub coarsens_on : (old mid new : List ℕ) → Coarsens old mid → Coarsens mid new → Coarsens old new
coarsens_on old mid new p q = record {
  same_lines = λ e. ((λ h. (p.same_lines e).0 ((q.same_lines e).0 h)), (λ h. (q.same_lines e).1 ((p.same_lines e).1 h)));
  kept = λ d e same. q.kept d e (p.kept d e same);
}

pub together_kept : (old new : List ℕ) (xs : List Elem) → Coarsens old new → AreTogether old xs → AreTogether new xs
together_kept old new xs p together l m l_in m_in l_line m_line =
    p.kept l m (together l m l_in m_in ((p.same_lines l).0 l_line) ((p.same_lines m).0 m_line))

-- what was written through a slice of the whole list
pub all_written : {X : Type 0} (len : ℕ) (new old : List X) → length new ≡ len → take len (new ++ drop (length new) old) ≡ new
all_written len new old is = subst (λ n. take n (new ++ drop (length new) old) ≡ new) is (take-append_seam new (drop (length new) old))

-- the same line, or one that is tied to it
SameOrTied : Graph → List Body → Elem → Elem → Type 0
SameOrTied g f l m = (l ≡ m) ⊎ AreTied g f l m

module _ (g : Graph) (f : List Body) where
  either_on : (l m n : Elem) → SameOrTied g f l m → SameOrTied g f m n → SameOrTied g f l n
  unfolding SameOrTied
  either_on l m n (inl same) more = subst (λ k. (k ≡ n) ⊎ AreTied g f k n) (sym same) more
  either_on l m n (inr tied) (inl same) = inr (subst (λ k. AreTied g f l k) same tied)
  either_on l m n (inr tied) (inr more) = inr (tied_on g f l m n tied more)

  module _ (from to : ℕ) (old new : List ℕ) (are : AreRenamed from to old new) (first elem : Elem) (first_to : class_of old first ≡ to) (elem_from : class_of old elem ≡ from)
      (tie : AreTied g f first elem) (from_some : 0 < from) (to_some : 0 < to) (tell : TellTies g f old) where
    lines_stay : (e : Elem) → 0 < class_of new e → 0 < class_of old e
    lines_stay e some = elim (are e.0) [ inl (is, now) ↦ omega arith | inr (is_not, now) ↦ omega arith ]

    lines_keep : (e : Elem) → 0 < class_of old e → 0 < class_of new e
    lines_keep e some = elim (are e.0) [ inl (is, now) ↦ omega arith | inr (is_not, now) ↦ omega arith ]

    -- what has the old class is tied to the one line, what has the new class to the other
    to_elem : (l : Elem) → class_of old l ≡ from → SameOrTied g f l elem
    unfolding SameOrTied
    to_elem l is = tell.tied l elem (omega arith) (is ∙ sym elem_from)

    from_first : (m : Elem) → class_of old m ≡ to → SameOrTied g f first m
    unfolding SameOrTied
    from_first m is = tell.tied first m (omega arith) (first_to ∙ sym is)

    to_first : (m : Elem) → class_of old m ≡ to → SameOrTied g f m first
    unfolding SameOrTied
    to_first m is = tell.tied m first (omega arith) (is ∙ sym first_to)

    from_elem : (l : Elem) → class_of old l ≡ from → SameOrTied g f elem l
    unfolding SameOrTied
    from_elem l is = tell.tied elem l (omega arith) (elem_from ∙ sym is)

    tied_now : (l m : Elem) → 0 < class_of new l → class_of new l ≡ class_of new m → (l ≡ m) ⊎ AreTied g f l m
    unfolding SameOrTied
    tied_now l m some same =
        elim (are l.0) [
          | inl (l_from, l_to) ↦ elim (are m.0) [
            | inl (m_from, m_to) ↦ tell.tied l m (lines_stay l some) (l_from ∙ sym m_from)
            | inr (m_other, m_stays) ↦ either_on l elem m (to_elem l l_from)
                (either_on elem first m (inr (tied_back g f first elem tie)) (from_first m (sym m_stays ∙ sym same ∙ l_to)))
          ]
          | inr (l_other, l_stays) ↦ elim (are m.0) [
            | inl (m_from, m_to) ↦ either_on l first m (to_first l (sym l_stays ∙ same ∙ m_to)) (either_on first elem m (inr tie) (from_elem m m_from))
            | inr (m_other, m_stays) ↦ tell.tied l m (lines_stay l some) (sym l_stays ∙ same ∙ m_stays)
          ]
        ]

    pub tells_renamed : TellTies g f new
    tells_renamed = record {
      lines = λ e. ((λ h. (tell.lines e).0 (lines_stay e h)), (λ h. lines_keep e ((tell.lines e).1 h)));
      tied = tied_now;
    }

-- the class among the elements is that of one of them
pub class_of_one : (classes : List ℕ) (xs : List Elem) (k : ℕ) → IsClassAmong classes xs k → 0 < k → IsClassOfOne classes xs k
class_of_one classes xs k (inl (none, all)) some = absurd (omega arith)
class_of_one classes xs k (inr (e, e_in, line, is)) some = (e, e_in, sym is)

-- one more node
pub alone_more : (nodes : List Node) (i : ℕ) (d : Node) → i < length nodes → (old new : List ℕ) → AreAlone (take i nodes) old → AddsNode (get_or nodes i d) old new → AreAlone (take (i + 1) nodes) new
alone_more nodes i d i_in old new alone adds e =
    let more = front_more nodes i d i_in (line_node e) in
    elim (adds e) [
      | inl (here, is) ↦ inl (more.1 (inr here), is)
      | inr (not_here, stays) ↦ elim (alone e) [
        | inl (before, is) ↦ inl (more.1 (inl before), stays ∙ is)
        | inr (not_before, is) ↦ inr ((λ h. elim (more.0 h) [ inl before ↦ not_before before | inr here ↦ not_here here ]), stays ∙ is)
      ]
    ]
