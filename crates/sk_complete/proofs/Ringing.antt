-- Rings, as parts come one by one.
use Rattle.std.proofs.Common.{◌≡◌, ◌≢◌, ◌⊎◌, inl, inr, ℕ, ◌+◌, ◌<◌, List, [], length, get_or, take, refl, sym, subst, ◌∙◌, arith}
use Rattle.std.specs.Prelude.{Contains, map}
use Rattle.std.proofs.lemmas.List.Elements.{Contains-get_or}
use Rattle.sk_base.specs.declared.Elem.{Elem}
use Rattle.sk_base.specs.declared.Graph.{Graph}
use Rattle.sk_base.specs.Numbering.{elem_exact}
use Rattle.sk_base.proofs.Deciding.{elem_settles}
use Rattle.sk_base.proofs.ListOrder.{before_irreflexive}
use Rattle.sk_base.proofs.Members.{contains_none, contains_mapped, mapped_from}
use Rattle.sk_base.proofs.Splits.{in_take}
use Rattle.sk_family.specs.Body.{Body}
use Rattle.sk_family.specs.Rules.{IsLine}
use Rattle.sk_family.proofs.Bodies.{within_itself}
use Rattle.sk_triangles.proofs.Fronts.{front_more, front_before}
use Rattle.sk_verdict.specs.declared.Part.{Part}
use Rattle.sk_verdict.specs.Ordering.{AreInOrder, PartBefore}
use Rattle.sk_close_by_angles.specs.Ties.{AreTied, itself, further}
use Rattle.sk_close_by_angles.specs.Classes.{class_of, AreAlone, Coarsens, AreTogether, TellTies}
use Rattle.sk_close_by_angles.proofs.Classing.{together_kept}
use Rattle.sk_close_by_angles.proofs.Tying.{tied_start, tied_covered}
use Rattle.sk_complete.specs.Rings.{AreTiedBeside, same_line, by_part, IsRing}

-- a part as a body, whatever it owns
abbrev pub bare : Part → Body
bare p = record { elements = p.elements; owned = [] }

-- among some elements are two different lines of one class
abbrev pub HasTwoAlike : List ℕ → List Elem → Type 0
HasTwoAlike classes xs = (d : Elem) × (e : Elem) × Contains xs d × Contains xs e × (d ≢ e) × (0 < class_of classes d) × (class_of classes d ≡ class_of classes e)

-- what is known of the classes behind some of the parts
pub record TellsOf (g : Graph) (front : List Part) (classes : List ℕ) : Type 0 where
  pub tell : TellTies g (map bare front) classes
  pub together : (p : Part) → Contains front p → AreTogether classes p.elements
  pub none : ¬ IsRing g front

module _ (g : Graph) where
  pub beside_on : (ps : List Part) (but : Part) (l m n : Elem) → AreTiedBeside g ps but l m → AreTiedBeside g ps but m n → AreTiedBeside g ps but l n
  beside_on ps but l m n same_line more = more
  beside_on ps but l m n (by_part {m = k} line p p_in differs l_in k_in rest) more = by_part line p p_in differs l_in k_in (beside_on ps but k m n rest more)

  -- what is tied has one class
  same_class : (ps : List Part) (but : Part) (classes : List ℕ) → ((e : Elem) → IsLine g e → 0 < class_of classes e) → ((p : Part) → Contains ps p → p ≢ but → AreTogether classes p.elements)
      → (l m : Elem) → IsLine g l → AreTiedBeside g ps but l m → class_of classes l ≡ class_of classes m
  same_class ps but classes lines together l m line same_line = refl
  same_class ps but classes lines together l n line (by_part {m = k} k_line p p_in differs l_in k_in rest) =
      together p p_in differs l k l_in k_in (lines l line) (lines k k_line) ∙ same_class ps but classes lines together k n k_line rest

  -- what some of the parts tie is tied beside a part that isn't one of them
  tied_beside : (ps front : List Part) (but : Part) → ((p : Part) → Contains front p → Contains ps p × (p ≢ but)) → (l m : Elem) → AreTied g (map bare front) l m → AreTiedBeside g ps but l m
  tied_beside ps front but has l m (itself line x x_in l_in) = same_line
  tied_beside ps front but has l m (further {m = k} line x x_in l_in k_in rest) =
      let (p, p_in, is) = mapped_from bare front x x_in in
      by_part (tied_start g (map bare front) k m rest) p (has p p_in).0 (has p p_in).1
      (subst (λ (z : Body). Contains z.elements l) (sym is) l_in) (subst (λ (z : Body). Contains z.elements k) (sym is) k_in)
      (tied_beside ps front but has k m rest)

  -- so two lines of one class make a ring
  pub ring_found : (ps front : List Part) (x : Part) (classes : List ℕ) → Contains ps x → ((p : Part) → Contains front p → Contains ps p × (p ≢ x)) → TellsOf g front classes → HasTwoAlike classes x.elements → IsRing g ps
  ring_found ps front x classes x_in has told (d, e, d_in, e_in, differ, line, same) = record {
    part = x;
    part_in = x_in;
    one = d;
    other = e;
    differ = differ;
    one_line = (told.tell.lines d).0 line;
    other_line = (told.tell.lines e).0 (subst (λ n. 0 < n) same line);
    one_in = d_in;
    other_in = e_in;
    tied = elim (told.tell.tied d e line same) [
      | inl is ↦ absurd (differ is)
      | inr tied ↦ tied_beside ps front x has d e tied
    ];
  }

  -- a chain beside p that may lead through x: it doesn't, or it leads to x and from it
  pub passes : (front next : List Part) (x p : Part) → ((q : Part) → Contains next q → Contains front q ⊎ (x ≡ q)) → (l m : Elem) → IsLine g l → AreTiedBeside g next p l m
      → AreTiedBeside g front p l m
      ⊎ ((c : Elem) × (d : Elem) × Contains x.elements c × Contains x.elements d × IsLine g c × IsLine g d × AreTiedBeside g front p l c × AreTiedBeside g front p d m)
  passes front next x p from l m line same_line = inl same_line
  passes front next x p from l m line (by_part {m = k} k_line q q_in differs l_in k_in rest) =
      elim (from q q_in) [
        | inl before ↦ elim (passes front next x p from k m k_line rest) [
          | inl past ↦ inl (by_part k_line q before differs l_in k_in past)
          | inr (c, d, c_in, d_in, c_line, d_line, to, on) ↦ inr (c, d, c_in, d_in, c_line, d_line, by_part k_line q before differs l_in k_in to, on)
        ]
        | inr is ↦ (
            let l_x = subst (λ (z : Part). Contains z.elements l) (sym is) l_in in
            let k_x = subst (λ (z : Part). Contains z.elements k) (sym is) k_in in
            elim (passes front next x p from k m k_line rest) [
              | inl past ↦ inr (l, k, l_x, k_x, line, k_line, same_line, past)
              | inr (c, d, c_in, d_in, c_line, d_line, to, on) ↦ inr (l, d, l_x, d_in, line, d_line, same_line, on)
            ])
      ]

  module _ (front next : List Part) (x : Part) (classes : List ℕ) (from : (q : Part) → Contains next q → Contains front q ⊎ (x ≡ q)) (told : TellsOf g front classes) (alone : ¬ HasTwoAlike classes x.elements) where
    has_class : (e : Elem) → IsLine g e → 0 < class_of classes e
    has_class e line = (told.tell.lines e).1 line

    -- one part more whose lines are of different classes makes no ring
    pub still_none : ¬ IsRing g next
    still_none ring =
        elim (from ring.part ring.part_in) [
          | inr is ↦ alone (
            ring.one,
            ring.other,
            subst (λ (z : Part). Contains z.elements ring.one) (sym is) ring.one_in,
            subst (λ (z : Part). Contains z.elements ring.other) (sym is) ring.other_in,
            ring.differ,
            has_class ring.one ring.one_line,
            same_class next ring.part classes has_class
                (λ p p_in differs. elim (from p p_in) [ inl before ↦ told.together p before | inr same ↦ absurd (differs (sym same ∙ is)) ])
                ring.one ring.other ring.one_line ring.tied,
          )
          | inl before ↦ elim (passes front next x ring.part from ring.one ring.other ring.one_line ring.tied) [
            | inl past ↦ told.none (ring_by before past)
            | inr (c, d, c_in, d_in, c_line, d_line, to, on) ↦ elim (elem_settles c d) [
              | inl same ↦ told.none (ring_by before (beside_on front ring.part ring.one c ring.other to (subst (λ z. AreTiedBeside g front ring.part z ring.other) (sym same) on)))
              | inr differ ↦ (
                  let first = same_class front ring.part classes has_class (λ p p_in differs. told.together p p_in) ring.one c ring.one_line to in
                  let last = same_class front ring.part classes has_class (λ p p_in differs. told.together p p_in) d ring.other d_line on in
                  let both = told.together ring.part before ring.one ring.other ring.one_in ring.other_in (has_class ring.one ring.one_line) (has_class ring.other ring.other_line) in
                  alone (c, d, c_in, d_in, differ, has_class c c_line, sym first ∙ both ∙ sym last))
            ]
          ]
        ]
      where
        ring_by : Contains front ring.part → AreTiedBeside g front ring.part ring.one ring.other → IsRing g front
        ring_by before tied = record {
          part = ring.part;
          part_in = before;
          one = ring.one;
          other = ring.other;
          differ = ring.differ;
          one_line = ring.one_line;
          other_line = ring.other_line;
          one_in = ring.one_in;
          other_in = ring.other_in;
          tied = tied;
        }

  -- lines that are alone tell of no parts
  pub tells_none : (classes : List ℕ) → AreAlone g.nodes classes → TellsOf g [] classes
  tells_none classes alone = record {
    tell = record {
      lines = λ e. elim (alone e) [
        | inl (line, is) ↦ ((λ some. line), (λ line. omega (arith, is)))
        | inr (none, is) ↦ ((λ some. absurd (omega (arith, some, is))), (λ line. absurd (none line)))
      ];
      tied = λ l m some same. elim (alone l) [
        | inl (line, is) ↦ elim (alone m) [
          | inl (m_line, m_is) ↦ inl (elem_exact l m (omega (arith, same, is, m_is)))
          | inr (none, m_is) ↦ absurd (omega (arith, some, same, m_is))
        ]
        | inr (none, is) ↦ absurd (omega (arith, some, is))
      ];
    };
    together = λ p p_in. absurd (contains_none p p_in);
    none = λ ring. contains_none ring.part ring.part_in;
  }

  -- and of one part more, once its lines have one class
  pub ties_more : (front next : List Part) (classes : List ℕ) → ((p : Part) → Contains front p → Contains next p) → TellTies g (map bare front) classes → TellTies g (map bare next) classes
  ties_more front next classes more told = record {
    lines = told.lines;
    tied = λ l m some same. elim (told.tied l m some same) [
      | inl is ↦ inl is
      | inr tied ↦ inr (tied_covered g (map bare front) (map bare next) (λ x x_in. (let (p, p_in, is) = mapped_from bare front x x_in in
          (x, subst (λ (z : Body). Contains (map bare next) z) is (contains_mapped bare next p (more p p_in)), within_itself x))) l m tied)
    ];
  }

-- the part in a place of the list, and those in front of it
module _ (g : Graph) (parts : List Part) (i : ℕ) (x : Part) (i_in : i < length parts) (is : x ≡ get_or parts i x) where
  x_in : Contains parts x
  x_in = subst (λ (z : Part). Contains parts z) (sym is) (Contains-get_or parts i x i_in)

  from_next : (q : Part) → Contains (take (i + 1) parts) q → Contains (take i parts) q ⊎ (x ≡ q)
  from_next q q_in = elim ((front_more parts i x i_in q).0 q_in) [ inl before ↦ inl before | inr same ↦ inr (is ∙ same) ]

  to_next : (q : Part) → Contains (take i parts) q ⊎ (x ≡ q) → Contains (take (i + 1) parts) q
  to_next q (inl before) = (front_more parts i x i_in q).1 (inl before)
  to_next q (inr same) = (front_more parts i x i_in q).1 (inr (sym is ∙ same))

  -- two lines of one class make a ring with what stands in front
  pub ring_there : AreInOrder parts → (classes : List ℕ) → TellsOf g (take i parts) classes → HasTwoAlike classes x.elements → IsRing g parts
  ring_there order classes told two =
      ring_found g parts (take i parts) x classes x_in
      (λ p p_in. (
        in_take i parts p p_in,
        λ same. before_irreflexive x.elements (subst (λ (z : Part). PartBefore z x) same (subst (λ (z : Part). PartBefore p z) (sym is) (front_before parts i x i_in PartBefore order p p_in))),
      ))
      told two

  -- and where there are none, its lines may have one class from now on
  pub tells_next : (old new : List ℕ) → TellsOf g (take i parts) old → (¬ HasTwoAlike old x.elements) → Coarsens old new → AreTogether new x.elements
      → ((f : List Body) (y : Body) → Contains f y → y.elements ≡ x.elements → TellTies g f old → TellTies g f new) → TellsOf g (take (i + 1) parts) new
  tells_next old new told alone coarsens joined ties = record {
    tell = ties (map bare (take (i + 1) parts)) (bare x) (contains_mapped bare (take (i + 1) parts) x (to_next x (inr refl))) refl
        (ties_more g (take i parts) (take (i + 1) parts) old (λ p p_in. to_next p (inl p_in)) told.tell);
    together = λ p p_in. elim (from_next p p_in) [
      | inl before ↦ together_kept old new p.elements coarsens (told.together p before)
      | inr same ↦ subst (λ (z : Part). AreTogether new z.elements) same joined
    ];
    none = still_none g (take i parts) (take (i + 1) parts) x old from_next told alone;
  }
