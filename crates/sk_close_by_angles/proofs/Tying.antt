-- Ties go both ways and on, and what is tied in a family is tied in each family that covers it.
use Rattle.std.proofs.Common.{List}
use Rattle.std.specs.Prelude.{Contains}
use Rattle.sk_base.specs.declared.Elem.{Elem}
use Rattle.sk_base.specs.declared.Graph.{Graph}
use Rattle.sk_family.specs.Body.{Body}
use Rattle.sk_family.specs.Rules.{IsLine}
use Rattle.sk_rules.proofs.NormalForm.{IsCovered, shared_within}
use Rattle.sk_family.proofs.Bodies.{Within}
use Rattle.sk_close_by_angles.specs.Ties.{AreTied, itself, further, MeetsByTie}

module _ (g : Graph) (f : List Body) where
  pub tied_start : (l m : Elem) → AreTied g f l m → IsLine g l
  tied_start l m (itself line x x_in l_in) = line
  tied_start l m (further line x x_in l_in m_in rest) = line

  pub tied_on : (l m n : Elem) → AreTied g f l m → AreTied g f m n → AreTied g f l n
  tied_on l m n (itself line x x_in l_in) more = more
  tied_on l m n (further {m = k} line x x_in l_in k_in rest) more = further line x x_in l_in k_in (tied_on k m n rest more)

  -- two lines of one body
  pub tied_in_one : (l m : Elem) → IsLine g l → IsLine g m → (x : Body) → Contains f x → Contains x.elements l → Contains x.elements m → AreTied g f l m
  tied_in_one l m l_line m_line x x_in l_in m_in = further l_line x x_in l_in m_in (itself m_line x x_in m_in)

  pub tied_back : (l m : Elem) → AreTied g f l m → AreTied g f m l
  tied_back l m (itself line x x_in l_in) = itself line x x_in l_in
  tied_back l m (further {m = k} line x x_in l_in k_in rest) =
      tied_on m k l (tied_back k m rest) (tied_in_one k l (tied_start k m rest) line x x_in k_in l_in)

-- containment keeps ties
pub tied_covered : (g : Graph) (f n : List Body) → IsCovered f n → (l m : Elem) → AreTied g f l m → AreTied g n l m
tied_covered g f n covered l m (itself line x x_in l_in) =
    let y = covered x x_in in itself line y.0 y.1 (y.2.elements l l_in)
tied_covered g f n covered l m (further {m = k} line x x_in l_in k_in rest) =
    let y = covered x x_in in further line y.0 y.1 (y.2.elements l l_in) (y.2.elements k k_in) (tied_covered g f n covered k m rest)

-- and the tie rule with them
pub meets_covered : (g : Graph) (f n : List Body) → IsCovered f n → (a b p q : Body) → Within a p → Within b q
    → MeetsByTie g f a.elements b.elements → MeetsByTie g n p.elements q.elements
meets_covered g f n covered a b p q in_p in_q ((e, point, both), (l, m, l_in, m_in, tied)) =
    ((e, point, shared_within in_p in_q e both), (l, m, in_p.elements l l_in, in_q.elements m m_in, tied_covered g f n covered l m tied))
