-- The choice of the drawing fits the kinds of the elements.
use Rattle.std.proofs.Common.{◌≡◌, ◌≢◌, inl, inr, Bool, true, false, [], ◌∷◌, refl, ap, subst, sym, ◌∙◌}
use Rattle.std.specs.Prelude.{Option, Some, IsSome}
use Rattle.std.specs.Option.{option_map}
use Rattle.sk_base.specs.declared.Elem.{Elem}
use Rattle.sk_base.specs.declared.Graph.{Graph}
use Rattle.sk_base.specs.declared.Kind.{Kind}
use Rattle.sk_base.specs.declared.Kind.TheVariants.{Point, Line}
use Rattle.sk_base.specs.declared.Node.{Node}
use Rattle.sk_base.specs.declared.Element.{Element}
use Rattle.sk_base.specs.declared.Shape.{Shape}
use Rattle.sk_base.specs.declared.Shape.TheVariants.{Point as ShapePoint, Line as ShapeLine, Circle as ShapeCircle}
use Rattle.sk_base.specs.declared.Sketch.{Sketch}
use Rattle.sk_base.specs.Drawn.{shape_of, is_line}
use Rattle.sk_base.specs.SoundGraph.{HasNode}
use Rattle.sk_base.specs.SoundSketch.{IsSoundSketch}
use Rattle.sk_base.proofs.Members.{mapped_from}
use Rattle.sk_base.proofs.Finding.{found_rising}
use Rattle.sk_tree.specs.declared.plan.Choice.{Choice}
use Rattle.sk_tree.specs.declared.plan.Choice.TheVariants.{Turn, Advance, Nothing}
use Rattle.sk_tree.specs.LegalPlan.{FitsKinds}
use Rattle.sk_graph.specs.SketchGraph.{kind_of, node_of, graph_of}
use Rattle.sk_tree.specs.ByNumber.{by_number}
use Rattle.sk_tree.specs.DrawnChoice.{drawn_choice, shapes_of}
use Rattle.sk_tree.proofs.Ordering.{by_number_some}

abbrev pub is_line_kind : Kind → Bool
is_line_kind Point = false
is_line_kind Line = true

-- the element is a node of that kind, and drawn so
pub record IsDrawnAs (s : Sketch) (g : Graph) (e : Elem) (kind : Kind) : Type 0 where
  pub node : HasNode g e kind
  pub shape : Shape
  pub drawn : shape_of s e ≡ Some shape
  pub fits : is_line shape ≡ is_line_kind kind

-- each node of the graph is drawn as one of its kind
abbrev pub Draws : Sketch → Graph → Type 0
Draws s g = (e : Elem) (kind : Kind) → HasNode g e kind → IsDrawnAs s g e kind

kind_is_line : (shape : Shape) → is_line shape ≡ is_line_kind (kind_of shape)
kind_is_line (ShapePoint x y) = refl
kind_is_line (ShapeLine x1 y1 x2 y2) = refl
kind_is_line (ShapeCircle x y r) = refl

-- the graph of a sound sketch
pub graph_draws : (s : Sketch) → IsSoundSketch s → Draws s (graph_of s)
graph_draws s sound e kind node =
    let found = mapped_from node_of s.elements (record { elem = e; kind = kind }) node in
    let number : found.0.number ≡ e = ap (λ (n : Node). n.elem) found.2 in
    let drawn = found_rising (λ (x : Element). x.number.0) s.elements sound.elements_rise found.0 found.1 in
    record {
      node = node;
      shape = found.0.shape;
      drawn = subst (λ (x : Elem). shape_of s x ≡ Some found.0.shape) number (ap (λ (o : Option Element). option_map (λ (x : Element). x.shape) o) drawn);
      fits = kind_is_line found.0.shape ∙ ap is_line_kind (ap (λ (n : Node). n.kind) found.2);
    }

abbrev pub IsDrawnNode : Sketch → Graph → Elem → Type 0
IsDrawnNode s g e = (kind : Kind) × IsDrawnAs s g e kind

pub drawn_some : (s : Sketch) (g : Graph) (e : Elem) → IsDrawnNode s g e → IsSome (shape_of s e)
drawn_some s g e (kind, here) = subst (λ o. IsSome o) (sym here.drawn) refl

abbrev NotAllLines : Graph → Elem → Elem → Elem → Type 0
NotAllLines g a b c = ¬ (HasNode g a Line × HasNode g b Line × HasNode g c Line)

module _ (g : Graph) where
  -- the order of the elements doesn't matter
  rotated : (a b c : Elem) (choice : Choice) → FitsKinds g a b c choice → FitsKinds g b c a choice
  rotated a b c (Turn sign) (p, q, r) = (q, r, p)
  rotated a b c (Advance sign) (inl h) = inr (inr h)
  rotated a b c (Advance sign) (inr (inl h)) = inl h
  rotated a b c (Advance sign) (inr (inr h)) = inr (inl h)
  rotated a b c Nothing (inl h) = inr (inr h)
  rotated a b c Nothing (inr (inl h)) = inl h
  rotated a b c Nothing (inr (inr h)) = inr (inl h)

  flipped : (a b c : Elem) (choice : Choice) → FitsKinds g a b c choice → FitsKinds g b a c choice
  flipped a b c (Turn sign) (p, q, r) = (q, p, r)
  flipped a b c (Advance sign) (inl (p, q, r)) = inr (inl (p, r, q))
  flipped a b c (Advance sign) (inr (inl (p, q, r))) = inl (p, r, q)
  flipped a b c (Advance sign) (inr (inr (p, q, r))) = inr (inr (p, r, q))
  flipped a b c Nothing (inl (p, q, r)) = inr (inl (p, r, q))
  flipped a b c Nothing (inr (inl (p, q, r))) = inl (p, r, q)
  flipped a b c Nothing (inr (inr (p, q, r))) = inr (inr (p, r, q))

  fits_shapes : (p q r : Elem) (kp kq kr : Kind) → HasNode g p kp → HasNode g q kq → HasNode g r kr → NotAllLines g p q r
      → (sp sq sr : Shape) → is_line sp ≡ is_line_kind kp → is_line sq ≡ is_line_kind kq → is_line sr ≡ is_line_kind kr
      → FitsKinds g p q r (drawn_choice (sp ∷ sq ∷ sr ∷ []))
  fits_shapes p q r Point Point Point np nq nr not_all sp sq sr ep eq er = rw (ep, eq, er) (np, nq, nr)
  fits_shapes p q r Line Point Point np nq nr not_all sp sq sr ep eq er = rw (ep, eq, er) (inl (np, nq, nr))
  fits_shapes p q r Point Line Point np nq nr not_all sp sq sr ep eq er = rw (ep, eq, er) (inr (inl (nq, nr, np)))
  fits_shapes p q r Point Point Line np nq nr not_all sp sq sr ep eq er = rw (ep, eq, er) (inr (inr (nr, np, nq)))
  fits_shapes p q r Point Line Line np nq nr not_all sp sq sr ep eq er = rw (ep, eq, er) (inl (np, nq, nr))
  fits_shapes p q r Line Point Line np nq nr not_all sp sq sr ep eq er = rw (ep, eq, er) (inr (inl (nq, nr, np)))
  fits_shapes p q r Line Line Point np nq nr not_all sp sq sr ep eq er = rw (ep, eq, er) (inr (inr (nr, np, nq)))
  fits_shapes p q r Line Line Line np nq nr not_all sp sq sr ep eq er = absurd (not_all (np, nq, nr))

module _ (s : Sketch) (g : Graph) where
  shapes_are : (p q r : Elem) (sp sq sr : Shape) → shape_of s p ≡ Some sp → shape_of s q ≡ Some sq → shape_of s r ≡ Some sr → shapes_of s (p ∷ q ∷ r ∷ []) ≡ sp ∷ sq ∷ sr ∷ []
  shapes_are p q r sp sq sr ep eq er = rw (ep, eq, er) refl

  fits_in_order : (p q r : Elem) → IsDrawnNode s g p → IsDrawnNode s g q → IsDrawnNode s g r → NotAllLines g p q r → FitsKinds g p q r (drawn_choice (shapes_of s (p ∷ q ∷ r ∷ [])))
  fits_in_order p q r (kp, dp) (kq, dq) (kr, dr) not_all =
      subst (λ shapes. FitsKinds g p q r (drawn_choice shapes)) (sym (shapes_are p q r dp.shape dq.shape dr.shape dp.drawn dq.drawn dr.drawn))
      (fits_shapes g p q r kp kq kr dp.node dq.node dr.node not_all dp.shape dq.shape dr.shape dp.fits dq.fits dr.fits)

  pub drawn_fits : (a b c : Elem) → a ≢ b → b ≢ c → c ≢ a → IsDrawnNode s g a → IsDrawnNode s g b → IsDrawnNode s g c → NotAllLines g a b c → FitsKinds g a b c (drawn_choice (shapes_of s (by_number a b c)))
  drawn_fits a b c a_b b_c c_a da db dc not_all =
      by_number_some (λ xs. FitsKinds g a b c (drawn_choice (shapes_of s xs))) a b c a_b b_c c_a (record {
        abc = fits_in_order a b c da db dc not_all;
        acb = rotated g c a b _ (flipped g a c b _ (fits_in_order a c b da dc db (λ h. not_all (h.0, h.2, h.1))));
        bac = flipped g b a c _ (fits_in_order b a c db da dc (λ h. not_all (h.1, h.0, h.2)));
        bca = rotated g c a b _ (rotated g b c a _ (fits_in_order b c a db dc da (λ h. not_all (h.2, h.0, h.1))));
        cab = rotated g c a b _ (fits_in_order c a b dc da db (λ h. not_all (h.1, h.2, h.0)));
        cba = rotated g c a b _ (rotated g b c a _ (flipped g c b a _ (fits_in_order c b a dc db da (λ h. not_all (h.2, h.1, h.0)))));
      })
