-- The sign of a step that leaves something open, and that of the drawing's choice.
use Rattle.std.proofs.Common.{◌≡◌, ◌≢◌, inl, inr, Bool, true, false, List, [], ◌∷◌, map, refl, sym, ap, subst, ◌∙◌}
use Rattle.std.specs.Prelude.{⊤, ◌++◌, Option, None, Some, IsSome, pos, unwrap_or, option_to_list}
use Rattle.sk_base.specs.declared.Elem.{Elem}
use Rattle.sk_base.specs.declared.Kind.{Kind}
use Rattle.sk_base.specs.declared.Kind.TheVariants.{Point, Line}
use Rattle.sk_base.specs.declared.Name.{Name}
use Rattle.sk_base.specs.declared.Placed.{Placed}
use Rattle.sk_base.specs.declared.Shape.{Shape}
use Rattle.sk_base.specs.declared.Sketch.{Sketch}
use Rattle.sk_base.specs.Drawn.{shape_of, is_line}
use Rattle.sk_base.specs.SoundGraph.{HasNode}
use Rattle.sk_base.specs.SoundSketch.{IsSoundSketch}
use Rattle.sk_tree.specs.DrawnChoice.{drawn_choice, shapes_of}
use Rattle.sk_tree.proofs.DrawnKinds.{is_line_kind, graph_draws}
use Rattle.sk_graph.specs.SketchGraph.{drawn_as, graph_of}
use Rattle.sk_tree.specs.declared.Choice.{Choice}
use Rattle.sk_tree.specs.declared.Choice.TheVariants.{Turn, Advance, Nothing}
use Rattle.sk_tree.specs.ByNumber.{by_number}
use Rattle.sk_tree.specs.LegalPlan.{FitsKinds}
use Rattle.sk_tree.proofs.Ordering.{by_number_some}
use Rattle.sk_tolerance.specs.declared.turned.Turned.{Turned}
use Rattle.sk_tolerance.specs.Turns.{turn, advance, choices, as_chosen}
use Rattle.sk_flips.specs.Flipping.{is_open}

-- three points, or a line with two points
abbrev LeaveOpen : Kind → Kind → Kind → Type 0
LeaveOpen Point Point Point = ⊤
LeaveOpen Line Point Point = ⊤
LeaveOpen Point Line Point = ⊤
LeaveOpen Point Point Line = ⊤
LeaveOpen Point Line Line = ⊥
LeaveOpen Line Point Line = ⊥
LeaveOpen Line Line Point = ⊥
LeaveOpen Line Line Line = ⊥

module _ (s : Sketch) (at : Placed) (name : Name) where
  -- there is one sign
  abbrev pub HasSign : List Elem → Type 0
  HasSign elements = (sign : Turned) × (choices s at name elements ≡ sign ∷ [])

  by_tests : (x y z : Elem) (kx ky kz : Kind) → LeaveOpen kx ky kz → is_line (drawn_as s x) ≡ is_line_kind kx → is_line (drawn_as s y) ≡ is_line_kind ky → is_line (drawn_as s z) ≡ is_line_kind kz → HasSign (x ∷ y ∷ z ∷ [])
  by_tests x y z Point Point Point opens ex ey ez = (turn s at name x y z, rw (ex, ey, ez) refl)
  by_tests x y z Line Point Point opens ex ey ez = (advance s at name x y z, rw (ex, ey, ez) refl)
  by_tests x y z Point Line Point opens ex ey ez = (advance s at name y x z, rw (ex, ey, ez) refl)
  by_tests x y z Point Point Line opens ex ey ez = (advance s at name z x y, rw (ex, ey, ez) refl)
  by_tests x y z Point Line Line opens ex ey ez = absurd opens
  by_tests x y z Line Point Line opens ex ey ez = absurd opens
  by_tests x y z Line Line Point opens ex ey ez = absurd opens
  by_tests x y z Line Line Line opens ex ey ez = absurd opens

  module _ (a b c : Elem) (a_b : a ≢ b) (b_c : b ≢ c) (c_a : c ≢ a) where
    -- in each of six orders, and so by number
    in_orders : (ka kb kc : Kind) → LeaveOpen ka kb kc → LeaveOpen ka kc kb → LeaveOpen kb ka kc → LeaveOpen kb kc ka → LeaveOpen kc ka kb → LeaveOpen kc kb ka
        → is_line (drawn_as s a) ≡ is_line_kind ka → is_line (drawn_as s b) ≡ is_line_kind kb → is_line (drawn_as s c) ≡ is_line_kind kc → HasSign (by_number a b c)
    in_orders ka kb kc abc acb bac bca cab cba ea eb ec =
        by_number_some HasSign a b c a_b b_c c_a (record {
          abc = by_tests a b c ka kb kc abc ea eb ec;
          acb = by_tests a c b ka kc kb acb ea ec eb;
          bac = by_tests b a c kb ka kc bac eb ea ec;
          bca = by_tests b c a kb kc ka bca eb ec ea;
          cab = by_tests c a b kc ka kb cab ec ea eb;
          cba = by_tests c b a kc kb ka cba ec eb ea;
        })

    module _ (sound : IsSoundSketch s) where
      line_test : (e : Elem) (kind : Kind) → HasNode (graph_of s) e kind → is_line (drawn_as s e) ≡ is_line_kind kind
      line_test e kind node =
          let is = graph_draws s sound e kind node in
          ap (λ (o : Option Shape). is_line (unwrap_or o (Shape.Point (record { 0 = pos 0 }) (record { 0 = pos 0 })))) is.drawn ∙ is.fits

      all_nodes : (ka kb kc : Kind) → LeaveOpen ka kb kc → LeaveOpen ka kc kb → LeaveOpen kb ka kc → LeaveOpen kb kc ka → LeaveOpen kc ka kb → LeaveOpen kc kb ka
          → HasNode (graph_of s) a ka → HasNode (graph_of s) b kb → HasNode (graph_of s) c kc → HasSign (by_number a b c)
      all_nodes ka kb kc abc acb bac bca cab cba na nb nc = in_orders ka kb kc abc acb bac bca cab cba (line_test a ka na) (line_test b kb nb) (line_test c kc nc)

      -- a choice that leaves something open has one sign
      pub open_sign : (choice : Choice) → is_open choice ≡ true → FitsKinds (graph_of s) a b c choice → HasSign (by_number a b c)
      open_sign (Turn sign) opens fits = all_nodes Point Point Point tt tt tt tt tt tt fits.0 fits.1 fits.2
      open_sign (Advance sign) opens (inl fits) = all_nodes Line Point Point tt tt tt tt tt tt fits.0 fits.1 fits.2
      open_sign (Advance sign) opens (inr (inl fits)) = all_nodes Point Line Point tt tt tt tt tt tt fits.2 fits.0 fits.1
      open_sign (Advance sign) opens (inr (inr fits)) = all_nodes Point Point Line tt tt tt tt tt tt fits.1 fits.2 fits.0
      open_sign Nothing opens fits = cc

  -- the sign as the drawing chooses it is the one that is drawn
  abbrev pub IsUntouched : List Elem → Type 0
  IsUntouched elements = map (as_chosen (drawn_choice (shapes_of s elements))) (choices s at name elements) ≡ choices s at name elements

  untouched_by : (x y z : Elem) (bx by bz : Bool) → is_line (drawn_as s x) ≡ bx → is_line (drawn_as s y) ≡ by → is_line (drawn_as s z) ≡ bz
      → map (as_chosen (drawn_choice (drawn_as s x ∷ drawn_as s y ∷ drawn_as s z ∷ []))) (choices s at name (x ∷ y ∷ z ∷ [])) ≡ choices s at name (x ∷ y ∷ z ∷ [])
  untouched_by x y z false false false tx ty tz = rw (tx, ty, tz) refl
  untouched_by x y z true false false tx ty tz = rw (tx, ty, tz) refl
  untouched_by x y z false true false tx ty tz = rw (tx, ty, tz) refl
  untouched_by x y z false false true tx ty tz = rw (tx, ty, tz) refl
  untouched_by x y z false true true tx ty tz = rw (tx, ty, tz) refl
  untouched_by x y z true false true tx ty tz = rw (tx, ty, tz) refl
  untouched_by x y z true true false tx ty tz = rw (tx, ty, tz) refl
  untouched_by x y z true true true tx ty tz = rw (tx, ty, tz) refl

  -- the element is drawn
  abbrev pub IsShaped : Elem → Type 0
  IsShaped e = IsSome (shape_of s e)

  first_shape : (o : Option Shape) (d : Shape) (more : List Shape) → IsSome o → option_to_list o ++ more ≡ unwrap_or o d ∷ more
  first_shape None d more some = absurd (cc)
  first_shape (Some shape) d more some = refl

  shapes_are : (x y z : Elem) → IsShaped x → IsShaped y → IsShaped z → shapes_of s (x ∷ y ∷ z ∷ []) ≡ drawn_as s x ∷ drawn_as s y ∷ drawn_as s z ∷ []
  shapes_are x y z dx dy dz =
      first_shape (shape_of s x) _ (shapes_of s (y ∷ z ∷ [])) dx
      ∙ ap (λ (more : List Shape). drawn_as s x ∷ more) (first_shape (shape_of s y) _ (shapes_of s (z ∷ [])) dy
      ∙ ap (λ (more : List Shape). drawn_as s y ∷ more) (first_shape (shape_of s z) _ [] dz))

  untouched_in_order : (x y z : Elem) → IsShaped x → IsShaped y → IsShaped z → IsUntouched (x ∷ y ∷ z ∷ [])
  untouched_in_order x y z dx dy dz =
      subst (λ (shapes : List Shape). map (as_chosen (drawn_choice shapes)) (choices s at name (x ∷ y ∷ z ∷ [])) ≡ choices s at name (x ∷ y ∷ z ∷ [])) (sym (shapes_are x y z dx dy dz))
      (untouched_by x y z (is_line (drawn_as s x)) (is_line (drawn_as s y)) (is_line (drawn_as s z)) refl refl refl)

  pub untouched : (a b c : Elem) → a ≢ b → b ≢ c → c ≢ a → IsShaped a → IsShaped b → IsShaped c → IsUntouched (by_number a b c)
  untouched a b c a_b b_c c_a da db dc =
      by_number_some IsUntouched a b c a_b b_c c_a (record {
        abc = untouched_in_order a b c da db dc;
        acb = untouched_in_order a c b da dc db;
        bac = untouched_in_order b a c db da dc;
        bca = untouched_in_order b c a db dc da;
        cab = untouched_in_order c a b dc da db;
        cba = untouched_in_order c b a dc db da;
      })
