-- The box of a base's anchor in its own frame: the very place that is taken to the drawing.
use Rattle.std.proofs.Common.{◌≡◌, inl, inr, ℕ, suc, ◌≤◌, ℤ, pos, neg_ℤ, ◌≤ℤ◌, ◌*ℤ◌, unsigned_abs, List, [], ◌∷◌, Ok, refl, ap, sym, ◌∙◌, arith, lit≤}
use Rattle.std.specs.Prelude.{Contains, map}
use Rattle.std.proofs.lemmas.Int.{ints}
use Rattle.sk_base.specs.declared.Elem.{Elem}
use Rattle.sk_base.specs.declared.Measure.TheVariants.{PointPoint, PointLine}
use Rattle.sk_base.specs.declared.Pin.{Pin}
use Rattle.sk_base.specs.declared.Sign.{Sign}
use Rattle.sk_base.specs.declared.Sign.TheVariants.{Plus, Minus}
use Rattle.sk_base.specs.declared.Um.{Um}
use Rattle.sk_base.specs.Pins.{AreSoundPins}
use Rattle.sk_base.specs.Rising.{union}
use Rattle.sk_base.proofs.Members.{contains_none, mapped_from}
use Rattle.sk_base.proofs.Unions.{union_cases}
use Rattle.sk_interval.specs.Interval.{Interval, one}
use Rattle.sk_interval.specs.Rounding.{floor_of, ceil_of}
use Rattle.sk_interval.specs.Operations.{of_micrometres, whole}
use Rattle.sk_interval.proofs.QuotientLemmas.{neg-product}
use Rattle.sk_orient.specs.declared.Vector.{Vector}
use Rattle.sk_steps.specs.declared.BoxOf.{BoxOf}
use Rattle.sk_steps.specs.declared.BoxOf.TheVariants.{Point, Line}
use Rattle.sk_steps.specs.Expressions.{with_sign}
use Rattle.sk_steps.specs.Leaves.{leaf, by_sign, pin_box}
use Rattle.sk_steps.proofs.LeafLemmas.{length-ok, whole-ok}
use Rattle.sk_place.specs.declared.BoxAt.{BoxAt}
use Rattle.sk_place.specs.Clusters.{Rise, Holds, number_of, box_of, with_box, with_boxes}
use Rattle.sk_place.specs.Trees.{pin_at, pin_boxes}
use Rattle.sk_place.proofs.Corners.{holds_new, box_new, rises_with_all}
use Rattle.sk_frame.specs.Frames.{given_place}
use Rattle.sk_solve.proofs.AnchorPlaces.{floor_turned}

-- ---- lengths

pub nothing_is : (F : ℕ) → whole F (pos 0) ≡ of_micrometres F (pos 0)
unfolding floor_of ceil_of
nothing_is F =
    let none : pos 0 *ℤ pos (one F) ≡ pos 0 = omega (arith, ints) in
    ap (λ (z : ℤ). let made : Interval = record { lo = z; hi = z } in made) none
    ∙ sym (ap (λ (z : ℤ). let made : Interval = record { lo = floor_of z (pos 1000); hi = ceil_of z (pos 1000) } in made) none)

ceil_turned : (n d : ℤ) → ceil_of (neg_ℤ n) d ≡ neg_ℤ (floor_of n d)
unfolding ceil_of
ceil_turned n d = (let back : neg_ℤ (neg_ℤ n) ≡ n = omega (arith, ints) in ap (λ (z : ℤ). neg_ℤ (floor_of z d)) back)

-- a length on the other side is the negative one
pub signed_is : (F : ℕ) (side : Sign) (v : ℤ) → with_sign side (of_micrometres F v) ≡ of_micrometres F (by_sign side v)
signed_is F Plus v = refl
signed_is F Minus v =
    let n : ℤ = v *ℤ pos (one F) in
    let turned : neg_ℤ v *ℤ pos (one F) ≡ neg_ℤ n = neg-product v (pos (one F)) in
    ap (λ (z : ℤ). let made : Interval = record { lo = z; hi = neg_ℤ (floor_of n (pos 1000)) } in made) (sym (floor_turned n (pos 1000)))
    ∙ ap (λ (z : ℤ). let made : Interval = record { lo = floor_of (neg_ℤ n) (pos 1000); hi = z } in made) (sym (ceil_turned n (pos 1000)))
    ∙ sym (ap (λ (z : ℤ). let made : Interval = record { lo = floor_of z (pos 1000); hi = ceil_of z (pos 1000) } in made) turned)

pub small_of : (z : ℤ) → pos 0 ≤ℤ z → z ≤ℤ pos 2000000000 → unsigned_abs z ≤ 2000000000
small_of z low high = omega (arith, ints, low, high)

-- ---- a constraint of two elements

pub points_leaf : (G : Type 0) (F : ℕ) (far : Um) → unsigned_abs far.0 ≤ 2000000000 → leaf {G = G} F (PointPoint far) ≡ Ok (Point (whole F (pos 0)) (whole F (pos 0)), Point (of_micrometres F far.0) (whole F (pos 0)))
points_leaf G F far small = rw (whole-ok 40 F 0 (lit≤ tt), length-ok F Plus far.0 small) refl

pub mixed_leaf : (G : Type 0) (F : ℕ) (far : Um) (side : Sign) → unsigned_abs far.0 ≤ 2000000000
    → leaf {G = G} F (PointLine far side) ≡ Ok (Point (whole F (pos 0)) (with_sign side (of_micrometres F far.0)), Line (whole F (pos 0)) (whole F (pos 1)) (whole F (pos 0)))
mixed_leaf G F far side small = rw (whole-ok 40 F 0 (lit≤ tt), whole-ok 1 F 0 (lit≤ tt), whole-ok 1 F 1 (lit≤ tt), length-ok F side far.0 small) refl

-- ---- a block

pins_hold : (G : Type 0) (F : ℕ) (pins : List Pin) (e : Elem) → Holds (with_boxes (map (pin_at {G = G} F) pins) []) e → (pin : Pin) × Contains pins pin × (pin.elem ≡ e)
pins_hold G F pins e h =
    let b = mapped_from (λ (x : BoxAt G). x.elem) (with_boxes (map (pin_at F) pins) []) e h in
    elim (union_cases number_of (map (pin_at F) pins) [] b.0 b.1) [
      | inl among ↦ (let pin = mapped_from (pin_at F) pins b.0 among in (pin.0, pin.1, ap (λ (x : BoxAt G). x.elem) pin.2 ∙ b.2))
      | inr none ↦ absurd (contains_none b.0 none)
    ]

-- ---- an element at a place

module _ {G : Type 0} (F : ℕ) where
  -- the point at a place of the frame
  abbrev pub point_at : Vector → BoxOf G
  point_at v = Point (of_micrometres F v.x) (of_micrometres F v.y)

  -- the element has the box of that place
  pub record LiesAt (bs : List (BoxAt G)) (e : Elem) (v : Vector) : Type 0 where
    pub holds : Holds bs e
    pub is : box_of bs e ≡ point_at v

  pub put_there : (e : Elem) (v : Vector) (at : BoxOf G) (bs : List (BoxAt G)) → Rise bs → ¬ Holds bs e → at ≡ point_at v → LiesAt (with_box (record { elem = e; at = at }) bs) e v
  put_there e v at bs rises new at_is =
      let b : BoxAt G = record { elem = e; at = at } in
      record { holds = holds_new b bs new; is = box_new b bs rises new ∙ at_is }

  none_rise : Rise {G = G} []
  none_rise i j d below inside = absurd (omega arith)

  pub first_pin : (pin : Pin) (pins : List Pin) → AreSoundPins (pin ∷ pins) → LiesAt (pin_boxes F (pin ∷ pins)) pin.elem (given_place pin)
  unfolding union
  first_pin pin pins sound =
      put_there pin.elem (given_place pin) (pin_box F pin) (with_boxes (map (pin_at F) pins) []) (rises_with_all (map (pin_at F) pins) [] none_rise) new refl
    where
      new : ¬ Holds (with_boxes (map (pin_at {G = G} F) pins) []) pin.elem
      new h = (let other = pins_hold G F pins pin.elem h in apart other.0 other.1 other.2)
        where
          apart : (q : Pin) → Contains pins q → q.elem ≡ pin.elem → ⊥
          apart q (j, below, q_is) same = sound.elements_differ 0 (suc j) q (omega arith) (omega arith) (sym same ∙ ap (λ (x : Pin). x.elem) (sym q_is))
