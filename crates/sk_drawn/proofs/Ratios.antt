-- Ratios nearest to a tangent, flat and steep.
use Rattle.std.proofs.Common.{◌≡◌, ◌≢◌, ℕ, ◌<◌, ◌≤◌, Bool, true, false, cond, arith, sym, subst, ◌∙◌, ap}
use Rattle.std.specs.Prelude.{ℤ, pos, Option, None, Some, IfNone, IfSome, unsigned_abs, nat_le, min, max, unwrap_or}
use Rattle.std.proofs.lemmas.Bool.Decides.{nat_tests}
use Rattle.sk_base.specs.declared.Elem.{Elem}
use Rattle.sk_base.specs.declared.Ratio.{Ratio}
use Rattle.sk_base.specs.declared.Shape.{Shape}
use Rattle.sk_base.specs.declared.Shape.TheVariants.{Point}
use Rattle.sk_base.specs.declared.Sketch.{Sketch}
use Rattle.sk_base.specs.Drawn.{shape_of}
use Rattle.sk_base.specs.SoundSketch.{IsSoundRatio}
use Rattle.sk_graph.specs.SketchGraph.{drawn_as}
use Rattle.sk_drawn.specs.DrawnValues.{IsNearestFraction, IsNearestRatio, IsDrawnRatio, signed}

module _ (c d : ℤ) (turned : c ≢ pos 0) where
  flat_is : (x y : ℕ) (ratio : Ratio) (m n : ℕ) → m ≡ unsigned_abs c → n ≡ unsigned_abs d → m ≤ n → IsNearestFraction m n x y
      → ratio.p ≡ signed c d x y → ratio.q ≡ pos y → IsNearestRatio c d ratio
  flat_is x y ratio m n m_is n_is less nearest p q =
      let test : nat_le (unsigned_abs c) (unsigned_abs d) ≡ true = grind (arith, nat_tests) in
      let low : m ≡ min (unsigned_abs c) (unsigned_abs d) = omega arith in
      let high : n ≡ max (unsigned_abs c) (unsigned_abs d) = omega arith in record {
        x = x;
        y = y;
        turned = turned;
        nearest = subst (λ k. IsNearestFraction (min (unsigned_abs c) (unsigned_abs d)) k x y) high (subst (λ k. IsNearestFraction k n x y) low nearest);
        p = p ∙ ap (λ (t : Bool). signed c d (cond t x y) (cond t y x)) (sym test);
        q = q ∙ ap (λ (t : Bool). pos (cond t y x)) (sym test);
      }

  steep_is : (x y : ℕ) (ratio : Ratio) (m n : ℕ) → m ≡ unsigned_abs d → n ≡ unsigned_abs c → m < n → IsNearestFraction m n x y
      → ratio.p ≡ signed c d y x → ratio.q ≡ pos x → IsNearestRatio c d ratio
  steep_is x y ratio m n m_is n_is less nearest p q =
      let test : nat_le (unsigned_abs c) (unsigned_abs d) ≡ false = grind (arith, nat_tests) in
      let low : m ≡ min (unsigned_abs c) (unsigned_abs d) = omega arith in
      let high : n ≡ max (unsigned_abs c) (unsigned_abs d) = omega arith in record {
        x = x;
        y = y;
        turned = turned;
        nearest = subst (λ k. IsNearestFraction (min (unsigned_abs c) (unsigned_abs d)) k x y) high (subst (λ k. IsNearestFraction k n x y) low nearest);
        p = p ∙ ap (λ (t : Bool). signed c d (cond t x y) (cond t y x)) (sym test);
        q = q ∙ ap (λ (t : Bool). pos (cond t y x)) (sym test);
      }

  pub flat_nearest : (x y : ℕ) (r : Option Ratio) (m n : ℕ) → m ≡ unsigned_abs c → n ≡ unsigned_abs d → m ≤ n → IsNearestFraction m n x y
      → IfSome r (λ ratio. ratio.p ≡ signed c d x y) → IfSome r (λ ratio. ratio.q ≡ pos y) → IfSome r (IsNearestRatio c d)
  flat_nearest x y None m n m_is n_is less nearest p q = tt
  flat_nearest x y (Some ratio) m n m_is n_is less nearest p q = flat_is x y ratio m n m_is n_is less nearest p q

  pub steep_nearest : (x y : ℕ) (r : Option Ratio) (m n : ℕ) → m ≡ unsigned_abs d → n ≡ unsigned_abs c → m < n → IsNearestFraction m n x y
      → IfSome r (λ ratio. ratio.p ≡ signed c d y x) → IfSome r (λ ratio. ratio.q ≡ pos x) → IfSome r (IsNearestRatio c d)
  steep_nearest x y None m n m_is n_is less nearest p q = tt
  steep_nearest x y (Some ratio) m n m_is n_is less nearest p q = steep_is x y ratio m n m_is n_is less nearest p q

-- no ratio is nearest to the same tangent
pub ratio_none : (r : Option Ratio) (m n c d : ℤ) → m ≡ c → n ≡ d → IfNone r ((ratio : Ratio) → IsSoundRatio ratio → ¬ IsNearestRatio m n ratio) → IfNone r ((ratio : Ratio) → IsSoundRatio ratio → ¬ IsNearestRatio c d ratio)
ratio_none r m n c d across along none =
    subst (λ (k : ℤ). IfNone r ((ratio : Ratio) → IsSoundRatio ratio → ¬ IsNearestRatio c k ratio)) along
    (subst (λ (k : ℤ). IfNone r ((ratio : Ratio) → IsSoundRatio ratio → ¬ IsNearestRatio k n ratio)) across none)

-- the angle of two lines is that of their shapes
pub ratio_drawn : (s : Sketch) (l m : Elem) (a b : Shape) (ratio : Ratio) → shape_of s l ≡ Some a → shape_of s m ≡ Some b → IsDrawnRatio a b ratio → IsDrawnRatio (drawn_as s l) (drawn_as s m) ratio
ratio_drawn s l m a b ratio a_is b_is drawn =
    let first : drawn_as s l ≡ a = ap (λ o. unwrap_or o (Point (record { 0 = pos 0 }) (record { 0 = pos 0 }))) a_is in
    let second : drawn_as s m ≡ b = ap (λ o. unwrap_or o (Point (record { 0 = pos 0 }) (record { 0 = pos 0 }))) b_is in
    subst (λ (z : Shape). IsDrawnRatio z (drawn_as s m) ratio) (sym first) (subst (λ (z : Shape). IsDrawnRatio a z ratio) (sym second) drawn)
