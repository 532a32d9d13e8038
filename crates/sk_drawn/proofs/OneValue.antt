-- What is drawn between two elements is one value: one root, one fraction, one ratio.
use Rattle.std.proofs.Common.{◌≡◌, ◌≢◌, ℕ, zero, suc, ◌+◌, ◌*◌, ◌-◌, ◌<◌, ◌≤◌, Bool, true, false, inl, inr, refl, arith, ap, sym, subst, ◌∙◌}
use Rattle.std.specs.Prelude.{ℤ, pos, neg_ℤ, Option, None, Some, IfNone, ◌*ℤ◌, ◌&&◌, int_lt, nat_lt, unsigned_abs, nat_le, min, max, cond}
use Rattle.std.proofs.lemmas.Bool.Decides.{nat_tests}
use Rattle.std.proofs.lemmas.Bool.{cases_lt}
use Rattle.std.proofs.lemmas.Int.{ints}
use Rattle.std.proofs.lemmas.Nat.{mul-le}
use Rattle.sk_base.specs.declared.Ratio.{Ratio}
use Rattle.sk_base.specs.SoundSketch.{IsSoundRatio}
use Rattle.sk_drawn.specs.DrawnValues.{Quotient, IsNearestRoot, IsNearestFraction, IsNearestRatio, gap, signed}

-- a factor is taken away
cancelled : (m n k : ℕ) → 1 ≤ k → m * k ≤ n * k → m ≤ n
cancelled m n k some less =
    elim (cases_lt n m) [
      | inr fine ↦ fine
      | inl not ↦ absurd (
          let up = mul-le (n + 1) k m k (omega (arith, not)) (omega arith) in
          let wide : (n + 1) * k ≡ n * k + k = grind arith in
          omega (arith, up, wide))
    ]

-- a root isn't below another one
not_below : (q : Quotient) (r t : ℕ) → IsNearestRoot q r → IsNearestRoot q t → ¬ (r < t)
not_below q r t one other below =
    let up = mul-le (2 * r + 1) (2 * r + 1) (2 * t - 1) (2 * t - 1) (omega arith) (omega arith) in
    let wide = mul-le ((2 * r + 1) * (2 * r + 1)) q.under ((2 * t - 1) * (2 * t - 1)) q.under up (omega arith) in
    let high = one.high in
    let low = other.low in
    omega (arith, wide, high, low)

pub one_root : (q : Quotient) (r t : ℕ) → IsNearestRoot q r → IsNearestRoot q t → r ≡ t
one_root q r t one other =
    let not_less = not_below q r t one other in
    let not_more = not_below q t r other one in
    elim (cases_lt r t) [
      | inl less ↦ absurd (not_less less)
      | inr up ↦ elim (cases_lt t r) [ inl more ↦ absurd (not_more more) | inr down ↦ omega (arith, up, down) ]
    ]

module _ (a b : ℕ) (a_in : a ≤ b) (b_some : 1 ≤ b) where
  -- halfway between two numerators over m + 1 some fraction over m is as near
  none_halfway : (x m d h : ℕ) → d + d ≡ b → a * m + a ≡ x * b + d → h ≡ gap (x * b) (a * m) → d * m < h * (m + 1) → ⊥
  none_halfway x m d h twice halfway is nearer =
      let wide : h * (m + 1) ≡ h * m + h = grind arith in
      elim (cases_lt (a * m) (x * b)) [
        | inr above ↦ (
            let sum : d ≡ h + a = omega (arith, above) in
            let parts : (h + a) * m ≡ h * m + a * m = grind arith in
            let all : d * m ≡ (h + a) * m = ap (λ n. n * m) sum in
            omega (arith, wide, sum, parts, all, above))
        | inl below ↦ (
            let sum : a ≡ d + h = omega (arith, below) in
            let parts : (d + h) * m ≡ d * m + h * m = grind arith in
            let all : a * m ≡ (d + h) * m = ap (λ n. n * m) sum in
            let double : (d + d) * m ≡ d * m + d * m = grind arith in
            let whole : (d + d) * m ≡ b * m = ap (λ n. n * m) twice in
            let less : b * m < x * b = omega (arith, wide, sum, parts, all, double, whole, below) in
            too_far less)
      ]
    where
      too_far : b * m < x * b → ⊥
      too_far less =
          elim (cases_lt m x) [
            | inr few ↦ (
                let up = mul-le x b m b few (omega arith) in
                let same : m * b ≡ b * m = grind arith in
                omega (arith, up, same))
            | inl many ↦ (
                let up = mul-le (m + 1) b x b (omega (arith, many)) (omega arith) in
                let most = mul-le a (m + 1) b (m + 1) a_in (omega arith) in
                let first : (m + 1) * b ≡ b * m + b = grind arith in
                let second : a * (m + 1) ≡ a * m + a = grind arith in
                let third : b * (m + 1) ≡ b * m + b = grind arith in
                omega (arith, up, most, first, second, third))
          ]

  -- of one denominator no two numerators are nearest
  none_beside : (x z m : ℕ) → IsNearestFraction a b x (m + 1) → IsNearestFraction a b z (m + 1) → ¬ (x < z)
  none_beside x z m p q below =
      let some : 1 ≤ m + 1 = omega arith in
      let up = mul-le (x + 1) b z b (omega (arith, below)) (omega arith) in
      let wide : (x + 1) * b ≡ x * b + b = grind arith in
      let level : gap (x * b) (a * (m + 1)) ≤ gap (z * b) (a * (m + 1)) = cancelled _ _ (m + 1) some (p.nearest z (m + 1) some p.few) in
      let back : gap (z * b) (a * (m + 1)) ≤ gap (x * b) (a * (m + 1)) = cancelled _ _ (m + 1) some (q.nearest x (m + 1) some p.few) in
      let next : gap (x * b) (a * (m + 1)) ≤ gap ((x + 1) * b) (a * (m + 1)) = cancelled _ _ (m + 1) some (p.nearest (x + 1) (m + 1) some p.few) in
      halfway (a * (m + 1)) (z * b) (x * b) ((x + 1) * b) refl refl wide up level back next
    where
      split : m ≡ 0 → a * (m + 1) + a * (m + 1) ≡ x * b + x * b + b → ⊥
      split is twice =
          let far = p.nearest (2 * x + 1) 2 (omega arith) (omega arith) in
          let over : (2 * x + 1) * b ≡ x * b + x * b + b = grind arith in
          let under : a * (m + 1) ≡ a = (let one : m + 1 ≡ 1 = omega (arith, is) in ap (λ n. a * n) one ∙ (let same : a * 1 ≡ a = grind arith in same)) in
          let both : a * 2 ≡ a + a = grind arith in
          let none : gap ((2 * x + 1) * b) (a * 2) ≡ 0 = omega (arith, over, under, both, twice) in
          let nothing : gap (x * b) (a * (m + 1)) * 2 ≤ 0 * (m + 1) = subst (λ g. gap (x * b) (a * (m + 1)) * 2 ≤ g * (m + 1)) none far in
          let zero_times : 0 * (m + 1) ≡ 0 = grind arith in
          omega (arith, nothing, zero_times, twice, b_some)

      over_less : 1 ≤ m → a * (m + 1) + a * (m + 1) ≡ x * b + x * b + b → ⊥
      over_less more twice =
          let nearer = p.least x m more (omega arith) in
          let parts : a * (m + 1) ≡ a * m + a = grind arith in
          let d_is : gap (x * b) (a * (m + 1)) ≡ a * (m + 1) - x * b = omega (arith, twice) in
          none_halfway x m (gap (x * b) (a * (m + 1))) (gap (x * b) (a * m)) (omega (arith, d_is, twice)) (omega (arith, d_is, parts, twice)) refl nearer

      halfway : (l u v w : ℕ) → l ≡ a * (m + 1) → v ≡ x * b → w ≡ v + b → w ≤ u → gap v l ≤ gap u l → gap u l ≤ gap v l → gap v l ≤ gap w l → ⊥
      halfway l u v w l_is v_is w_is up level back next =
          let twice : l + l ≡ v + v + b = omega arith in
          let told : a * (m + 1) + a * (m + 1) ≡ x * b + x * b + b = omega (arith, twice) in
          elim (cases_lt 0 m) [ inl more ↦ over_less (omega (arith, more)) told | inr none ↦ split (omega (arith, none)) told ]

  -- no other denominator is least
  none_less : (x y z w : ℕ) → IsNearestFraction a b x y → IsNearestFraction a b z w → ¬ (w < y)
  none_less x y z w p q less =
      let further = p.least z w q.some less in
      let nearest = q.nearest x y p.some p.few in
      omega (arith, further, nearest)

  pub one_denominator : (x y z w : ℕ) → IsNearestFraction a b x y → IsNearestFraction a b z w → y ≡ w
  one_denominator x y z w p q =
      elim (cases_lt y w) [
        | inl less ↦ absurd (none_less z w x y q p less)
        | inr up ↦ elim (cases_lt w y) [ inl more ↦ absurd (none_less x y z w p q more) | inr down ↦ omega (arith, up, down) ]
      ]

  numerators : (x z m : ℕ) → IsNearestFraction a b x (m + 1) → IsNearestFraction a b z (m + 1) → x ≡ z
  numerators x z m p q =
      elim (cases_lt x z) [
        | inl less ↦ absurd (none_beside x z m p q less)
        | inr up ↦ elim (cases_lt z x) [ inl more ↦ absurd (none_beside z x m q p more) | inr down ↦ omega (arith, up, down) ]
      ]

  pub one_numerator : (x y z w : ℕ) → IsNearestFraction a b x y → IsNearestFraction a b z w → x ≡ z
  one_numerator x y z w p q =
      let some = p.some in
      let same = one_denominator x y z w p q in
      let is : y ≡ (y - 1) + 1 = omega (arith, some) in
      numerators x z (y - 1) (subst (λ v. IsNearestFraction a b x v) is p) (subst (λ v. IsNearestFraction a b z v) (sym same ∙ is) q)

pub one_ratio : (c d : ℤ) (one other : Ratio) → IsNearestRatio c d one → IsNearestRatio c d other → one ≡ other
one_ratio c d one other p q =
    let low : min (unsigned_abs c) (unsigned_abs d) ≤ max (unsigned_abs c) (unsigned_abs d) = omega arith in
    let turned = p.turned in
    let size : unsigned_abs c ≢ 0 = λ none. turned (omega (arith, ints, none)) in
    let some : 1 ≤ max (unsigned_abs c) (unsigned_abs d) = above_none (unsigned_abs c) (unsigned_abs d) size in
    let over = one_numerator (min (unsigned_abs c) (unsigned_abs d)) (max (unsigned_abs c) (unsigned_abs d)) low some p.x p.y q.x q.y p.nearest q.nearest in
    let under = one_denominator (min (unsigned_abs c) (unsigned_abs d)) (max (unsigned_abs c) (unsigned_abs d)) low some p.x p.y q.x q.y p.nearest q.nearest in
    let flat : Bool = nat_le (unsigned_abs c) (unsigned_abs d) in
    let p_of : ℕ → ℕ → ℤ = λ x y. signed c d (cond flat x y) (cond flat y x) in
    let q_of : ℕ → ℕ → ℤ = λ x y. pos (cond flat y x) in
    let make : ℤ → ℤ → Ratio = λ m n. record { p = m; q = n } in
    ap (λ m. make m one.q) (p.p ∙ ap (λ x. p_of x p.y) over ∙ ap (λ y. p_of q.x y) under ∙ sym q.p)
    ∙ ap (λ n. make other.p n) (p.q ∙ ap (λ x. q_of x p.y) over ∙ ap (λ y. q_of q.x y) under ∙ sym q.q)
  where
    above_none : (m n : ℕ) → m ≢ 0 → 1 ≤ max m n
    above_none zero n not = absurd (not refl)
    above_none (suc m) n not = omega arith

-- a ratio of which the nearest fraction is 0 isn't sound
module _ (c d : ℤ) (x y m n : ℕ) (some : 1 ≤ n) (nearest : IsNearestFraction m n x y) where
  pub none_flat : m ≡ unsigned_abs c → n ≡ unsigned_abs d → m ≤ n → x ≡ 0 → (ratio : Ratio) → IsSoundRatio ratio → ¬ IsNearestRatio c d ratio
  none_flat m_is n_is less none ratio sound is =
      let test : nat_le (unsigned_abs c) (unsigned_abs d) ≡ true = grind (arith, nat_tests) in
      let low : min (unsigned_abs c) (unsigned_abs d) ≡ m = omega arith in
      let high : max (unsigned_abs c) (unsigned_abs d) ≡ n = omega arith in
      let here : IsNearestFraction m n is.x is.y = subst (λ k. IsNearestFraction m k is.x is.y) high (subst (λ k. IsNearestFraction k (max (unsigned_abs c) (unsigned_abs d)) is.x is.y) low is.nearest) in
      let over = one_numerator m n less some is.x is.y x y here nearest in
      sound.0 (is.p ∙ ap (λ (t : Bool). signed c d (cond t is.x is.y) (cond t is.y is.x)) test ∙ ap (λ (k : ℕ). signed c d k is.y) (over ∙ none) ∙ nothing (int_lt (c *ℤ d) (pos 0) && nat_lt 0 is.y))
    where
      nothing : (t : Bool) → cond t (neg_ℤ (pos 0)) (pos 0) ≡ pos 0
      nothing true = refl
      nothing false = refl

-- what comes of an answer that isn't there
pub none_when : {P : Type 0} (r : Option Ratio) (x : ℕ) → (x ≡ 0 → P) → IfNone r (x ≡ 0) → IfNone r P
none_when None x then none = then none
none_when (Some ratio) x then none = tt

pub some_along : (c : ℤ) (m n : ℕ) → c ≢ pos 0 → m ≡ unsigned_abs c → m ≤ n → 1 ≤ n
some_along c m n turned is less = (let size : unsigned_abs c ≢ 0 = λ none. turned (omega (arith, ints, none)) in above m n (λ none. size (sym is ∙ none)) less)
  where
    above : (m n : ℕ) → m ≢ 0 → m ≤ n → 1 ≤ n
    above zero n not less = absurd (not refl)
    above (suc m) n not less = omega arith
