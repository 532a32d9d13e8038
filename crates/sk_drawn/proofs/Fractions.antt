-- Nearest fractions, denominator by denominator.
use Rattle.std.proofs.Common.{◌≡◌, ℕ, ◌+◌, ◌*◌, ◌<◌, ◌≤◌, Bool, true, false, cond, inl, inr, arith, ap, refl, subst}
use Rattle.std.specs.Prelude.{nat_lt}
use Rattle.std.proofs.lemmas.Bool.{cases_lt}
use Rattle.std.proofs.lemmas.Bool.Decides.{nat_tests}
use Rattle.std.proofs.lemmas.Nat.{mul-le}
use Rattle.sk_drawn.specs.declared.fraction.Fraction.{Fraction}
use Rattle.sk_drawn.specs.DrawnValues.{IsNearestFraction, gap}

-- the fraction nearest to a / b of all of its denominator
pub record IsOver (a b : ℕ) (f : Fraction) : Type 0 where
  pub x : f.x ≤ f.y
  pub off : f.off ≡ gap (f.x * b) (a * f.y)
  pub few : 2 * f.off ≤ b
  pub nearest : (z : ℕ) → f.off ≤ gap (z * b) (a * f.y)

-- the fraction nearest to a / b of all with a denominator up to n
pub record IsBest (a b n : ℕ) (f : Fraction) : Type 0 where
  pub over : IsOver a b f
  pub some : 1 ≤ f.y
  pub most : f.y ≤ n
  pub best : (z w : ℕ) → 1 ≤ w → w ≤ n → f.off * w ≤ gap (z * b) (a * w) * f.y
  pub least : (z w : ℕ) → 1 ≤ w → w < f.y → f.off * w < gap (z * b) (a * w) * f.y

-- a nearer one is nearer than what was farther
carried : (f y1 e y2 w g : ℕ) → 1 ≤ y1 → f * y1 ≤ e * y2 → e * w ≤ g * y1 → f * w ≤ g * y2
carried f y1 e y2 w g some nearer farther =
    elim (cases_lt (g * y2) (f * w)) [
      | inr fine ↦ fine
      | inl not ↦ absurd (
          let up = mul-le (g * y2 + 1) y1 (f * w) y1 (omega (arith, not)) (omega arith) in
          let left = mul-le (f * y1) w (e * y2) w nearer (omega arith) in
          let right = mul-le (e * w) y2 (g * y1) y2 farther (omega arith) in
          apart (g * y2) (f * w) y1 (f * y1 * w) (e * y2 * w) (g * y1 * y2) some up (grind arith) left (grind arith) right (grind arith))
    ]
  where
    apart : (m n k p q r : ℕ) → 1 ≤ k → (m + 1) * k ≤ n * k → n * k ≡ p → p ≤ q → (e * w) * y2 ≡ q → (e * w) * y2 ≤ r → r ≡ m * k → ⊥
    apart m n k p q r some up one two three four five = (let wide : (m + 1) * k ≡ m * k + k = grind arith in omega (arith, wide))

-- and one that is nearer than another is nearer than what is no nearer than that
carried_on : (f y1 e y2 w g : ℕ) → 1 ≤ w → f * y1 < e * y2 → e * w ≤ g * y1 → f * w < g * y2
carried_on f y1 e y2 w g some nearer farther =
    elim (cases_lt (f * w) (g * y2)) [
      | inl fine ↦ fine
      | inr not ↦ absurd (
          let up = mul-le (g * y2) y1 (f * w) y1 not (omega arith) in
          let left = mul-le (f * y1 + 1) w (e * y2) w (omega (arith, nearer)) (omega arith) in
          let right = mul-le (e * w) y2 (g * y1) y2 farther (omega arith) in
          apart (f * y1 * w) (e * y2 * w) (g * y1 * y2) (g * y2 * y1) (f * w * y1) ((f * y1 + 1) * w) (e * y2 * w) (e * w * y2) (g * y1 * y2) some
          up (grind arith) (grind arith) left (grind arith) (grind arith) right (grind arith) (grind arith))
    ]
  where
    apart : (p q r i j k l m n : ℕ) → 1 ≤ w → i ≤ j → i ≡ r → j ≡ p → k ≤ l → k ≡ p + w → l ≡ q → m ≤ n → m ≡ q → n ≡ r → ⊥
    apart p q r i j k l m n some up i_is j_is left k_is l_is right m_is n_is = omega arith

level : (f y w g : ℕ) → w ≡ y → f ≤ g → f * w ≤ g * y
level f y w g is less = mul-le f w g y less (omega arith)

through : (e y2 f y1 w g : ℕ) → w ≡ y2 → e * y2 ≤ f * y1 → f ≤ g → e * w ≤ g * y1
through e y2 f y1 w g is less fewer =
    let more = mul-le f y1 g y1 fewer (omega arith) in
    let same : e * w ≡ e * y2 = ap (λ n. e * n) is in
    omega arith

pub first_best : (a b : ℕ) (f : Fraction) → IsOver a b f → f.y ≡ 1 → IsBest a b 1 f
first_best a b f over one = record {
  over = over;
  some = omega (arith, one);
  most = omega (arith, one);
  best = λ z w some few. (
      let is : w ≡ f.y = omega (arith, one, some, few) in
      level f.off f.y w (gap (z * b) (a * w)) is (subst (λ v. f.off ≤ gap (z * b) (a * v)) (let back : f.y ≡ w = omega (arith, is) in back) (over.nearest z)));
  least = λ z w some less. absurd (omega (arith, one, some, less));
}

pub next_best : (a b n : ℕ) (one other : Fraction) → IsBest a b n one → IsOver a b other → other.y ≡ n + 1
    → IsBest a b (n + 1) (cond (nat_lt (other.off * one.y) (one.off * other.y)) other one)
next_best a b n one other best over is = told (nat_lt (other.off * one.y) (one.off * other.y)) refl
  where
    nearest_at : (z w : ℕ) → w ≡ other.y → other.off ≤ gap (z * b) (a * w)
    nearest_at z w same = subst (λ v. other.off ≤ gap (z * b) (a * v)) (let back : other.y ≡ w = omega (arith, same) in back) (over.nearest z)

    told : (t : Bool) → nat_lt (other.off * one.y) (one.off * other.y) ≡ t → IsBest a b (n + 1) (cond t other one)
    told true test =
        let less : other.off * one.y < one.off * other.y = grind (arith, nat_tests) in
        record {
          over = over;
          some = omega (arith, is);
          most = omega (arith, is);
          best = λ z w some few. elim (cases_lt n w) [
            | inl last ↦ (let same : w ≡ other.y = omega (arith, is, last, few) in level other.off other.y w (gap (z * b) (a * w)) same (nearest_at z w same))
            | inr early ↦ carried other.off one.y one.off other.y w (gap (z * b) (a * w)) best.some (omega (arith, less)) (best.best z w some early)
          ];
          least = λ z w some fewer. carried_on other.off one.y one.off other.y w (gap (z * b) (a * w)) some less (best.best z w some (omega (arith, is, fewer)));
        }
    told false test =
        let less : one.off * other.y ≤ other.off * one.y = grind (arith, nat_tests) in
        record {
          over = best.over;
          some = best.some;
          most = let m = best.most in omega (arith, m);
          best = λ z w some few. elim (cases_lt n w) [
            | inl last ↦ (let same : w ≡ other.y = omega (arith, is, last, few) in through one.off other.y other.off one.y w (gap (z * b) (a * w)) same less (nearest_at z w same))
            | inr early ↦ best.best z w some early
          ];
          least = best.least;
        }

pub best_is_nearest : (a b : ℕ) (f : Fraction) → IsBest a b 10000 f → IsNearestFraction a b f.x f.y
best_is_nearest a b f best = record {
  some = best.some;
  few = best.most;
  nearest = λ z w some few. subst (λ off. off * w ≤ gap (z * b) (a * w) * f.y) best.over.off (best.best z w some few);
  least = λ z w some less. subst (λ off. off * w < gap (z * b) (a * w) * f.y) best.over.off (best.least z w some less);
}
