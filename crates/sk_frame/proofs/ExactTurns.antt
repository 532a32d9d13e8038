-- A turn along an axis is exact.
use Rattle.std.proofs.Common.{◌≡◌, ℕ, zero, suc, ◌+◌, ◌*◌, ◌^◌, ◌<◌, ◌≤◌, ℤ, pos, negsuc, ◌+ℤ◌, ◌*ℤ◌, unsigned_abs, [], ◌∷◌, Ok, false, sym, ap, ◌∙◌, arith}
use Rattle.std.proofs.lemmas.Int.{ints, unsigned_abs-mul}
use Rattle.std.proofs.lemmas.Nat.{mul-le, pow-add}
use Rattle.sk_base.proofs.Magnitudes.{square_size}
use native.Mathlib.Nat.{le_refl}
use Rattle.sk_root.specs.Roots.{ceil_root}
use Rattle.sk_root.proofs.RootLemmas.{floor_root-is, ceil_root-square}
use Rattle.sk_orient.specs.PlacedSigns.{placed_sign}
use Rattle.sk_interval.specs.Interval.{Interval, one}
use Rattle.sk_interval.specs.Rounding.{floor_of, ceil_of}
use Rattle.sk_interval.specs.Operations.{whole, product, sum, root, quotient, bounded, holds_zero, least_at, greatest_at}
use Rattle.sk_interval.proofs.PowerLemmas.{unit-positive}
use Rattle.sk_interval.proofs.ProductLemmas.{bounded-ok}
use Rattle.sk_interval.proofs.RatioLemmas.{root-real, quotient-bounded}
use Rattle.sk_interval.proofs.ScaleLemmas.{scale-scale}
use Rattle.sk_steps.specs.declared.What.{What}
use Rattle.sk_steps.specs.Quantities.{evaluate}
use Rattle.sk_steps.specs.SettledMotions.{unit_turn}
use Rattle.sk_frame.proofs.Ratios.{least_same, greatest_same}
use Rattle.sk_frame.proofs.UnitTurns.{exactly, square_is, evaluated, floor_whole, ceil_whole}

abbrev make : ℤ → ℤ → Interval
make l h = record { lo = l; hi = h }

square_exact : (F : ℕ) (a : ℤ) (q : ℕ) → unsigned_abs a ≤ 2 ^ 23 * 2 ^ F → a *ℤ a ≡ pos q *ℤ pos (2 ^ F) → product F (exactly a) (exactly a) ≡ Ok (exactly (pos q))
square_exact F a q small is =
    square_is F a small
    ∙ ap (λ z. Ok (make (floor_of z (pos (2 ^ F))) (ceil_of z (pos (2 ^ F))))) is
    ∙ ap (λ l. Ok (make l (ceil_of (pos q *ℤ pos (2 ^ F)) (pos (2 ^ F))))) (floor_whole (pos q) (2 ^ F) (unit-positive F))
    ∙ ap (λ h. Ok (make (pos q) h)) (ceil_whole (pos q) (2 ^ F) (unit-positive F))

sum_exact : (F : ℕ) (a b c : ℕ) → a + b ≡ c → c ≤ 2 ^ 47 * 2 ^ F → sum F (exactly (pos a)) (exactly (pos b)) ≡ Ok (exactly (pos c))
sum_exact F a b c is small =
    let total : pos a +ℤ pos b ≡ pos c = omega (arith, ints, is) in
    let wide : 2 ^ 47 * 2 ^ F ≤ 2 ^ (50 + F) = omega (arith, pow-add 2 50 F) in
    ap (λ z. bounded 50 F (exactly z)) total ∙ bounded-ok 50 F (exactly (pos c)) (omega (arith, small, wide)) (omega (arith, small, wide))

root_exact : (F q s : ℕ) → 0 < q → s * s ≡ q * 2 ^ F → root F (exactly (pos q)) ≡ Ok (exactly (pos s))
root_exact F q s some is =
    sym (root-real F (exactly (pos q)) (omega (arith, ints, some)))
    ∙ ap (λ r. Ok (make (pos r) (pos (ceil_root (q * 2 ^ F))))) (sym (floor_root-is (q * 2 ^ F) s (omega (arith, is)) (omega (arith, is))))
    ∙ ap (λ r. Ok (make (pos s) (pos r))) (sym (ceil_root-square (q * 2 ^ F) s is))

part_exact : (F : ℕ) (n : ℤ) (s : ℕ) → unsigned_abs n ≤ 1 → 0 < s → quotient F (exactly (n *ℤ pos s)) (exactly (pos s)) ≡ Ok (whole F n)
part_exact F n s few some =
    let a : ℤ = n *ℤ pos s in
    let size : Interval = exactly (pos s) in
    let zero_out : holds_zero size ≡ false = grind (arith, ints) in
    let top : a *ℤ pos (2 ^ F) ≡ (n *ℤ pos (2 ^ F)) *ℤ pos s =
    scale-scale n s (2 ^ F) ∙ ap (λ (t : ℕ). n *ℤ pos t) (other_way s (2 ^ F)) ∙ sym (scale-scale n (2 ^ F) s) in
    let low : least_at (λ x b. floor_of (x *ℤ pos (one F)) b) (exactly a) size ≡ n *ℤ pos (2 ^ F) =
    least_same (floor_of (a *ℤ pos (2 ^ F)) (pos s)) ∙ ap (λ z. floor_of z (pos s)) top ∙ floor_whole (n *ℤ pos (2 ^ F)) s some in
    let high : greatest_at (λ x b. ceil_of (x *ℤ pos (one F)) b) (exactly a) size ≡ n *ℤ pos (2 ^ F) =
    greatest_same (ceil_of (a *ℤ pos (2 ^ F)) (pos s)) ∙ ap (λ z. ceil_of z (pos s)) top ∙ ceil_whole (n *ℤ pos (2 ^ F)) s some in
    let within : unsigned_abs (n *ℤ pos (2 ^ F)) ≤ 2 ^ (50 + F) =
    rw unsigned_abs-mul (omega (arith, pow-add 2 50 F, mul-le (unsigned_abs n) (2 ^ F) 1 (2 ^ F) few (le_refl _))) in
    sym (quotient-bounded F (exactly a) size zero_out)
    ∙ ap (λ l. bounded 50 F (make l (greatest_at (λ x b. ceil_of (x *ℤ pos (one F)) b) (exactly a) size))) low
    ∙ ap (λ h. bounded 50 F (make (n *ℤ pos (2 ^ F)) h)) high
    ∙ bounded-ok 50 F (whole F n) within within
  where
    other_way : (s t : ℕ) → s * t ≡ t * s
    other_way s t = omega arith

-- a part of the turn by its size, which is that of the turn where the other part is 0
record IsAxis (F u : ℕ) (z : ℤ) : Type 0 where
  square : ℕ
  size : ℕ
  square_is : product F (exactly (z *ℤ pos u)) (exactly (z *ℤ pos u)) ≡ Ok (exactly (pos square))
  small : square ≤ 2 ^ 46 * 2 ^ F
  root_is : root F (exactly (pos square)) ≡ Ok (exactly (pos size))
  some : 0 < size
  part_is : quotient F (exactly (z *ℤ pos u)) (exactly (pos size)) ≡ Ok (whole F (placed_sign z))

by_sign : (z : ℤ) (u : ℕ) → 0 < unsigned_abs z → z *ℤ pos u ≡ placed_sign z *ℤ pos (unsigned_abs z * u)
by_sign (pos zero) u some = absurd (omega (arith, some))
by_sign (pos (suc n)) u some = omega (arith, ints)
by_sign (negsuc n) u some = omega (arith, ints)

sign_few : (z : ℤ) → unsigned_abs (placed_sign z) ≤ 1
sign_few (pos zero) = omega arith
sign_few (pos (suc n)) = omega arith
sign_few (negsuc n) = omega arith

axis : (F u t : ℕ) → 2 ^ F ≡ 256 * u → u ≡ 256 * t → 0 < u → (z : ℤ) → unsigned_abs z ≤ 2147483647 → 0 < unsigned_abs z → IsAxis F u z
axis F u t unit finer u_some z few z_some =
    let p : ℕ = unsigned_abs z in
    let s : ℕ = p * u in
    let q : ℕ = p * p * t in
    let a : ℤ = z *ℤ pos u in
    let a_size : unsigned_abs a ≡ s = unsigned_abs-mul z (pos u) in
    let a_small : unsigned_abs a ≤ 2 ^ 23 * 2 ^ F = rw a_size (omega (arith, unit, mul-le p u 2147483648 u (omega (arith, few)) (le_refl _))) in
    let s_some : 0 < s = mul-le 1 1 p u z_some u_some in
    let t_some : 0 < t = omega (arith, finer, u_some) in
    let q_some : 0 < q = mul-le 1 1 (p * p) t (mul-le 1 1 p p z_some z_some) t_some in
    let squares : s * s ≡ q * 2 ^ F = rw (unit, finer) (products p t) in
    let a_square : a *ℤ a ≡ pos q *ℤ pos (2 ^ F) = square_size a ∙ ap pos (ap (λ (n : ℕ). n * n) a_size ∙ squares) in
    let q_small : q ≤ 2 ^ 46 * 2 ^ F = rw unit (rw finer (omega (arith, mul-le (p * p) t (2 ^ 62) t (mul-le p p (2 ^ 31) (2 ^ 31) (omega (arith, few)) (omega (arith, few))) (le_refl _)))) in
    record {
      square = q;
      size = s;
      square_is = square_exact F a q a_small a_square;
      small = q_small;
      root_is = root_exact F q s q_some squares;
      some = s_some;
      part_is = ap (λ x. quotient F (exactly x) (exactly (pos s))) (by_sign z u z_some) ∙ part_exact F (placed_sign z) s (sign_few z) s_some;
    }
  where
    products : (p t : ℕ) → p * (256 * t) * (p * (256 * t)) ≡ p * p * t * (256 * (256 * t))
    products p t = omega arith

nothing_square : (F : ℕ) → product F (exactly (pos 0)) (exactly (pos 0)) ≡ Ok (exactly (pos 0))
nothing_square F = square_exact F (pos 0) 0 (omega arith) (omega (arith, ints))

nothing_part : (F s : ℕ) → 0 < s → quotient F (exactly (pos 0)) (exactly (pos s)) ≡ Ok (whole F (pos 0))
nothing_part F s some = ap (λ x. quotient F (exactly x) (exactly (pos s))) (nothing s) ∙ part_exact F (pos 0) s (omega arith) some
  where
    nothing : (s : ℕ) → pos 0 ≡ pos 0 *ℤ pos s
    nothing s = omega (arith, ints)

pub along : (F u t : ℕ) → 2 ^ F ≡ 256 * u → u ≡ 256 * t → 0 < u → (z : ℤ) → unsigned_abs z ≤ 2147483647 → 0 < unsigned_abs z
    → (size : Interval) × (evaluate {N = What} F (exactly (z *ℤ pos u) ∷ exactly (pos 0) ∷ []) unit_turn ≡ Ok (size ∷ whole F (placed_sign z) ∷ whole F (pos 0) ∷ []))
along F u t unit finer u_some z few z_some =
    let is = axis F u t unit finer u_some z few z_some in (
      exactly (pos is.size),
      evaluated F (exactly (z *ℤ pos u)) (exactly (pos 0)) (exactly (pos is.square)) (exactly (pos 0)) (exactly (pos is.square)) (exactly (pos is.size)) (whole F (placed_sign z)) (whole F (pos 0))
          is.square_is (nothing_square F) (sum_exact F is.square 0 is.square (omega arith) (omega (arith, is.small))) is.root_is is.part_is (nothing_part F is.size is.some),
    )

pub across : (F u t : ℕ) → 2 ^ F ≡ 256 * u → u ≡ 256 * t → 0 < u → (z : ℤ) → unsigned_abs z ≤ 2147483647 → 0 < unsigned_abs z
    → (size : Interval) × (evaluate {N = What} F (exactly (pos 0) ∷ exactly (z *ℤ pos u) ∷ []) unit_turn ≡ Ok (size ∷ whole F (pos 0) ∷ whole F (placed_sign z) ∷ []))
across F u t unit finer u_some z few z_some =
    let is = axis F u t unit finer u_some z few z_some in (
      exactly (pos is.size),
      evaluated F (exactly (pos 0)) (exactly (z *ℤ pos u)) (exactly (pos 0)) (exactly (pos is.square)) (exactly (pos is.square)) (exactly (pos is.size)) (whole F (pos 0)) (whole F (placed_sign z))
          (nothing_square F) is.square_is (sum_exact F 0 is.square is.square (omega arith) (omega (arith, is.small))) is.root_is (nothing_part F is.size is.some) is.part_is,
    )
