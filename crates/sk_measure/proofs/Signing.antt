-- The own least number with its sign.
use Rattle.std.proofs.Common.{◌≡◌, ℕ, zero, suc, ◌-◌, ◌*◌, ◌≤◌, ℤ, pos, neg_ℤ, ◌<ℤ◌, unsigned_abs, refl, sym, subst, FitsSigned, arith}
use Rattle.std.specs.Prelude.{◌↔◌, Bool, true, false, IsTrue}
use Rattle.std.specs.Int.{w64}
use Rattle.std.proofs.lemmas.Int.{ints}
use Rattle.std.proofs.lemmas.Nat.{mul-le}
use Rattle.sk_base.specs.declared.At.{At}
use Rattle.sk_base.specs.declared.At.TheVariants as places
use Rattle.sk_base.specs.declared.Edge.{Edge}
use Rattle.sk_base.specs.declared.Measure.{Measure}
use Rattle.sk_base.specs.declared.Measure.TheVariants.{PointPoint, PointLine, LineLine}
use Rattle.sk_base.specs.declared.Placed.{Placed}
use Rattle.sk_base.specs.declared.Sign.{Sign}
use Rattle.sk_base.specs.declared.Sign.TheVariants.{Plus, Minus}
use Rattle.sk_measure.specs.Offsets.{signed, angle_excess}
use Rattle.sk_measure.specs.WithSign.{with_sign}
use Rattle.sk_measure.specs.Holding.{IsMet, FallsShort}
use Rattle.sk_measure.specs.Placing.{lies}
use Rattle.sk_measure.specs.Items.{Item, IsOwnLeast, GivesLess, IsOffBy, constraint}

signed_size : (sign : Sign) (z : ℤ) → signed sign z <ℤ pos 0 → unsigned_abs z ≤ 0 → ⊥
signed_size Plus z below none = omega (arith, ints)
signed_size Minus z below none = omega (arith, ints)

-- where the places give less, the measure doesn't hold within 0
short_missed : (m : Measure) (u v : At) → FallsShort m u v → IsMet m u v 0 → ⊥
short_missed (PointPoint len) (places.Point x y) (places.Point z t) short met =
    let asked = 1000 * unsigned_abs len.0 in
    let squares = mul-le asked asked (asked - 0) (asked - 0) (omega arith) (omega arith) in
    let long = met.not_shorter in
    omega (arith, squares, long, short)
short_missed (PointLine len side) (places.Point x y) (places.Line a b c) short met = signed_size Plus _ short met
short_missed (LineLine ratio sense) (places.Line a b c) (places.Line d e f) short met = (let none : unsigned_abs (angle_excess ratio a b d e) ≤ 0 = omega (arith, met) in signed_size sense (angle_excess ratio a b d e) short none)
short_missed (PointPoint len) (places.Point x y) (places.Line a b c) short met = absurd short
short_missed (PointPoint len) (places.Line a b c) v short met = absurd short
short_missed (PointLine len side) (places.Point x y) (places.Point z r) short met = absurd short
short_missed (PointLine len side) (places.Line a b c) v short met = absurd short
short_missed (LineLine ratio sense) (places.Point x y) v short met = absurd short
short_missed (LineLine ratio sense) (places.Line a b c) (places.Point x y) short met = absurd short

module _ (p : Placed) (item : Item) (n : ℕ) (least : IsOwnLeast p item n) where
  more_off : ¬ GivesLess p item → IsOffBy p item (pos n)
  more_off more = record { size = least; less = ((λ below. absurd (omega (arith, ints, below))), (λ less. absurd (more less))) }

  less_off : (m : ℕ) → m ≡ n → (IsOwnLeast p item 0 → ⊥) → GivesLess p item → IsOffBy p item (neg_ℤ (pos m))
  less_off zero is missed less = absurd (missed (subst (λ (k : ℕ). IsOwnLeast p item k) (sym is) least))
  less_off (suc m) is missed less = record { size = subst (λ (k : ℕ). IsOwnLeast p item k) (sym is) least; less = ((λ below. less), (λ less'. omega (arith, ints))) }

  pub signed_off : (b : Bool) → IsTrue b ↔ GivesLess p item → (GivesLess p item → IsOwnLeast p item 0 → ⊥) → IsOffBy p item (with_sign b n)
  signed_off true tells missed = less_off n refl (missed (tells.0 refl)) (tells.0 refl)
  signed_off false tells missed = more_off (λ less. absurd (let is : IsTrue false = tells.1 less in cc))

pub sign_fits : (b : Bool) (n : ℕ) → n ≤ 9223372036854775807 → FitsSigned w64 (with_sign b n)
sign_fits true n few = omega (arith, ints)
sign_fits false n few = omega (arith, ints)

-- where the ends of a constraint give less, its own least number isn't 0
pub less_missed : (p : Placed) (e : Edge) → GivesLess p (constraint e) → IsOwnLeast p (constraint e) 0 → ⊥
less_missed p e less least = short_missed e.measure (lies p e.u) (lies p e.v) less least.holds
