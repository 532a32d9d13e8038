-- How great the own least numbers can be: within the bounds of places, and where the normals of lines have length one.
use Rattle.std.proofs.Common.{◌≡◌, inl, inr, ℕ, ◌+◌, ◌-◌, ◌*◌, ◌≤◌, ◌^◌, ℤ, pos, negsuc, refl, sym, ◌-ℤ◌, ◌*ℤ◌, unsigned_abs, get_or, arith}
use Rattle.std.proofs.lemmas.Int.{ints, unsigned_abs-mul}
use Rattle.std.proofs.lemmas.Bool.{cases_lt}
use Rattle.std.proofs.lemmas.Nat.{mul-le}
use Rattle.std.proofs.Math.Nat.{mul-add, mul_comm, mul_assoc}
use Rattle.sk_base.specs.declared.At.{At}
use Rattle.sk_base.specs.declared.At.TheVariants as places
use Rattle.sk_base.specs.declared.Measure.{Measure}
use Rattle.sk_base.specs.declared.Measure.TheVariants.{PointPoint, PointLine, LineLine}
use Rattle.sk_base.specs.declared.Block.{Block}
use Rattle.sk_base.specs.declared.Edge.{Edge}
use Rattle.sk_base.specs.declared.Kind.TheVariants as kinds
use Rattle.sk_base.specs.declared.Pin.{Pin}
use Rattle.sk_base.specs.declared.Placed.{Placed}
use Rattle.sk_base.specs.declared.Ratio.{Ratio}
use Rattle.sk_base.specs.declared.Sign.{Sign}
use Rattle.sk_base.specs.declared.Sign.TheVariants.{Plus, Minus}
use Rattle.sk_base.specs.Bounds.{IsWithin, IsFromTo}
use Rattle.sk_base.specs.Pins.{IsOnSheet}
use Rattle.sk_base.specs.Places.{IsPoint, IsBounded}
use Rattle.sk_root.specs.Roots.{floor_root, ceil_root}
use Rattle.sk_root.proofs.RootLemmas.{floor_root-bounds}
use Rattle.sk_measure.specs.Offsets.{billion, signed, distance_squared, height_above, height_excess, normal_offset, cross, dot, angle_excess, angle_unit}
use Rattle.sk_measure.specs.Holding.{IsLength, IsNormal, IsMet, FitsKinds, given_squared, AreAsGiven}
use Rattle.sk_measure.specs.Placing.{lies, IsModerate, IsPlacedAs, IsMeasurable, AreMeasurable}
use Rattle.sk_measure.specs.Items.{constraint, block, ArePinsMet, IsOwnLeast}
use Rattle.sk_measure.proofs.Bounds.{abs_within, product_bound, difference_bound, height_bound}
use Rattle.sk_measure.proofs.Placings.{first_end, second_end, ends_fit}

-- ---- lengths

distance_within : (x y z t : ℤ) → IsWithin 1152921504606846976 x → IsWithin 1152921504606846976 y → IsWithin 1152921504606846976 z → IsWithin 1152921504606846976 t → distance_squared x y z t ≤ 2 ^ 123
distance_within x y z t hx hy hz ht =
    let across : unsigned_abs (x -ℤ z) ≤ 2 ^ 61 = omega (arith, ints) in
    let up : unsigned_abs (y -ℤ t) ≤ 2 ^ 61 = omega (arith, ints) in
    omega (arith, mul-le (unsigned_abs (x -ℤ z)) (unsigned_abs (x -ℤ z)) (2 ^ 61) (2 ^ 61) across across, mul-le (unsigned_abs (y -ℤ t)) (unsigned_abs (y -ℤ t)) (2 ^ 61) (2 ^ 61) up up)

length_reach : (shortest longest square n : ℕ) → shortest ≤ n → 4611686018427387903 ≤ n → square ≤ 2 ^ 123 → IsLength shortest longest square n
length_reach shortest longest square n short far few = record {
  not_shorter = (let none : shortest - n ≡ 0 = omega arith in rw none (omega arith));
  not_longer = (let more = mul-le 4611686018427387903 4611686018427387903 (longest + n) (longest + n) (omega arith) (omega arith) in omega (arith, more));
}

-- ---- heights

height_reach : (asked : ℤ) (side : Sign) (height : ℤ) (m : ℕ) → IsFromTo 0 1000000000 asked → unsigned_abs height ≤ m → unsigned_abs (height_excess asked side height) ≤ m + billion * (1000 * billion)
height_reach asked side height m moderate high =
    let few : unsigned_abs asked ≤ billion = omega (arith, ints) in
    let nano : unsigned_abs (pos 1000 *ℤ asked) ≤ 1000 * billion = product_bound (pos 1000) asked 1000 billion (omega arith) few in
    difference_bound (signed side height) (pos billion *ℤ (pos 1000 *ℤ asked)) m (billion * (1000 * billion)) (sided side) (product_bound (pos billion) (pos 1000 *ℤ asked) billion (1000 * billion) (omega arith) nano)
  where
    sided : (s : Sign) → unsigned_abs (signed s height) ≤ m
    sided Plus = high
    sided Minus = omega (arith, ints)

-- ---- normals of length one, within a thousandth

own_square : (z : ℤ) → z *ℤ z ≡ pos (unsigned_abs z * unsigned_abs z)
own_square (pos n) = refl
own_square (negsuc n) = refl

square_sum : (a b : ℤ) → normal_offset a b ≤ 1000000 * billion → unsigned_abs a * unsigned_abs a + unsigned_abs b * unsigned_abs b ≤ 1001000000000000000
square_sum a b near =
    let first : a *ℤ a ≡ pos (unsigned_abs a * unsigned_abs a) = own_square a in
    let second : b *ℤ b ≡ pos (unsigned_abs b * unsigned_abs b) = own_square b in
    omega (arith, ints, first, second, near)

part_small : (n : ℕ) → n * n ≤ 1001000000000000000 → n ≤ 1000500000
part_small n few = elim (cases_lt 1000500000 n) [
  | inr le ↦ le
  | inl lt ↦ absurd (let more = mul-le 1000500001 1000500001 n n (omega arith) (omega arith) in omega (arith, more))
]

height_near : (x y a b c : ℤ) → unsigned_abs x ≤ 2 ^ 60 → unsigned_abs y ≤ 2 ^ 60 → unsigned_abs a ≤ 1000500000 → unsigned_abs b ≤ 1000500000 → unsigned_abs c ≤ 2 ^ 60
    → unsigned_abs (height_above x y a b c) ≤ 3001000000 * 2 ^ 60
height_near x y a b c hx hy ha hb hc =
    let along = product_bound a x 1000500000 (2 ^ 60) ha hx in
    let across = product_bound b y 1000500000 (2 ^ 60) hb hy in
    let offset = product_bound (pos billion) c billion (2 ^ 60) (omega arith) hc in
    omega (arith, ints, along, across, offset)

greater : (m k n : ℕ) → n ≡ m + k → 2 * (m * n) ≤ m * m + n * n
greater m k n is =
    let first : m * (m + k) ≡ m * m + m * k = mul-add m m k in
    let second : (m + k) * (m + k) ≡ (m + k) * m + (m + k) * k = mul-add (m + k) m k in
    let third : (m + k) * m ≡ m * (m + k) = mul_comm (m + k) m in
    let fourth : (m + k) * k ≡ k * (m + k) = mul_comm (m + k) k in
    let fifth : k * (m + k) ≡ k * m + k * k = mul-add k m k in
    let sixth : k * m ≡ m * k = mul_comm k m in
    rw is (omega (arith, first, second, third, fourth, fifth, sixth))

twice_product : (m n : ℕ) → 2 * (m * n) ≤ m * m + n * n
twice_product m n = elim (cases_lt m n) [ inl lt ↦ greater m (n - m) n (omega arith) | inr le ↦ (let e = greater n (m - n) m (omega arith) in let turn : n * m ≡ m * n = mul_comm n m in omega (arith, e, turn)) ]

-- the products of two normals are at most as great
crossed : (a b d e : ℤ) → unsigned_abs a * unsigned_abs a + unsigned_abs b * unsigned_abs b ≤ 1001000000000000000 → unsigned_abs d * unsigned_abs d + unsigned_abs e * unsigned_abs e ≤ 1001000000000000000
    → (unsigned_abs (cross a b d e) ≤ 1001000000000000000) × (unsigned_abs (dot a b d e) ≤ 1001000000000000000)
crossed a b d e one other =
    let ae = unsigned_abs-mul a e in
    let bd = unsigned_abs-mul b d in
    let ad = unsigned_abs-mul a d in
    let be = unsigned_abs-mul b e in
    let twice_ae = twice_product (unsigned_abs a) (unsigned_abs e) in
    let twice_bd = twice_product (unsigned_abs b) (unsigned_abs d) in
    let twice_ad = twice_product (unsigned_abs a) (unsigned_abs d) in
    let twice_be = twice_product (unsigned_abs b) (unsigned_abs e) in
    (omega (arith, ints, ae, bd, twice_ae, twice_bd), omega (arith, ints, ad, be, twice_ad, twice_be))

-- the products of two normals within the bounds
products : (a b d e : ℤ) → unsigned_abs a ≤ 2000000000 → unsigned_abs b ≤ 2000000000 → unsigned_abs d ≤ 2000000000 → unsigned_abs e ≤ 2000000000
    → (unsigned_abs (cross a b d e) ≤ 8000000000000000000) × (unsigned_abs (dot a b d e) ≤ 8000000000000000000)
products a b d e ha hb hd he =
    let ae = product_bound a e 2000000000 2000000000 ha he in
    let bd = product_bound b d 2000000000 2000000000 hb hd in
    let ad = product_bound a d 2000000000 2000000000 ha hd in
    let be = product_bound b e 2000000000 2000000000 hb he in
    (omega (arith, ints, ae, bd), omega (arith, ints, ad, be))

angle_reach : (ratio : Ratio) (a b d e : ℤ) (n : ℕ) → unsigned_abs (cross a b d e) ≤ n * billion → unsigned_abs (dot a b d e) ≤ n * billion → unsigned_abs (angle_excess ratio a b d e) ≤ n * angle_unit ratio
angle_reach ratio a b d e n crosses dots =
    let p = unsigned_abs ratio.p in
    let q = unsigned_abs ratio.q in
    let along = product_bound ratio.q (cross a b d e) q (n * billion) (omega arith) crosses in
    let across = product_bound ratio.p (dot a b d e) p (n * billion) (omega arith) dots in
    let both = difference_bound (ratio.q *ℤ cross a b d e) (ratio.p *ℤ dot a b d e) (q * (n * billion)) (p * (n * billion)) along across in
    let parts : n * (billion * (p + q)) ≡ (n * billion) * (p + q) = sym (mul_assoc n billion (p + q)) in
    let sum : (n * billion) * (p + q) ≡ (n * billion) * p + (n * billion) * q = mul-add (n * billion) p q in
    let first : (n * billion) * p ≡ p * (n * billion) = mul_comm (n * billion) p in
    let second : (n * billion) * q ≡ q * (n * billion) = mul_comm (n * billion) q in
    omega (arith, both, parts, sum, first, second)

-- ---- what the measures ask

-- within the bounds of places: a length is off by less than 2^63, an angle by at most 8·10^9
abbrev pub bounded_reach : Measure → ℕ
bounded_reach (PointPoint len) = 9223372036854775807
bounded_reach (PointLine len side) = 9223372036854775807
bounded_reach (LineLine ratio sense) = 8000000000

below_sign : (m : Measure) → bounded_reach m ≤ 9223372036854775807
below_sign (PointPoint len) = omega arith
below_sign (PointLine len side) = omega arith
below_sign (LineLine ratio sense) = omega arith

met_reach : (m : Measure) (u v : At) → FitsKinds m u v → IsModerate m → IsBounded u → IsBounded v → IsMet m u v (bounded_reach m)
met_reach (PointPoint len) (places.Point x y) (places.Point z t) fits moderate hu hv =
    length_reach (1000 * unsigned_abs len.0) (1000 * unsigned_abs len.0) (distance_squared x y z t) 9223372036854775807 (omega (arith, ints)) (omega arith) (distance_within x y z t hu.0 hu.1 hv.0 hv.1)
met_reach (PointLine len side) (places.Point x y) (places.Line a b c) fits moderate hu hv =
    let high = height_bound x y a b c (abs_within _ _ hu.0) (abs_within _ _ hu.1) (abs_within _ _ hv.0) (abs_within _ _ hv.1) (abs_within _ _ hv.2) in
    omega (arith, height_reach len.0 side (height_above x y a b c) (5 * billion * 2 ^ 60) moderate high)
met_reach (LineLine ratio sense) (places.Line a b c) (places.Line d e f) fits moderate hu hv =
    let both = products a b d e (abs_within _ _ hu.0) (abs_within _ _ hu.1) (abs_within _ _ hv.0) (abs_within _ _ hv.1) in
    angle_reach ratio a b d e 8000000000 (omega (arith, both)) (omega (arith, both))
met_reach (PointPoint len) (places.Line a b c) v fits moderate hu hv = absurd fits.0
met_reach (PointPoint len) (places.Point x y) (places.Line a b c) fits moderate hu hv = absurd fits.1
met_reach (PointLine len side) (places.Line a b c) v fits moderate hu hv = absurd fits.0
met_reach (PointLine len side) (places.Point x y) (places.Point z t) fits moderate hu hv = absurd fits.1
met_reach (LineLine ratio sense) (places.Point x y) v fits moderate hu hv = absurd fits.0
met_reach (LineLine ratio sense) (places.Line a b c) (places.Point x y) fits moderate hu hv = absurd fits.1

-- the normal of a line has length one, within a thousandth
abbrev pub IsStraight : At → Type 0
IsStraight (places.Point x y) = Unit {0}
IsStraight (places.Line a b c) = IsNormal (places.Line a b c) 1000000

-- where the lines are so: a length is off by less than 2^62, an angle by at most 1.001·10^9
abbrev pub reach : Measure → ℕ
reach (PointPoint len) = 4611686018427387903
reach (PointLine len side) = 4611686018427387903
reach (LineLine ratio sense) = 1001000000

met_near : (m : Measure) (u v : At) → FitsKinds m u v → IsModerate m → IsBounded u → IsBounded v → IsStraight u → IsStraight v → IsMet m u v (reach m)
met_near (PointPoint len) (places.Point x y) (places.Point z t) fits moderate hu hv su sv =
    length_reach (1000 * unsigned_abs len.0) (1000 * unsigned_abs len.0) (distance_squared x y z t) 4611686018427387903 (omega (arith, ints)) (omega arith) (distance_within x y z t hu.0 hu.1 hv.0 hv.1)
met_near (PointLine len side) (places.Point x y) (places.Line a b c) fits moderate hu hv su sv =
    let squares = square_sum a b sv in
    let first = part_small (unsigned_abs a) (omega (arith, squares)) in
    let second = part_small (unsigned_abs b) (omega (arith, squares)) in
    let high = height_near x y a b c (abs_within _ _ hu.0) (abs_within _ _ hu.1) first second (abs_within _ _ hv.2) in
    omega (arith, height_reach len.0 side (height_above x y a b c) (3001000000 * 2 ^ 60) moderate high)
met_near (LineLine ratio sense) (places.Line a b c) (places.Line d e f) fits moderate hu hv su sv =
    let both = crossed a b d e (square_sum a b su) (square_sum d e sv) in
    angle_reach ratio a b d e 1001000000 (omega (arith, both)) (omega (arith, both))
met_near (PointPoint len) (places.Line a b c) v fits moderate hu hv su sv = absurd fits.0
met_near (PointPoint len) (places.Point x y) (places.Line a b c) fits moderate hu hv su sv = absurd fits.1
met_near (PointLine len side) (places.Line a b c) v fits moderate hu hv su sv = absurd fits.0
met_near (PointLine len side) (places.Point x y) (places.Point z t) fits moderate hu hv su sv = absurd fits.1
met_near (LineLine ratio sense) (places.Point x y) v fits moderate hu hv su sv = absurd fits.0
met_near (LineLine ratio sense) (places.Line a b c) (places.Point x y) fits moderate hu hv su sv = absurd fits.1

pub point_straight : (at : At) → IsPoint at → IsStraight at
point_straight (places.Point x y) is = tt
point_straight (places.Line a b c) is = absurd is

pub line_straight : (at : At) → IsNormal at 1000000 → IsStraight at
line_straight (places.Point x y) is = absurd is
line_straight (places.Line a b c) is = is

module _ (p : Placed) (e : Edge) (can : IsMeasurable p e) where
  pub own_bounded : (n : ℕ) → IsOwnLeast p (constraint e) n → n ≤ bounded_reach e.measure
  own_bounded n least =
      let u = first_end p e.u e.v e.measure can.ends in
      let v = second_end p e.u e.v e.measure can.ends in
      least.least (bounded_reach e.measure) (met_reach e.measure (lies p e.u) (lies p e.v) (ends_fit p e.u e.v e.measure can.ends) can.moderate u.1.bounded v.1.bounded)

  pub own_reach : (n : ℕ) → IsOwnLeast p (constraint e) n → n ≤ 9223372036854775807
  own_reach n least = (let few = own_bounded n least in let below = below_sign e.measure in omega (arith, few, below))

  pub own_near : IsStraight (lies p e.u) → IsStraight (lies p e.v) → (n : ℕ) → IsOwnLeast p (constraint e) n → n ≤ reach e.measure
  own_near u_straight v_straight n least =
      let u = first_end p e.u e.v e.measure can.ends in
      let v = second_end p e.u e.v e.measure can.ends in
      least.least (reach e.measure) (met_near e.measure (lies p e.u) (lies p e.v) (ends_fit p e.u e.v e.measure can.ends) can.moderate u.1.bounded v.1.bounded u_straight v_straight)

-- ---- blocks

root_small : (n : ℕ) → n ≤ 2 ^ 83 → floor_root n ≤ 4611686018427387903
root_small n few = elim (cases_lt 4611686018427387903 (floor_root n)) [
  | inr le ↦ le
  | inl lt ↦ absurd (
      let root = (floor_root-bounds n).0 in
      let more = mul-le 4611686018427387904 4611686018427387904 (floor_root n) (floor_root n) (omega arith) (omega arith) in
      omega (arith, root, more))
]

given_small : (a b : Pin) → IsOnSheet a → IsOnSheet b → given_squared a b ≤ 2 ^ 83
given_small a b ha hb =
    let across : unsigned_abs (a.x.0 -ℤ b.x.0) ≤ 2000000000 = omega (arith, ints) in
    let up : unsigned_abs (a.y.0 -ℤ b.y.0) ≤ 2000000000 = omega (arith, ints) in
    omega (arith, mul-le (unsigned_abs (a.x.0 -ℤ b.x.0)) (unsigned_abs (a.x.0 -ℤ b.x.0)) 2000000000 2000000000 across across, mul-le (unsigned_abs (a.y.0 -ℤ b.y.0)) (unsigned_abs (a.y.0 -ℤ b.y.0)) 2000000000 2000000000 up up)

given_reach : (a b : Pin) (u v : At) → IsOnSheet a → IsOnSheet b → IsPoint u → IsPoint v → IsBounded u → IsBounded v → AreAsGiven a b u v 4611686018427387903
given_reach a b (places.Point x y) (places.Point z t) ha hb pu pv hu hv =
    length_reach (floor_root (given_squared a b)) (ceil_root (given_squared a b)) (distance_squared x y z t) 4611686018427387903 (root_small (given_squared a b) (given_small a b ha hb)) (omega arith) (distance_within x y z t hu.0 hu.1 hv.0 hv.1)
given_reach a b (places.Line c d e) v ha hb pu pv hu hv = absurd pu
given_reach a b (places.Point x y) (places.Line c d e) ha hb pu pv hu hv = absurd pv

pub block_reach : (p : Placed) (b : Block) → AreMeasurable p b.pins → (n : ℕ) → IsOwnLeast p (block b) n → n ≤ 4611686018427387903
block_reach p b can n least = least.least 4611686018427387903 met
  where
    met : ArePinsMet p b.pins 4611686018427387903
    met i j d i_j j_in = (
        let u : IsPlacedAs p (get_or b.pins i d).elem kinds.Point = can.placed i d (omega arith) in
        let v : IsPlacedAs p (get_or b.pins j d).elem kinds.Point = can.placed j d j_in in
        given_reach (get_or b.pins i d) (get_or b.pins j d) (lies p (get_or b.pins i d).elem) (lies p (get_or b.pins j d).elem) (can.on_sheet i d (omega arith)) (can.on_sheet j d j_in) u.has_kind v.has_kind u.bounded v.bounded)
