-- How far off a constraint is: there is one answer, and one alone.
use Rattle.std.proofs.Common.{◌≡◌, inl, inr, ℕ, suc, ◌<◌, ℤ, pos, negsuc, ◌<ℤ◌, refl, sym, ap, ◌∙◌, arith}
use Rattle.std.specs.Prelude.{List, Bool, true, false, IsTrue, ◌↔◌, Option, None, Some}
use Rattle.std.proofs.lemmas.Bool.{cases_lt}
use Rattle.std.proofs.lemmas.Int.{ints}
use Rattle.sk_base.specs.declared.At.{At}
use Rattle.sk_base.specs.declared.At.TheVariants as places
use Rattle.sk_base.specs.declared.ConId.{ConId}
use Rattle.sk_base.specs.declared.Graph.{Graph}
use Rattle.sk_base.specs.declared.Measure.{Measure}
use Rattle.sk_base.specs.declared.Measure.TheVariants.{PointPoint, PointLine, LineLine}
use Rattle.sk_base.specs.declared.Placed.{Placed}
use Rattle.sk_base.specs.SoundGraph.{IsSoundGraph}
use Rattle.sk_base.proofs.Deciding.{Decided}
use Rattle.sk_measure.specs.Holding.{FallsShort}
use Rattle.sk_measure.specs.Items.{Item, constraint, block, GivesLess, IsOffBy}
use Rattle.sk_measure.specs.Placing.{lies, PlacesExactly}
use Rattle.sk_measure.specs.WithSign.{with_sign}
use Rattle.sk_measure.proofs.Signing.{signed_off, less_missed}
use Rattle.sk_measure.proofs.SomeLeast.{own_constraint, own_block}
use Rattle.sk_tolerance.specs.declared.single.OffBy.{OffBy}
use Rattle.sk_tolerance.specs.declared.turned.Turned.{Turned}
use Rattle.sk_tolerance.specs.Offs.{is_length, IsOff, HasNumber}
use Rattle.sk_tolerance.specs.Telling.{IsCompared}
use Rattle.sk_tolerance.specs.Turns.{IsTurned}
use Rattle.sk_tolerance.proofs.Numbered.{edge_found, block_found}
use Rattle.sk_tolerance.proofs.Nearness.{edge_off, block_off}
use Rattle.sk_tolerance.proofs.OneMeasured.{one_first, not_turned}
use Rattle.sk_tolerance.proofs.SomeMeasures.{compared}

-- ---- one alone

one_by : (p : Placed) (item : Item) (a b : ℤ) → IsOffBy p item a → IsOffBy p item b → a ≡ b
one_by p item (pos m) (pos n) first second =
    let le = first.size.least n second.size.holds in
    let ge = second.size.least m first.size.holds in
    ap pos (omega (arith, le, ge))
one_by p item (negsuc m) (negsuc n) first second =
    let le = first.size.least (suc n) second.size.holds in
    let ge = second.size.least (suc m) first.size.holds in
    ap negsuc (omega (arith, le, ge))
one_by p item (pos m) (negsuc n) first second = absurd (let below = first.less.1 (second.less.0 (omega (arith, ints))) in omega (arith, ints, below))
one_by p item (negsuc m) (pos n) first second = absurd (let below = second.less.1 (first.less.0 (omega (arith, ints))) in omega (arith, ints, below))

pub one_off : (p : Placed) (g : Graph) (k : ConId) → HasNumber g k → (a b : OffBy) → IsOff p g k a → IsOff p g k b → (a.length ≡ b.length) × (a.off ≡ b.off)
one_off p g k (inl (e, e_in, named)) a b first second =
    let one = first.edge e e_in named in
    let other = second.edge e e_in named in
    (one.length ∙ sym other.length, one_by p (constraint e) a.off b.off one.by other.by)
one_off p g k (inr (d, d_in, named)) a b first second =
    let one = first.block d d_in named in
    let other = second.block d d_in named in
    (one.length ∙ sym other.length, one_by p (block d) a.off b.off one.by other.by)

pub one_compared : (signs : List Turned) (a b : Option Turned) → IsCompared signs a → IsCompared signs b → a ≡ b
one_compared signs None None first second = refl
one_compared signs (Some t) (Some u) first second = ap Some (one_first IsTurned signs t u first second)
one_compared signs None (Some u) first second = absurd (not_turned signs u first second)
one_compared signs (Some t) None first second = absurd (not_turned signs t second first)

-- ---- some

less_decided : (m n : ℕ) → Decided (m < n)
less_decided m n = elim (cases_lt m n) [ inl lt ↦ inl lt | inr le ↦ inr (λ lt. omega arith) ]

below_decided : (z : ℤ) → Decided (z <ℤ pos 0)
below_decided (pos n) = inr (λ below. omega (arith, ints, below))
below_decided (negsuc n) = inl (omega (arith, ints))

short_decided : (m : Measure) (u v : At) → Decided (FallsShort m u v)
short_decided (PointPoint len) (places.Point x y) (places.Point z t) = less_decided _ _
short_decided (PointLine len side) (places.Point x y) (places.Line a b c) = below_decided _
short_decided (LineLine ratio sense) (places.Line a b c) (places.Line d e f) = below_decided _
short_decided (PointPoint len) (places.Point x y) (places.Line a b c) = inr (λ h. h)
short_decided (PointPoint len) (places.Line a b c) v = inr (λ h. h)
short_decided (PointLine len side) (places.Point x y) (places.Point z r) = inr (λ h. h)
short_decided (PointLine len side) (places.Line a b c) v = inr (λ h. h)
short_decided (LineLine ratio sense) (places.Point x y) v = inr (λ h. h)
short_decided (LineLine ratio sense) (places.Line a b c) (places.Point x y) = inr (λ h. h)

as_test : (P : Type 0) → Decided P → (b : Bool) × (IsTrue b ↔ P)
as_test P (inl yes') = (true, ((λ is. yes'), (λ h. refl)))
as_test P (inr no') = (false, ((λ is. absurd (cc)), (λ h. absurd (no' h))))

module _ (g : Graph) (sound : IsSoundGraph g) (p : Placed) (exactly : PlacesExactly g p) (k : ConId) where
  pub some_off : HasNumber g k → (turned : Option Turned) → (off : OffBy) × IsOff p g k off × (off.turned ≡ turned)
  some_off (inl (e, e_in, named)) turned =
      let least = own_constraint g p sound exactly e e_in in
      let test = as_test (GivesLess p (constraint e)) (short_decided e.measure (lies p e.u) (lies p e.v)) in
      let by = signed_off p (constraint e) least.0 least.1 test.0 test.1 (less_missed p e) in
      let off : OffBy = record { length = is_length e.measure; off = with_sign test.0 least.0; turned = turned } in
      (off, edge_off g sound p exactly k off e (edge_found g sound k e e_in named) refl by, refl)
  some_off (inr (b, b_in, named)) turned =
      let least = own_block g p sound exactly b b_in in
      let by = signed_off p (block b) least.0 least.1 false ((λ is. absurd (cc)), (λ less. absurd less)) (λ less. absurd less) in
      let off : OffBy = record { length = true; off = with_sign false least.0; turned = turned } in
      (off, block_off g sound p exactly k off b (λ e e_in e_named. sound.blocks_apart e b e_in b_in (e_named ∙ sym named)) (block_found g sound k b b_in named) refl by, refl)

pub some_compared : (signs : List Turned) → (turned : Option Turned) × IsCompared signs turned
some_compared signs = elim (compared signs) [ inl all ↦ (None, all) | inr (t, first) ↦ (Some t, first) ]
