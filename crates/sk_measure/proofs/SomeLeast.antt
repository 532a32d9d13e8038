-- Where the elements of a graph are placed, each line's normal, each constraint and each block has its own least number.
use Rattle.std.proofs.Common.{◌≢◌, refl, ℕ, zero, suc, ◌+◌, ◌*◌, ◌<◌, ◌≤◌, ℤ, pos, negsuc, unsigned_abs, List, length, get_or, take, subst, add-one, arith}
use Rattle.std.specs.Prelude.{All, Contains, max}
use Rattle.std.specs.Int.{div_ceil}
use Rattle.std.proofs.lemmas.Int.{ints}
use Rattle.std.proofs.lemmas.List.{take_all}
use Rattle.sk_base.specs.declared.At.{At}
use Rattle.sk_base.specs.declared.At.TheVariants as places
use Rattle.sk_base.specs.declared.Elem.{Elem}
use Rattle.sk_base.specs.declared.Edge.{Edge}
use Rattle.sk_base.specs.declared.Block.{Block}
use Rattle.sk_base.specs.declared.Pin.{Pin}
use Rattle.sk_base.specs.declared.Graph.{Graph}
use Rattle.sk_base.specs.declared.Kind.TheVariants as kinds
use Rattle.sk_base.specs.declared.Measure.{Measure}
use Rattle.sk_base.specs.declared.Measure.TheVariants.{PointPoint, PointLine, LineLine}
use Rattle.sk_base.specs.declared.Placed.{Placed}
use Rattle.sk_base.specs.SoundGraph.{IsSoundGraph, HasNode}
use Rattle.sk_base.specs.Places.{IsPoint, IsLine}
use Rattle.sk_root.specs.Roots.{floor_root, ceil_root, IsGreatestBelow, IsLeastAbove}
use Rattle.sk_root.proofs.RootLemmas.{root_below, floor_root-bounds, ceil_root-least}
use Rattle.sk_measure.specs.Least.{IsLeast}
use Rattle.sk_measure.specs.Offsets.{billion, distance_squared, angle_unit}
use Rattle.sk_measure.specs.Holding.{IsOffset, IsNormal, IsMet, FitsKinds, given_squared, AreAsGiven}
use Rattle.sk_measure.specs.Placing.{lies, IsModerate, IsPlacedAs, IsPinPlaced, PlacesExactly}
use Rattle.sk_measure.specs.Items.{normal, constraint, block, IsPairMet, ArePinsMet, AreMetWith, IsOwnLeast}
use Rattle.sk_measure.proofs.BlockLeast.{none_with, none_met, least_with_more, least_met_more}
use Rattle.sk_measure.proofs.LengthLemmas.{least_length}
use Rattle.sk_measure.proofs.OffsetLemmas.{least_offset}
use Rattle.sk_measure.proofs.Placings.{ends_fit, measurable, block_measurable, any_pin}

greatest_root : (n : ℕ) → IsGreatestBelow n (floor_root n)
greatest_root n = (let b = floor_root-bounds n in record { square = b.0; greatest = λ s h. root_below s (floor_root n) n h b.1 })

least_root : (n : ℕ) → IsLeastAbove n (ceil_root n)
least_root n = (let b = ceil_root-least n in record { square = b.0; least = b.1 })

abbrev SomeLeast : (ℕ → Type 0) → Type 0
SomeLeast P = (n : ℕ) × IsLeast P n

within_unit : (unit offset : ℕ) → 0 < unit → SomeLeast (IsOffset unit offset)
within_unit unit offset some = (div_ceil offset unit, least_offset unit offset some)

unit_positive : (p q : ℤ) → p ≢ pos 0 → 0 < billion * (unsigned_abs p + unsigned_abs q)
unit_positive (pos zero) q slanted = absurd (slanted refl)
unit_positive (pos (suc n)) q slanted = omega (arith, ints)
unit_positive (negsuc n) q slanted = omega (arith, ints)

least_met : (m : Measure) (u v : At) → FitsKinds m u v → IsModerate m → SomeLeast (IsMet m u v)
least_met (PointPoint len) (places.Point x y) (places.Point z t) fits moderate =
    let square = distance_squared x y z t in
    (_, least_length (1000 * unsigned_abs len.0) (1000 * unsigned_abs len.0) square (floor_root square) (ceil_root square) (greatest_root square) (least_root square))
least_met (PointLine len side) (places.Point x y) (places.Line a b c) fits moderate = within_unit _ _ (omega arith)
least_met (LineLine ratio sense) (places.Line a b c) (places.Line d e f) fits moderate = within_unit (angle_unit ratio) _ (unit_positive ratio.p ratio.q moderate.0)
least_met (PointPoint len) (places.Line a b c) v fits moderate = absurd fits.0
least_met (PointPoint len) (places.Point x y) (places.Line a b c) fits moderate = absurd fits.1
least_met (PointLine len side) (places.Line a b c) v fits moderate = absurd fits.0
least_met (PointLine len side) (places.Point x y) (places.Point z t) fits moderate = absurd fits.1
least_met (LineLine ratio sense) (places.Point x y) v fits moderate = absurd fits.0
least_met (LineLine ratio sense) (places.Line a b c) (places.Point x y) fits moderate = absurd fits.1

least_normal : (at : At) → IsLine at → SomeLeast (IsNormal at)
least_normal (places.Point x y) line = absurd line
least_normal (places.Line a b c) line = within_unit _ _ (omega arith)

least_given : (a b : Pin) (u v : At) → IsPoint u → IsPoint v → SomeLeast (AreAsGiven a b u v)
least_given a b (places.Point x y) (places.Point z t) first second =
    let given = given_squared a b in
    let square = distance_squared x y z t in
    (_, least_length (floor_root given) (ceil_root given) square (floor_root square) (ceil_root square) (greatest_root square) (least_root square))
least_given a b (places.Point x y) (places.Line c d e) first second = absurd second
least_given a b (places.Line c d e) v first second = absurd first

module _ (p : Placed) (pins : List Pin) (placed : All (IsPinPlaced p) pins) where
  -- so many of the pins lie as far from a further one as they are given
  least_with : (further : Pin) → IsPoint (lies p further.elem) → (i : ℕ) → i ≤ length pins → SomeLeast (AreMetWith p (take i pins) further)
  least_with further at_point zero inside = (0, none_with p further)
  least_with further at_point (suc i) inside =
      let so_far = least_with further at_point i (omega arith) in
      let pin = get_or pins i any_pin in
      let at : IsPlacedAs p pin.elem kinds.Point = placed i any_pin (omega arith) in
      let here : SomeLeast (λ (t : ℕ). IsPairMet p t pin further) = least_given pin further (lies p pin.elem) (lies p further.elem) at.has_kind at_point in
      subst (λ (k : ℕ). SomeLeast (AreMetWith p (take k pins) further)) (add-one i)
      (max so_far.0 here.0, least_with_more p pins i any_pin further so_far.0 here.0 (omega arith) so_far.1 here.1)

  -- and from each other
  least_among : (i : ℕ) → i ≤ length pins → SomeLeast (ArePinsMet p (take i pins))
  least_among zero inside = (0, none_met p)
  least_among (suc i) inside =
      let so_far = least_among i (omega arith) in
      let pin = get_or pins i any_pin in
      let at : IsPlacedAs p pin.elem kinds.Point = placed i any_pin (omega arith) in
      let here = least_with pin at.has_kind i (omega arith) in
      subst (λ (k : ℕ). SomeLeast (ArePinsMet p (take k pins))) (add-one i)
      (max so_far.0 here.0, least_met_more p pins i any_pin so_far.0 here.0 (omega arith) so_far.1 here.1)

  least_pins : SomeLeast (ArePinsMet p pins)
  least_pins = subst (λ (xs : List Pin). SomeLeast (ArePinsMet p xs)) (take_all (length pins) pins (omega arith)) (least_among (length pins) (omega arith))

module _ (g : Graph) (p : Placed) (sound : IsSoundGraph g) (exactly : PlacesExactly g p) where
  pub own_normal : (e : Elem) → HasNode g e kinds.Line → (n : ℕ) × IsOwnLeast p (normal e) n
  own_normal e h = least_normal (lies p e) (exactly.nodes (record { elem = e; kind = kinds.Line }) h).has_kind

  pub own_constraint : (e : Edge) → Contains g.edges e → (n : ℕ) × IsOwnLeast p (constraint e) n
  own_constraint e e_in = (let can = measurable g p sound exactly e e_in in least_met e.measure (lies p e.u) (lies p e.v) (ends_fit p e.u e.v e.measure can.ends) can.moderate)

  pub own_block : (b : Block) → Contains g.blocks b → (n : ℕ) × IsOwnLeast p (block b) n
  own_block b b_in = least_pins p b.pins (block_measurable g p sound exactly b b_in).placed
