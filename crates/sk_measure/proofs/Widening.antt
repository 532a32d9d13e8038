-- What holds within n holds within more.
use Rattle.std.proofs.Common.{ℕ, ◌+◌, ◌-◌, ◌≤◌, List, get_or, arith}
use Rattle.std.proofs.lemmas.Nat.{mul-le}
use Rattle.sk_base.specs.declared.At.{At}
use Rattle.sk_base.specs.declared.At.TheVariants as places
use Rattle.sk_base.specs.declared.Measure.{Measure}
use Rattle.sk_base.specs.declared.Measure.TheVariants.{PointPoint, PointLine, LineLine}
use Rattle.sk_base.specs.declared.Pin.{Pin}
use Rattle.sk_base.specs.declared.Placed.{Placed}
use Rattle.sk_measure.specs.Holding.{IsLength, IsOffset, IsNormal, IsMet, AreAsGiven}
use Rattle.sk_measure.specs.Placing.{lies}
use Rattle.sk_measure.specs.Items.{Item, normal, constraint, block, IsPairMet, ArePinsMet, Holds}

longer : (shortest longest square n m : ℕ) → n ≤ m → IsLength shortest longest square n → IsLength shortest longest square m
longer shortest longest square n m le h = record {
  not_shorter = (let squares = mul-le (shortest - m) (shortest - m) (shortest - n) (shortest - n) (omega arith) (omega arith) in let was = h.not_shorter in omega (arith, squares, was));
  not_longer = (let squares = mul-le (longest + n) (longest + n) (longest + m) (longest + m) (omega arith) (omega arith) in let was = h.not_longer in omega (arith, squares, was));
}

wider : (unit offset n m : ℕ) → n ≤ m → IsOffset unit offset n → IsOffset unit offset m
wider unit offset n m le h = (let more = mul-le n unit m unit le (omega arith) in omega (arith, more, h))

met_more : (measure : Measure) (u v : At) (n m : ℕ) → n ≤ m → IsMet measure u v n → IsMet measure u v m
met_more (PointPoint len) (places.Point x y) (places.Point z r) n m le h = longer _ _ _ n m le h
met_more (PointLine len side) (places.Point x y) (places.Line a b c) n m le h = wider _ _ n m le h
met_more (LineLine ratio sense) (places.Line a b c) (places.Line d e f) n m le h = wider _ _ n m le h
met_more (PointPoint len) (places.Point x y) (places.Line a b c) n m le h = absurd h
met_more (PointPoint len) (places.Line a b c) v n m le h = absurd h
met_more (PointLine len side) (places.Point x y) (places.Point z r) n m le h = absurd h
met_more (PointLine len side) (places.Line a b c) v n m le h = absurd h
met_more (LineLine ratio sense) (places.Point x y) v n m le h = absurd h
met_more (LineLine ratio sense) (places.Line a b c) (places.Point x y) n m le h = absurd h

given_more : (a b : Pin) (u v : At) (n m : ℕ) → n ≤ m → AreAsGiven a b u v n → AreAsGiven a b u v m
given_more a b (places.Point x y) (places.Point z r) n m le h = longer _ _ _ n m le h
given_more a b (places.Point x y) (places.Line d e f) n m le h = absurd h
given_more a b (places.Line d e f) v n m le h = absurd h

normal_more : (line : At) (n m : ℕ) → n ≤ m → IsNormal line n → IsNormal line m
normal_more (places.Point x y) n m le h = absurd h
normal_more (places.Line a b c) n m le h = wider _ _ n m le h

module _ (p : Placed) where
  pub pair_more : (a b : Pin) (n m : ℕ) → n ≤ m → IsPairMet p n a b → IsPairMet p m a b
  pair_more a b n m le h = given_more a b (lies p a.elem) (lies p b.elem) n m le h

  pub pins_more : (pins : List Pin) (n m : ℕ) → n ≤ m → ArePinsMet p pins n → ArePinsMet p pins m
  pins_more pins n m le h i j d i_j j_in = pair_more (get_or pins i d) (get_or pins j d) n m le (h i j d i_j j_in)

  pub holds_more : (item : Item) (n m : ℕ) → n ≤ m → Holds p item n → Holds p item m
  holds_more (normal line) n m le h = normal_more (lies p line) n m le h
  holds_more (constraint e) n m le h = met_more e.measure (lies p e.u) (lies p e.v) n m le h
  holds_more (block b) n m le h = pins_more b.pins n m le h
