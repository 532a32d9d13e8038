-- Sizes of midpoints.
use Rattle.std.proofs.Common.{◌≡◌, ℕ, pos, ◌+ℤ◌, ◌*ℤ◌, ◌+◌, ◌*◌, ◌^◌, ◌≤◌, ◌<◌, unsigned_abs, pow-add, arith, refl, sym, ap, ◌∙◌, List, [], ◌∷◌, ◌++◌, length, get_or, take}
use Rattle.std.proofs.lemmas.Nat.{mul-le}
use Rattle.std.proofs.lemmas.Int.{ints, unsigned_abs-mul}
use Rattle.sk_interval.specs.Interval.{Interval}
use Rattle.sk_interval.proofs.PowerLemmas.{power_below, end_limit}
use Rattle.std.specs.Prelude.{map}
use Rattle.std.proofs.lemmas.List.{take_more, map-append}
use Rattle.sk_base.specs.declared.At.{At}
use Rattle.sk_base.specs.declared.Kind.{Kind}
use Rattle.sk_base.specs.declared.Node.{Node}
use Rattle.sk_steps.specs.declared.BoxOf.{BoxOf}
use Rattle.sk_steps.specs.declared.BoxOf.TheVariants.{Point, Line}
use Rattle.sk_steps.specs.Boxes.{kind_of}
use Rattle.sk_base.specs.declared.Spot.{Spot}
use Rattle.sk_place.specs.declared.boxes.BoxAt.{BoxAt}
use Rattle.sk_place.specs.Clusters.{nodes_of}
use Rattle.sk_place.specs.Rounding.{IsWithin, rounded_box, rounded, kind_at, nodes_at}

pub ends_limit : (F : ℕ) (x : Interval) → F ≤ 38 → IsWithin 50 F x → (unsigned_abs x.lo ≤ 2 ^ 88) × (unsigned_abs x.hi ≤ 2 ^ 88)
ends_limit F x few h = (let limit = end_limit F few in (omega (arith, h.0), omega (arith, h.1)))

pub within_50 : (k F : ℕ) (x : Interval) → k ≤ 50 → IsWithin k F x → IsWithin 50 F x
within_50 k F x few h = (let wide = power_below (k + F) (50 + F) (omega arith) in (omega (arith, h.0, wide), omega (arith, h.1, wide)))

-- a sum of two ends, in so many parts
pub parts_within : (k F parts most : ℕ) (x : Interval) → IsWithin k F x → 2 ^ k * parts ≤ most → unsigned_abs ((x.lo +ℤ x.hi) *ℤ pos parts) ≤ 2 * 2 ^ F * most
parts_within k F parts most x h few =
    let power : 2 ^ (k + F) ≡ 2 ^ k * 2 ^ F = pow-add 2 k F in
    let sum : unsigned_abs (x.lo +ℤ x.hi) ≤ 2 * (2 ^ k * 2 ^ F) = omega (arith, ints, h.0, h.1, power) in
    rw (unsigned_abs-mul (x.lo +ℤ x.hi) (pos parts)) (by_parts (unsigned_abs (x.lo +ℤ x.hi)) (2 ^ k) (2 ^ F) sum few)
  where
    by_parts : (s a b : ℕ) → s ≤ 2 * (a * b) → a * parts ≤ most → s * parts ≤ 2 * b * most
    by_parts s a b small few =
        let first = mul-le s parts (2 * (a * b)) parts small (omega arith) in
        let second = mul-le (a * parts) (2 * b) most (2 * b) few (omega arith) in
        omega (arith, first, second)

kept_kind : {G : Type 0} (F : ℕ) (b : BoxOf G) → kind_at (rounded_box F b) ≡ kind_of b
kept_kind F (Point x y) = refl
kept_kind F (Line a b c) = refl

-- the midpoints are of the same elements, each of its kind
pub kept_nodes : {G : Type 0} (F : ℕ) (bs : List (BoxAt G)) → nodes_at (map (rounded F) bs) ≡ nodes_of bs
kept_nodes F [] = refl
kept_nodes F (b ∷ bs) =
    let node : Kind → Node = λ k. record { elem = b.elem; kind = k } in
    ap (λ k. node k ∷ nodes_at (map (rounded F) bs)) (kept_kind F b.at) ∙ ap (λ ns. node (kind_of b.at) ∷ ns) (kept_nodes F bs)

pub round_more : {G : Type 0} (F : ℕ) (items : List (BoxAt G)) (i : ℕ) (b : BoxAt G) (spots : List Spot) (at : At) → i < length items → b ≡ get_or items i b
    → spots ≡ map (rounded F) (take i items) → at ≡ rounded_box F b.at → spots ++ record { elem = b.elem; at = at } ∷ [] ≡ map (rounded F) (take (i + 1) items)
round_more {G} F items i b spots at inside is so_far at_is =
    ap (λ (a : At). spots ++ record { elem = b.elem; at = a } ∷ []) at_is
    ∙ ap (λ (xs : List Spot). xs ++ rounded F b ∷ []) so_far
    ∙ ap (λ (x : BoxAt G). map (rounded F) (take i items) ++ rounded F x ∷ []) is
    ∙ sym (map-append (rounded F) (take i items) (get_or items i b ∷ []))
    ∙ ap (map (rounded F)) (sym (take_more items i b inside))
