use Rattle.std.proofs.Common.{◌≡◌, ℕ, ◌+◌, ◌*◌, ◌<◌, ℤ, pos, ◌+ℤ◌, List, [], ◌∷◌, length, get_or, take, ap, sym, ◌∙◌, arith}
use Rattle.std.proofs.lemmas.Int.{ints}
use Rattle.std.proofs.lemmas.List.{take_more}
use Rattle.std.proofs.lemmas.List.Sums.{fold-append}
use Rattle.sk_base.specs.declared.Spot.{Spot}
use Rattle.sk_base.specs.Bounds.{IsWithin}
use Rattle.sk_report.specs.GrowReport.{x_of, y_of, x_sum, y_sum}
use Rattle.sk_report.proofs.grow.sums.Goals as goal

-- the sums with one place more
x_step : (spots : List Spot) (i : ℕ) (d : Spot) (old new : ℤ) → i < length spots → old ≡ x_sum (take i spots) → new ≡ old +ℤ x_of (get_or spots i d).at → new ≡ x_sum (take (i + 1) spots)
x_step spots i d old new within before step =
    step ∙ ap (λ z. z +ℤ x_of (get_or spots i d).at) before
    ∙ sym (ap (λ front. x_sum front) (take_more spots i d within) ∙ fold-append (λ sum (spot : Spot). sum +ℤ x_of spot.at) (pos 0) (take i spots) (get_or spots i d ∷ []))

y_step : (spots : List Spot) (i : ℕ) (d : Spot) (old new : ℤ) → i < length spots → old ≡ y_sum (take i spots) → new ≡ old +ℤ y_of (get_or spots i d).at → new ≡ y_sum (take (i + 1) spots)
y_step spots i d old new within before step =
    step ∙ ap (λ z. z +ℤ y_of (get_or spots i d).at) before
    ∙ sym (ap (λ front. y_sum front) (take_more spots i d within) ∙ fold-append (λ sum (spot : Spot). sum +ℤ y_of spot.at) (pos 0) (take i spots) (get_or spots i d ∷ []))

further : (i : ℕ) (z : ℤ) → IsWithin (9223372036854775808 * i + 9223372036854775808) z → IsWithin (9223372036854775808 * (i + 1)) z
further i z within = (omega (arith, ints, within.0), omega (arith, ints, within.1))

pub loop-spot-preserved : goal.loop-spot-preserved
loop-spot-preserved c =
    let i = c.loop-spot.spot-index in
    let before = c.loop-spot.invariant in
    record {
      x_is = x_step c.args.spots.now i _ c.loop-spot.sums.x c.with-sums.result.x c.loop-spot-test.true before.x_is c.with-sums.ensures.x;
      y_is = y_step c.args.spots.now i _ c.loop-spot.sums.y c.with-sums.result.y c.loop-spot-test.true before.y_is c.with-sums.ensures.y;
      x_within = further i c.with-sums.result.x (c.with-sums.ensures.x_within (9223372036854775808 * i) before.x_within);
      y_within = further i c.with-sums.result.y (c.with-sums.ensures.y_within (9223372036854775808 * i) before.y_within);
    }
