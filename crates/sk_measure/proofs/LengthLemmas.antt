-- The least tolerance of a length, by the roots of the square.
use Rattle.std.proofs.Common.{ℕ, ◌+◌, ◌-◌, ◌≤◌, arith}
use Rattle.std.specs.Prelude.{max}
use Rattle.std.proofs.lemmas.Nat.{mul-le}
use Rattle.sk_root.specs.Roots.{IsGreatestBelow, IsLeastAbove}
use Rattle.sk_measure.specs.Least.{IsLeast}
use Rattle.sk_measure.specs.Holding.{IsLength}

pub least_length : (shortest longest square low high : ℕ) → IsGreatestBelow square low → IsLeastAbove square high → IsLeast (IsLength shortest longest square) (max (shortest - low) (high - longest))
least_length shortest longest square low high below above = record {
  holds = record {
    not_shorter = (
        let t = max (shortest - low) (high - longest) in
        let short : shortest - t ≤ low = omega arith in
        let squares = mul-le (shortest - t) (shortest - t) low low short short in
        let root = below.square in
        omega (arith, squares, root));
    not_longer = (
        let t = max (shortest - low) (high - longest) in
        let long : high ≤ longest + t = omega arith in
        let squares = mul-le high high (longest + t) (longest + t) long long in
        let root = above.square in
        omega (arith, squares, root));
  };
  least = λ t h. (
      let short = below.greatest (shortest - t) h.not_shorter in
      let long = above.least (longest + t) h.not_longer in
      omega (arith, short, long));
}
