-- The numbers of a crossing fit 128 bits.
use Rattle.std.proofs.Common.{◌≡◌, ◌≢◌, ◌≤◌, ◌^◌, ℤ, pos, ◌+ℤ◌, ◌*ℤ◌, unsigned_abs, false, int_eq, FitsSigned, arith}
use Rattle.std.proofs.lemmas.Int.{ints}
use Rattle.std.specs.Int.{w128}
use Rattle.sk_base.specs.Bounds.{IsWithin}
use Rattle.sk_interval.proofs.AroundLemmas.{size_of_bounds}
use Rattle.sk_base.proofs.Magnitudes.{product_within, fits}

pub record AreFitting (p d n det : ℤ) : Type 0 where
  pub along : FitsSigned w128 (p *ℤ det)
  pub across : FitsSigned w128 (d *ℤ n)
  pub total : FitsSigned w128 ((p *ℤ det) +ℤ (d *ℤ n))
  pub all : FitsSigned w128 (pos 1000 *ℤ ((p *ℤ det) +ℤ (d *ℤ n)))
  pub few : unsigned_abs (pos 1000 *ℤ ((p *ℤ det) +ℤ (d *ℤ n))) ≤ 2 ^ 126

pub fitting : (p d n det : ℤ) → IsWithin 1000000000 p → IsWithin 2000000000 d → IsWithin 8000000000000000000 n → IsWithin 8000000000000000000 det → AreFitting p d n det
fitting p d n det p_in d_in n_in det_in =
    let along = product_within 1000000000 8000000000000000000 p det p_in det_in in
    let across = product_within 2000000000 8000000000000000000 d n d_in n_in in
    let total : IsWithin 24000000000000000000000000000 ((p *ℤ det) +ℤ (d *ℤ n)) = (omega (arith, ints, along.0, along.1, across.0, across.1), omega (arith, ints, along.0, along.1, across.0, across.1)) in
    let all = product_within 1000 24000000000000000000000000000 (pos 1000) ((p *ℤ det) +ℤ (d *ℤ n)) (omega (arith, ints), omega (arith, ints)) total in
    record {
      along = fits _ _ along (omega arith);
      across = fits _ _ across (omega arith);
      total = fits _ _ total (omega arith);
      all = fits _ _ all (omega arith);
      few = (let size = size_of_bounds _ _ all.0 all.1 in omega (arith, size));
    }

pub isnt_zero : (z : ℤ) → int_eq z (pos 0) ≡ false → z ≢ pos 0
isnt_zero z isnt is = grind (arith, ints)
