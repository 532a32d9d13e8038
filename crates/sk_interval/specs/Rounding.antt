-- Quotients of whole numbers, rounded down and up.
use Rattle.std.specs.Prelude.{ℤ, pos, negsuc, neg_ℤ, suc}
use Rattle.std.specs.Int.{int_div_euclid}

-- the greatest whole number that is at most n / d
unfoldable pub floor_of : ℤ → ℤ → ℤ
floor_of n (pos d) = int_div_euclid n (pos d)
floor_of n (negsuc d) = int_div_euclid (neg_ℤ n) (pos (suc d))

-- the least whole number that is at least n / d
unfoldable pub ceil_of : ℤ → ℤ → ℤ
ceil_of n d = neg_ℤ (floor_of (neg_ℤ n) d)
