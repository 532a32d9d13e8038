-- What an order of merges picks.
use Rattle.std.specs.Prelude.{ℕ, ◌<◌, ◌+◌, ◌-◌, ◌*◌, ◌%◌, ◌^◌, min}
use Rattle.std.proofs.Common.{arith}
use Rattle.std.proofs.Math.Nat.{mod-lt}
use Rattle.sk_close_by_order.specs.declared.chosen.Order.{Order}
use Rattle.sk_close_by_order.specs.declared.chosen.Order.TheVariants.{First, Last, Stride}

-- an order, and the number of the next call, from 0
pub record Choosing : Type 0 where
  pub order : Order
  pub call : ℕ

-- the place that is taken of so many choices
abbrev pub place_in : Order → ℕ → ℕ → ℕ
place_in First call count = 0
place_in Last call count = count - 1
place_in (Stride k) call count = (call * k) % count

abbrev pub place_of : Choosing → ℕ → ℕ
place_of c count = place_in c.order c.call count

-- the same order at the next call, which stays at the greatest number of 64 bits
abbrev pub next_call : Choosing → ℕ → Choosing
next_call c count = record { order = c.order; call = min (c.call + 1) (2 ^ 64 - 1) }

-- the place is below the count
pub place_below : (c : Choosing) (count : ℕ) → 0 < count → place_of c count < count
place_below c count some = told c.order
  where
    told : (o : Order) → place_in o c.call count < count
    told First = some
    told Last = omega arith
    told (Stride k) = mod-lt (c.call * k) some
