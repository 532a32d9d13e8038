-- The grids that can be chosen.
use Rattle.std.specs.Prelude.{ℕ}
use Rattle.sk_interval.specs.declared.G16.{G16}
use Rattle.sk_interval.specs.declared.G27.{G27}
use Rattle.sk_interval.specs.declared.G38.{G38}
use Rattle.sk_request.specs.declared.bits.Bits.{Bits}
use Rattle.sk_request.specs.declared.bits.Bits.TheVariants.{Sixteen, TwentySeven, ThirtyEight}

abbrev pub digits_of : Bits → ℕ
digits_of Sixteen = 16
digits_of TwentySeven = 27
digits_of ThirtyEight = 38

abbrev pub grid_of : Bits → Type 0
grid_of Sixteen = G16
grid_of TwentySeven = G27
grid_of ThirtyEight = G38
