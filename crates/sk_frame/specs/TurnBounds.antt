-- Directions that aren't 0, and turns within their bounds.
use Rattle.std.specs.Prelude.{◌≡◌, ◌≤◌, ◌^◌, pos, max, unsigned_abs}
use Rattle.sk_orient.specs.declared.Vector.{Vector}
use Rattle.sk_orient.specs.Vectors.{IsShort}

-- one of the coordinates isn't 0
abbrev pub IsSomewhere : Vector → Type 0
IsSomewhere v = ¬ ((v.x ≡ pos 0) × (v.y ≡ pos 0))

-- the greater part has 31 binary digits
pub record IsTurn (v : Vector) : Type 0 where
  pub short : IsShort 2147483647 v
  pub turns : 2 ^ 30 ≤ max (unsigned_abs v.x) (unsigned_abs v.y)
