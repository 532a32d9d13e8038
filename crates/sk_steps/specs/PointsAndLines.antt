-- Points and lines among the inputs, and what is made of them.
use Rattle.std.specs.Prelude.{ℕ, ◌+◌, ◌*◌}
use Rattle.sk_steps.specs.Expressions.{Expression, input, ◌⊕◌, ◌⊖◌, ◌⊗◌}

pub record PointAt : Type 0 where
  pub x : Expression
  pub y : Expression

-- the line a x + b y = c
pub record LineAt : Type 0 where
  pub a : Expression
  pub b : Expression
  pub c : Expression

-- the box that stands i-th among the inputs, from 0; each has three places
abbrev pub point : ℕ → PointAt
point i = record { x = input (3 * i); y = input (3 * i + 1) }

abbrev pub line : ℕ → LineAt
line i = record { a = input (3 * i); b = input (3 * i + 1); c = input (3 * i + 2) }

-- the square of the distance of two points
abbrev pub dist2 : PointAt → PointAt → Expression
dist2 p q = (q.x ⊖ p.x) ⊗ (q.x ⊖ p.x) ⊕ (q.y ⊖ p.y) ⊗ (q.y ⊖ p.y)

-- how far a point lies on the left of a line
abbrev pub gap : PointAt → LineAt → Expression
gap p l = (l.a ⊗ p.x ⊕ l.b ⊗ p.y) ⊖ l.c
