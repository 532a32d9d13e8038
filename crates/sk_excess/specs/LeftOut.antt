-- What a minimal choice of a cluster's constraints leaves out. They are looked at once each, from the greatest number
-- to the least.
use Rattle.std.specs.Prelude.{◌≡◌, ◌↔◌, nat_lt, List, Contains, filter}
use Rattle.sk_base.specs.declared.ConId.{ConId}
use Rattle.sk_base.specs.declared.Graph.{Graph}
use Rattle.sk_base.specs.Numbering.{con_number}
use Rattle.sk_base.specs.Rising.{IsRising}
use Rattle.sk_family.specs.Body.{Start, starts}
use Rattle.sk_rules.specs.JustSome.{with_just}
pub use Rattle.sk_spare.specs.Numbers.{is_number, is_kept}
use Rattle.sk_spare.specs.Sparing.{IsSpare}

-- the graph without the constraints that are left out
abbrev pub kept_graph : List ConId → Graph → Graph
kept_graph left g = with_just (is_kept left) g

-- those of the numbers that are greater than k
abbrev pub above : ConId → List ConId → List ConId
above k numbers = filter (λ (j : ConId). nat_lt k.0 j.0) numbers

-- the graph has the constraint of that number
abbrev pub HasConstraint : Graph → ConId → Type 0
HasConstraint g k = (s : Start) × Contains (starts g) s × (s.number ≡ k)

-- a constraint is left out exactly where it is spare in the graph without the greater ones that are left out
pub record AreLeftOut (g : Graph) (left : List ConId) : Type 0 where
  pub exactly : (k : ConId) → Contains left k ↔ IsSpare (kept_graph (above k left) g) k
  pub rise : IsRising con_number left
