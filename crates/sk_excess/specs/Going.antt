-- What goes of some constraints, by any question to a graph and one of its constraints.
use Rattle.std.specs.Prelude.{◌≡◌, ◌↔◌, ◌&&◌, Bool, true, List, Contains}
use Rattle.sk_base.specs.declared.ConId.{ConId}
use Rattle.sk_base.specs.declared.Graph.{Graph}
use Rattle.sk_base.specs.Numbering.{con_number}
use Rattle.sk_base.specs.Rising.{IsRising}
use Rattle.sk_family.specs.Body.{Body}
use Rattle.sk_rules.specs.Reach.{IsClosed}
use Rattle.sk_spare.specs.Halving.{IsMadeOf}
use Rattle.sk_excess.specs.LeftOut.{is_kept, kept_graph, above, HasConstraint}

-- of these constraints one goes exactly where the question holds of it in the graph without the greater ones that go
pub record AreGoneOf (P : Graph → ConId → Type 0) (g : Graph) (some gone : List ConId) : Type 0 where
  pub exactly : (k : ConId) → Contains gone k ↔ (Contains some k × P (kept_graph (above k gone) g) k)
  pub rise : IsRising con_number gone

-- whether it passes, and is none of those that are set aside
abbrev pub but : (ConId → Bool) → List ConId → ConId → Bool
but passes aside k = passes k && is_kept aside k

-- the family is the closed one of all constraints that pass but for those that are set aside, which pass too
pub record IsBut (g : Graph) (passes : ConId → Bool) (aside : List ConId) (f : List Body) : Type 0 where
  pub there : (k : ConId) → Contains aside k → HasConstraint g k × (passes k ≡ true)
  pub made : IsMadeOf g (but passes aside) f
  pub closed : IsClosed g f
