-- How far off constraints are where the elements of their sketch lie, each on a line.
use Rattle.std.specs.Prelude.{◌≡◌, ℕ, List, [], ◌∷◌, ◌++◌, Some}
use Rattle.sk_base.specs.declared.ConId.{ConId}
use Rattle.sk_base.specs.declared.Constraint.{Constraint}
use Rattle.sk_base.specs.declared.Placed.{Placed}
use Rattle.sk_base.specs.declared.Sketch.{Sketch}
use Rattle.sk_graph.specs.SketchGraph.{graph_of}
use Rattle.sk_entry.specs.NumberedConstraint.{constraint_of}
use Rattle.sk_tolerance.specs.declared.OffBy.{OffBy}
use Rattle.sk_tolerance.specs.Offs.{IsOff}
use Rattle.sk_tolerance.specs.Telling.{IsCompared}
use Rattle.sk_tolerance.specs.Turns.{senses}

-- the constraint of that number is off by so much where the elements of the sketch lie
pub record IsOffThere (at : Placed) (s : Sketch) (k : ConId) (off : OffBy) : Type 0 where
  pub constraint : Constraint
  pub numbered : constraint_of s k ≡ Some constraint
  pub by : IsOff at (graph_of s) k off
  pub turned : IsCompared (senses s at k constraint.rule) off.turned

-- for each of these constraints, in order, the line that tells how far off it is
abbrev pub AreOffsPut : (ConId → OffBy → List ℕ) → Sketch → Placed → List ConId → List ℕ → Type 0
AreOffsPut line s at [] text = text ≡ []
AreOffsPut line s at (k ∷ ks) text = (off : OffBy) × (more : List ℕ) × IsOffThere at s k off × AreOffsPut line s at ks more × (text ≡ line k off ++ more)
