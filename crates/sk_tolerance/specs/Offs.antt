-- How far off one constraint is where the elements are placed.
use Rattle.std.specs.Prelude.{◌≡◌, ◌⊎◌, ◌<◌, ◌≤◌, ◌^◌, ℕ, Bool, true, false, Contains, unsigned_abs}
use Rattle.sk_base.specs.declared.ConId.{ConId}
use Rattle.sk_base.specs.declared.Elem.{Elem}
use Rattle.sk_base.specs.declared.Kind.TheVariants as kinds
use Rattle.sk_base.specs.declared.Measure.{Measure}
use Rattle.sk_base.specs.declared.Measure.TheVariants.{PointPoint, PointLine, LineLine}
use Rattle.sk_base.specs.declared.Edge.{Edge}
use Rattle.sk_base.specs.declared.Block.{Block}
use Rattle.sk_base.specs.declared.Graph.{Graph}
use Rattle.sk_base.specs.declared.Placed.{Placed}
use Rattle.sk_base.specs.SoundGraph.{HasNode}
use Rattle.sk_measure.specs.Items.{normal, constraint, block, Holds, IsOffBy}
use Rattle.sk_tolerance.specs.declared.single.OffBy.{OffBy}

-- a distance and a height are lengths, in nanometres; an angle is in parts per 10^9
abbrev pub is_length : Measure → Bool
is_length (PointPoint len) = true
is_length (PointLine len side) = true
is_length (LineLine ratio sense) = false

-- the constraint between two elements is off by so much
pub record IsEdgeOff (p : Placed) (e : Edge) (off : OffBy) : Type 0 where
  pub length : off.length ≡ is_length e.measure
  pub by : IsOffBy p (constraint e) off.off

-- the block is off by so much
pub record IsBlockOff (p : Placed) (b : Block) (off : OffBy) : Type 0 where
  pub length : off.length ≡ true
  pub by : IsOffBy p (block b) off.off

-- what the graph has of that number, a constraint between two elements or a block, is off by so much
pub record IsOff (p : Placed) (g : Graph) (k : ConId) (off : OffBy) : Type 0 where
  pub edge : (e : Edge) → Contains g.edges e → e.id ≡ k → IsEdgeOff p e off
  pub block : (b : Block) → Contains g.blocks b → b.id ≡ k → IsBlockOff p b off

-- the graph has a constraint of that number
abbrev pub HasNumber : Graph → ConId → Type 0
HasNumber g k = ((e : Edge) × Contains g.edges e × (e.id ≡ k)) ⊎ ((b : Block) × Contains g.blocks b × (b.id ≡ k))

-- the normals of all lines have length one, within w
abbrev pub NormalsHold : Placed → Graph → ℕ → Type 0
NormalsHold p g w = (line : Elem) → HasNode g line kinds.Line → Holds p (normal line) w

-- a length is off by less than 2^62, an angle by at most 1.001·10^9
pub record IsNear (off : OffBy) : Type 0 where
  pub length : off.length ≡ true → unsigned_abs off.off < 2 ^ 62
  pub angle : off.length ≡ false → unsigned_abs off.off ≤ 1001000000

-- within the bounds of places a length is off by less than 2^63, an angle by at most 8·10^9
pub record IsBoundedOff (off : OffBy) : Type 0 where
  pub length : off.length ≡ true → unsigned_abs off.off < 2 ^ 63
  pub angle : off.length ≡ false → unsigned_abs off.off ≤ 8000000000
