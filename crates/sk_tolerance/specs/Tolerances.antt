-- What has a tolerance: the normals of the lines, the constraints between two elements, and the blocks.
use Rattle.std.specs.Prelude.{◌≡◌, ◌⊎◌, ℕ, ◌<◌, List, [], ◌∷◌, ◌++◌, map, Contains, Option, MatchOption}
use Rattle.std.specs.List.{flat_map}
use Rattle.sk_base.specs.declared.Elem.{Elem}
use Rattle.sk_base.specs.declared.Kind.{Kind}
use Rattle.sk_base.specs.declared.Kind.TheVariants as kinds
use Rattle.sk_base.specs.declared.Measure.{Measure}
use Rattle.sk_base.specs.declared.Measure.TheVariants.{PointPoint, PointLine, LineLine}
use Rattle.sk_base.specs.declared.Node.{Node}
use Rattle.sk_base.specs.declared.Edge.{Edge}
use Rattle.sk_base.specs.declared.Block.{Block}
use Rattle.sk_base.specs.declared.Graph.{Graph}
use Rattle.sk_base.specs.declared.Placed.{Placed}
use Rattle.sk_base.specs.Rising.{IsRising, union}
use Rattle.sk_base.specs.SoundGraph.{HasNode}
use Rattle.sk_tolerance.specs.declared.spotted.Spotted.{Spotted}
use Rattle.sk_tolerance.specs.declared.spotted.Spotted.TheVariants.{Con, Line}
use Rattle.sk_tolerance.specs.declared.beyond.Beyond.{Beyond}
use Rattle.sk_tolerance.specs.First.{IsFirst}
use Rattle.sk_measure.specs.Holding.{tolerance_of}
use Rattle.sk_measure.specs.Items.{Item, normal, constraint, block, Holds, IsOwnLeast}

-- how the item is named
abbrev pub spotted_as : Item → Spotted
spotted_as (normal line) = Line line
spotted_as (constraint e) = Con e.id
spotted_as (block b) = Con b.id

-- the number in that name
abbrev pub number_in : Spotted → ℕ
number_in (Con k) = k.0
number_in (Line e) = e.0

abbrev pub number_of : Item → ℕ
number_of item = number_in (spotted_as item)

-- each of the items holds within n
abbrev pub AllHold : Placed → List Item → ℕ → Type 0
AllHold p items n = (item : Item) → Contains items item → Holds p item n

-- one of the items doesn't hold within n
abbrev pub IsMissed : Placed → List Item → ℕ → Type 0
IsMissed p items n = (item : Item) × Contains items item × ¬ Holds p item n

abbrev pub normal_of_kind : Elem → Kind → List Item
normal_of_kind e kinds.Point = []
normal_of_kind e kinds.Line = normal e ∷ []

-- the normals of the lines, in order
abbrev pub normals : List Node → List Item
normals nodes = flat_map (λ (n : Node). normal_of_kind n.elem n.kind) nodes

abbrev pub distance_of_measure : Edge → Measure → List Item
distance_of_measure e (PointPoint len) = constraint e ∷ []
distance_of_measure e (PointLine len side) = constraint e ∷ []
distance_of_measure e (LineLine ratio sense) = []

-- the constraints on a distance between two points or from a line, in order
abbrev pub distances : List Edge → List Item
distances edges = flat_map (λ (e : Edge). distance_of_measure e e.measure) edges

abbrev pub angle_of_measure : Edge → Measure → List Item
angle_of_measure e (PointPoint len) = []
angle_of_measure e (PointLine len side) = []
angle_of_measure e (LineLine ratio sense) = constraint e ∷ []

-- the constraints on an angle, in order
abbrev pub angles : List Edge → List Item
angles edges = flat_map (λ (e : Edge). angle_of_measure e e.measure) edges

-- the blocks, in order
abbrev pub rigid : List Block → List Item
rigid blocks = map (λ (b : Block). block b) blocks

-- what the tolerance of lengths is of: the distances and the blocks, in order of number
abbrev pub lengthwise : Graph → List Item
lengthwise g = union number_of (rigid g.blocks) (distances g.edges)

-- what the tolerance of angles is of: the normals, then the angles
abbrev pub anglewise : Graph → List Item
anglewise g = normals g.nodes ++ angles g.edges

-- the constraints between two elements, in order
abbrev pub between : List Edge → List Item
between edges = map (λ (e : Edge). constraint e) edges

-- these and the blocks, in order of number
abbrev pub constraints : Graph → List Item
constraints g = union number_of (rigid g.blocks) (between g.edges)

-- the normals, then all constraints
abbrev pub everything : Graph → List Item
everything g = normals g.nodes ++ constraints g

-- all has the items of both lists, in order of number as each of them is
pub record AreMerged (xs ys all : List Item) : Type 0 where
  pub first_rises : IsRising number_of xs
  pub second_rises : IsRising number_of ys
  pub rises : IsRising number_of all
  pub first : (item : Item) → Contains xs item → Contains all item
  pub second : (item : Item) → Contains ys item → Contains all item
  pub no_others : (item : Item) → Contains all item → Contains xs item ⊎ Contains ys item

-- each normal holds within w, each constraint within t or w, as it asks, and each block within t
pub record AllHoldWithin (p : Placed) (g : Graph) (t w : ℕ) : Type 0 where
  pub lines : (line : Elem) → HasNode g line kinds.Line → Holds p (normal line) w
  pub edges : (e : Edge) → Contains g.edges e → Holds p (constraint e) (tolerance_of e.measure t w)
  pub blocks : (b : Block) → Contains g.blocks b → Holds p (block b) t

-- the first item whose own least number is n has that name
pub record IsWorst (p : Placed) (items : List Item) (n : ℕ) (at : Spotted) : Type 0 where
  pub item : Item
  pub first : IsFirst (λ i. IsOwnLeast p i n) items item
  pub named : spotted_as item ≡ at

-- there is a worst item, unless there is no item
abbrev pub IsWorstUnlessNone : Placed → List Item → ℕ → Option Spotted → Type 0
IsWorstUnlessNone p items n worst = MatchOption worst (items ≡ []) (IsWorst p items n)

-- the item's own least number is above the limit
abbrev pub IsAbove : Placed → ℕ → Item → Type 0
IsAbove p limit item = (n : ℕ) × IsOwnLeast p item n × (limit < n)

-- the first item whose own least number is above the limit, and that number
pub record IsFirstBeyond (p : Placed) (items : List Item) (limit : ℕ) (b : Beyond) : Type 0 where
  pub item : Item
  pub first : IsFirst (IsAbove p limit) items item
  pub named : spotted_as item ≡ b.at
  pub least : IsOwnLeast p item b.least
  pub limited : b.limit ≡ limit
