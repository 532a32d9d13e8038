-- The construction of w from u and v, by their kinds.
use Rattle.std.specs.Prelude.{◌≡◌, ℕ, List, [], ◌++◌, Result}
use Rattle.sk_base.specs.declared.Sign.{Sign}
use Rattle.sk_base.specs.declared.Kind.{Kind}
use Rattle.sk_base.specs.declared.Kind.TheVariants.{Point, Line}
use Rattle.sk_interval.specs.declared.Cause.{Cause}
use Rattle.sk_interval.specs.Interval.{Interval}
use Rattle.sk_steps.specs.declared.boxes.BoxOf.{BoxOf}
use Rattle.sk_steps.specs.declared.boxes.Given.{Given}
use Rattle.sk_steps.specs.declared.what.What.{What}
use Rattle.sk_steps.specs.Expressions.{Expression}
use Rattle.sk_steps.specs.Quantities.{evaluate}
use Rattle.sk_steps.specs.Boxes.{kind_of, numbers, box_of}
use Rattle.sk_steps.specs.Constructions.{point_by_points, line_by_points, point_by_line, line_by_line, point_by_lines}

-- the quantities that give w, by the kinds of u, v and w
abbrev pub construction : Sign → Kind → Kind → Kind → List (What × Expression)
construction root Point Point Point = point_by_points root
construction root Point Point Line = line_by_points root
construction root Point Line Point = point_by_line root
construction root Point Line Line = line_by_line
construction root Line Line Point = point_by_lines
construction root Line Line Line = []
construction root Line Point w = []

abbrev pub inputs : {G : Type 0} → Given G → List Interval
inputs g = numbers g.u ++ (numbers g.v ++ (numbers g.ux ++ (numbers g.wx ++ (numbers g.vy ++ numbers g.wy))))

-- the box of w, or the first quantity that has a cause, with that
abbrev pub third_element : {G : Type 0} → ℕ → Given G → Result (BoxOf G) (What × Cause)
third_element F g = box_of (kind_of g.wx) (evaluate F (inputs g) (construction g.root (kind_of g.u) (kind_of g.v) (kind_of g.wx)))

-- the kinds of u, v and w: of different ones u is the point, and not all are lines
abbrev pub HasConstruction : Kind → Kind → Kind → Type 0
HasConstruction Point v w = Unit {0}
HasConstruction Line Line Point = Unit {0}
HasConstruction Line Line Line = ⊥
HasConstruction Line Point w = ⊥

-- an element is of one kind in each child, and there is a construction
pub record IsConstructible {G : Type 0} (g : Given G) : Type 0 where
  pub u_alike : kind_of g.ux ≡ kind_of g.u
  pub v_alike : kind_of g.vy ≡ kind_of g.v
  pub w_alike : kind_of g.wy ≡ kind_of g.wx
  pub possible : HasConstruction (kind_of g.u) (kind_of g.v) (kind_of g.wx)
