-- Which kinds of elements each constraint takes.
use Rattle.std.specs.Prelude.{Bool, true, false, ◌&&◌, ◌||◌, not}
use Rattle.sk_base.specs.declared.Shape.{Shape}
use Rattle.sk_base.specs.declared.Shape.TheVariants as shape
use Rattle.sk_base.specs.Drawn.{is_line}
use Rattle.sk_lines.specs.declared.Keyword.{Keyword}
use Rattle.sk_lines.specs.declared.Keyword.TheVariants.{Distance, On, Tangent, Outside, Inside, Angle}

abbrev pub is_circle : Shape → Bool
is_circle (shape.Circle x y r) = true
is_circle _ = false

-- `distance` takes all but two lines; `on` a point or a centre and a line, or a point and a circle; `tangent` a line
-- and a circle, in either order; `outside` and `inside` two circles; `angle` two lines
abbrev pub takes : Keyword → Shape → Shape → Bool
takes Distance u v = not (is_line u && is_line v)
takes On u v = (not (is_line u) && is_line v) || (not (is_line u) && not (is_circle u) && is_circle v)
takes Tangent u v = (is_line u && is_circle v) || (is_circle u && is_line v)
takes Outside u v = is_circle u && is_circle v
takes Inside u v = is_circle u && is_circle v
takes Angle u v = is_line u && is_line v
takes _ u v = false
