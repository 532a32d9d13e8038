-- The neighbours of a line: the points and centres that share a constraint with it.
use Rattle.std.specs.Prelude.{◌==◌, ℤ, List, Option, Some, None, option_and_then, if◌then◌else◌}
use Rattle.std.specs.List.{filter_map}
use Rattle.sk_base.specs.declared.numbered.Elem.{Elem}
use Rattle.sk_base.specs.declared.placed.Placed.{Placed}
use Rattle.sk_base.specs.declared.sketch.Constraint.{Constraint}
use Rattle.sk_base.specs.declared.sketch.Rule.{Rule}
use Rattle.sk_base.specs.declared.sketch.Rule.TheVariants.{Distance, On, Tangent, Outside, Inside, Angle, Block}
use Rattle.sk_base.specs.Places.{place_of}
use Rattle.sk_dxf.specs.declared.course.Course.{Course}
use Rattle.sk_dxf.specs.Courses.{along}

-- of two elements the other one, where this is one of them
abbrev pub other_of : Elem → Elem → Elem → Option Elem
other_of e u v = if u.0 == e.0 then Some v else (if v.0 == e.0 then Some u else None)

-- the element that a rule names beside this line; no line is among those of a block
abbrev pub partner_in : Elem → Rule → Option Elem
partner_in e (Distance u v len) = other_of e u v
partner_in e (On u v) = other_of e u v
partner_in e (Tangent u v) = other_of e u v
partner_in e (Outside u v) = other_of e u v
partner_in e (Inside u v) = other_of e u v
partner_in e (Angle l m ratio) = other_of e l m
partner_in e (Block pins) = None

-- how far along the line of that number the neighbour lies that a constraint gives it
abbrev pub neighbour_along : Placed → Elem → Course → Constraint → Option ℤ
neighbour_along p e line c = option_and_then (along line) (option_and_then (place_of p) (partner_in e c.rule))

-- how far along the line of that number each of its neighbours lies
abbrev pub neighbours_along : Placed → Elem → Course → List Constraint → List ℤ
neighbours_along p e line constraints = filter_map (neighbour_along p e line) constraints
