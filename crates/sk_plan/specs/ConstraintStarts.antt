-- What the constraints of a sketch start with, without its graph.
use Rattle.sk_base.specs.declared.Constraint.{Constraint}
use Rattle.sk_family.specs.Body.{Start, start_between}
use Rattle.sk_graph.specs.Naming.{named_by}

-- what a constraint starts with: its number, and the elements that it names
abbrev pub constraint_start : Constraint → Start
constraint_start c = start_between c.number (named_by c.rule)
