-- What the constraints of a sketch weigh together.
use Rattle.std.specs.Prelude.{ℕ, ◌*◌, ◌-◌, List, length, sum_by}
use Rattle.sk_base.specs.declared.Rule.{Rule}
use Rattle.sk_base.specs.declared.Rule.TheVariants.{Block}
use Rattle.sk_base.specs.declared.Constraint.{Constraint}
use Rattle.sk_base.specs.declared.Sketch.{Sketch}

-- a block of k pins weighs 2k - 3, any other rule 1
abbrev pub rule_weight : Rule → ℕ
rule_weight (Block pins) = 2 * length pins - 3
rule_weight other = 1

abbrev pub constraint_weight : Constraint → ℕ
constraint_weight c = rule_weight c.rule

-- what they weigh together
abbrev pub weight_together : List Constraint → ℕ
weight_together cs = sum_by constraint_weight cs

-- what is due for all elements of a sketch: 2n - 3 for n of them, nothing for one
abbrev pub due_for : Sketch → ℕ
due_for s = 2 * length s.elements - 3
