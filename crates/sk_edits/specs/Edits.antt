-- The sketch that a list of edits makes, and the numbers that they give.
use Rattle.std.specs.Prelude.{ℕ, ◌+◌, ◌==◌, if◌then◌else◌, max, fold, map, List}
use Rattle.sk_base.specs.declared.ConId.{ConId}
use Rattle.sk_base.specs.declared.Um.{Um}
use Rattle.sk_base.specs.declared.Ratio.{Ratio}
use Rattle.sk_base.specs.declared.Element.{Element}
use Rattle.sk_base.specs.declared.Constraint.{Constraint}
use Rattle.sk_base.specs.declared.Rule.{Rule}
use Rattle.sk_base.specs.declared.Rule.TheVariants as rule
use Rattle.sk_base.specs.declared.Sketch.{Sketch}
use Rattle.sk_entry.specs.Growth.{empty_sketch, with_element, with_constraint}
use Rattle.sk_edits.specs.declared.edit.Edit.{Edit}
use Rattle.sk_edits.specs.declared.edit.Edit.TheVariants as edit
use Rattle.sk_edits.specs.Changes.{without}

abbrev pub element_number : Element → ℕ
element_number e = e.number.0

abbrev pub constraint_number : Constraint → ℕ
constraint_number c = c.number.0

-- a distance with a new length, and an angle with a new ratio
abbrev pub with_length : Um → Rule → Rule
with_length len (rule.Distance u v old) = rule.Distance u v len
with_length len r = r

abbrev pub with_ratio : Ratio → Rule → Rule
with_ratio ratio (rule.Angle l m old) = rule.Angle l m ratio
with_ratio ratio r = r

-- the constraint with a changed rule, where it has the number
abbrev pub changed : ConId → (Rule → Rule) → Constraint → Constraint
changed k change c = record { number = c.number; rule = if c.number.0 == k.0 then change c.rule else c.rule }

-- the sketch after the edit
abbrev pub applied : Edit → Sketch → Sketch
applied (edit.Element e) s = with_element s e
applied (edit.Constraint c) s = with_constraint s c
applied (edit.Dropped k) s = record { elements = s.elements; constraints = without constraint_number k.0 s.constraints }
applied (edit.Length k len) s = record { elements = s.elements; constraints = map (changed k (with_length len)) s.constraints }
applied (edit.Turned k ratio) s = record { elements = s.elements; constraints = map (changed k (with_ratio ratio)) s.constraints }
applied (edit.Erased x) s = record { elements = without element_number x.0 s.elements; constraints = s.constraints }

-- the edits applied in order to the sketch without elements
abbrev pub sketch_of : List Edit → Sketch
sketch_of edits = fold (λ s e. applied e s) empty_sketch edits

-- the numbers that an edit gives
abbrev pub element_given : Edit → ℕ
element_given (edit.Element e) = e.number.0
element_given _ = 0

abbrev pub constraint_given : Edit → ℕ
constraint_given (edit.Constraint c) = c.number.0
constraint_given _ = 0

-- one more than the greatest number that the edits gave
abbrev pub next_element : List Edit → ℕ
next_element edits = fold (λ n e. max n (element_given e)) 0 edits + 1

abbrev pub next_constraint : List Edit → ℕ
next_constraint edits = fold (λ n e. max n (constraint_given e)) 0 edits + 1
