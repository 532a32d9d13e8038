-- Sketches with rigid blocks, and the version that has a line for them.
use Rattle.std.specs.Prelude.{Bool, true, false, if◌then◌else◌}
use Rattle.std.specs.List.{list_any}
use Rattle.sk_base.specs.declared.Rule.{Rule}
use Rattle.sk_base.specs.declared.Rule.TheVariants.{Block}
use Rattle.sk_base.specs.declared.Constraint.{Constraint}
use Rattle.sk_base.specs.declared.Sketch.{Sketch}
use Rattle.sk_lines.specs.declared.Version.{Version}
use Rattle.sk_lines.specs.declared.Version.TheVariants.{One, Two}

abbrev pub is_block : Rule → Bool
is_block (Block pins) = true
is_block _ = false

abbrev pub has_block : Sketch → Bool
has_block s = list_any (λ (c : Constraint). is_block c.rule) s.constraints

-- the least version that has a line for all that the sketch has
abbrev pub version_for : Sketch → Version
version_for s = if has_block s then Two else One
