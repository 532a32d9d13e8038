-- Names of clusters that are printed plainly.
use Rattle.std.specs.Prelude.{◌<◌, ◌≤◌}
use Rattle.sk_base.specs.declared.Name.{Name}
use Rattle.sk_base.specs.declared.Name.TheVariants.{Con, Step}

-- the number in the name is one that a claim may say
abbrev pub HasPlainNumber : Name → Type 0
HasPlainNumber (Con k) = (0 < k) × (k ≤ 999999)
HasPlainNumber (Step k) = (0 < k) × (k ≤ 999999)
