-- How clusters are named in texts.
use Rattle.std.specs.Prelude.{ℕ, List, ◌∷◌}
use Rattle.std.specs.Fmt.{decimal}
use Rattle.sk_base.specs.declared.Name.{Name}
use Rattle.sk_base.specs.declared.Name.TheVariants.{Con, Step}

-- a `c` or an `s`, and the number
abbrev pub cluster_name : Name → List ℕ
cluster_name (Con k) = 99 ∷ decimal k
cluster_name (Step k) = 115 ∷ decimal k
