-- Constraints by their numbers: those of a list, and all others.
use Rattle.std.specs.Prelude.{◌==◌, not, Bool, List}
use Rattle.std.specs.List.{list_any}
use Rattle.sk_base.specs.declared.ConId.{ConId}

-- whether it is one of these
abbrev pub is_number : List ConId → ConId → Bool
is_number numbers k = list_any (λ (j : ConId). j.0 == k.0) numbers

-- whether it is none of those that are left out
abbrev pub is_kept : List ConId → ConId → Bool
is_kept left k = not (is_number left k)
