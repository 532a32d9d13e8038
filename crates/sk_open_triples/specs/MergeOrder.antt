-- In which order merges stand.
use Rattle.std.specs.Prelude.{◌≡◌, ◌⊎◌, List, [], ◌∷◌}
use Rattle.sk_base.specs.declared.Name.{Name}
use Rattle.sk_base.specs.ClusterNames.{IsBelow}
use Rattle.sk_family.specs.declared.Merge.{Merge}
use Rattle.sk_family.specs.Merges.{names_of}

-- the one list of names comes before the other, compared place by place
abbrev pub NamesBefore : List Name → List Name → Type 0
NamesBefore [] [] = ⊥
NamesBefore [] (n ∷ ns) = Unit {0}
NamesBefore (m ∷ ms) [] = ⊥
NamesBefore (m ∷ ms) (n ∷ ns) = IsBelow m n ⊎ ((m ≡ n) × NamesBefore ms ns)

abbrev pub ComesFirst : Merge → Merge → Type 0
ComesFirst m n = NamesBefore (names_of m) (names_of n)
