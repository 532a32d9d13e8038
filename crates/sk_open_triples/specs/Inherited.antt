-- What a cluster that has grown out of another has instead of the triples of that one.
use Rattle.std.specs.Prelude.{◌≡◌, ◌≢◌, ◌⊎◌, List, Contains}
use Rattle.sk_base.specs.declared.Name.{Name}
use Rattle.sk_family.specs.declared.Merge.{Merge}
use Rattle.sk_family.specs.declared.Merge.TheVariants.{Two, Three}
use Rattle.sk_open_triples.specs.declared.heir.Heir.{Heir}

-- p and q are the other two names of a triple that has the name
abbrev pub IsBeside : Merge → Name → Name → Name → Type 0
IsBeside (Two x y) n p q = ⊥
IsBeside (Three x y z) n p q =
    ((x ≡ n) × (y ≡ p) × (z ≡ q)) ⊎ (((x ≢ n) × (y ≡ n) × (x ≡ p) × (z ≡ q)) ⊎ ((x ≢ n) × (y ≢ n) × (z ≡ n) × (x ≡ p) × (y ≡ q)))

-- what the heir has instead of a triple of its core
abbrev pub Inherits : Heir → List Name → Merge → Merge → Type 0
Inherits heir gone t m = (p : Name) × (q : Name) × IsBeside t heir.core p q × ¬ Contains gone p × ¬ Contains gone q × (m ≡ Three heir.name p q)
