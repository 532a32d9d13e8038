-- Elements and constraints are told apart by their numbers.
use Rattle.std.specs.Prelude.{◌≡◌, ◌==◌, ℕ, Bool, List}
use Rattle.std.specs.List.{list_any}
use Rattle.std.proofs.Common.{ap}
use Rattle.sk_base.specs.declared.numbered.Elem.{Elem}
use Rattle.sk_base.specs.declared.numbered.ConId.{ConId}

abbrev pub elem_number : Elem → ℕ
elem_number e = e.0

abbrev pub con_number : ConId → ℕ
con_number c = c.0

-- whether x is one of them
abbrev pub is_elem : List Elem → Elem → Bool
is_elem xs x = list_any (λ (y : Elem). y.0 == x.0) xs

pub elem_exact : (x y : Elem) → x.0 ≡ y.0 → x ≡ y
elem_exact x y e = let make : ℕ → Elem = λ n. record { 0 = n } in ap make e

pub con_exact : (x y : ConId) → x.0 ≡ y.0 → x ≡ y
con_exact x y e = let make : ℕ → ConId = λ n. record { 0 = n } in ap make e
