-- What a search by halves tells of an element.
use Rattle.std.proofs.Common.{ℕ, List, length, get_or, refl, subst}
use Rattle.std.specs.Prelude.{◌↔◌, Contains, IsTrue, Result, Ok, Err, is_ok}
use Rattle.std.specs.List.Sorted.{IsBinarySearchResult, IsSearchInRange}
use Rattle.std.specs.Ordering.{nat_cmp}
use Rattle.std.proofs.lemmas.List.Elements.{Contains-get_or}
use Rattle.sk_base.specs.declared.Elem.{Elem}
use Rattle.sk_base.specs.Numbering.{elem_number, elem_exact}
use Rattle.sk_base.specs.Rising.{IsRising}
use Rattle.sk_base.proofs.Halves.{number_found, none_missed}

pub found_where_in : (xs : List Elem) (e : Elem) → IsRising elem_number xs → (r : Result ℕ ℕ) → IsSearchInRange r (length xs) → IsBinarySearchResult (λ (y : Elem). nat_cmp y.0 e.0) xs r
    → IsTrue (is_ok r) ↔ Contains xs e
found_where_in xs e rises (Ok i) within found = (
  (λ _. subst (λ x. Contains xs x) (elem_exact (get_or xs i e) e (number_found elem_number xs e.0 i found e)) (Contains-get_or xs i e within)),
  (λ _. refl),
)
found_where_in xs e rises (Err i) within parted = ((λ h. absurd (cc)), (λ e_in. absurd (none_missed elem_number xs e.0 rises i parted e e_in refl)))
