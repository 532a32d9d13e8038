-- What two lists of elements share, one element after another.
use Rattle.std.proofs.Common.{◌≡◌, ℕ, ◌+◌, ◌<◌, true, false, List, [], ◌∷◌, ◌++◌, length, get_or, take}
use Rattle.std.proofs.lemmas.List.{append-nil}
use Rattle.std.proofs.lemmas.List.Elements.{filter_more}
use Rattle.sk_base.specs.declared.Elem.{Elem}
use Rattle.sk_family.specs.Sharing.{shared}
use Rattle.sk_base.specs.Numbering.{is_elem}

module _ (xs ys : List Elem) (i : ℕ) (d : Elem) (i_in : i < length xs) where
  pub shared_more : is_elem ys (get_or xs i d) ≡ true → shared (take (i + 1) xs) ys ≡ shared (take i xs) ys ++ get_or xs i d ∷ []
  shared_more here = rw (filter_more (is_elem ys) xs i d i_in, here)

  pub shared_same : is_elem ys (get_or xs i d) ≡ false → shared (take (i + 1) xs) ys ≡ shared (take i xs) ys
  shared_same other = rw (filter_more (is_elem ys) xs i d i_in, other, append-nil)
