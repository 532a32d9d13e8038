-- Lists of elements are compared place by place.
use Rattle.std.specs.Prelude.{◌≡◌, ◌<◌, ◌⊎◌, ◌==◌, ◌||◌, ◌&&◌, nat_lt, Bool, true, false, List, [], ◌∷◌}
use Rattle.sk_base.specs.declared.numbered.Elem.{Elem}

-- the first place where they differ decides, and else the shorter one comes before
abbrev pub ElementsBefore : List Elem → List Elem → Type 0
ElementsBefore [] [] = ⊥
ElementsBefore [] (y ∷ ys) = Unit {0}
ElementsBefore (x ∷ xs) [] = ⊥
ElementsBefore (x ∷ xs) (y ∷ ys) = (x.0 < y.0) ⊎ ((x ≡ y) × ElementsBefore xs ys)

-- whether the one list comes before the other
abbrev pub comes_before : List Elem → List Elem → Bool
comes_before [] [] = false
comes_before [] (y ∷ ys) = true
comes_before (x ∷ xs) [] = false
comes_before (x ∷ xs) (y ∷ ys) = nat_lt x.0 y.0 || ((x.0 == y.0) && comes_before xs ys)
