-- A list around one of its places.
use Rattle.std.proofs.Common.{◌≡◌, ℕ, ◌+◌, ◌<◌, List, [], ◌∷◌, ◌++◌, length, get_or, take, drop, ap, sym, ◌∙◌, append_assoc}
use Rattle.std.proofs.lemmas.List.{take-append-drop, take_more}

pub around_place : {X : Type 0} (xs : List X) (i : ℕ) (d : X) → i < length xs → xs ≡ take i xs ++ get_or xs i d ∷ drop (i + 1) xs
around_place xs i d i_in =
    sym (take-append-drop (i + 1) xs)
    ∙ ap (λ front. front ++ drop (i + 1) xs) (take_more xs i d i_in)
    ∙ append_assoc (take i xs) (get_or xs i d ∷ []) (drop (i + 1) xs)
